-- Blocks in their order, one after another.
use Rattle.std.specs.Prelude.{Ok, codes, slice_get}
use Rattle.std.proofs.Common.{◌≡◌, ◌∙◌, ◌<◌, ◌+◌, ℕ, List, [], ◌∷◌, length, drop, get_or, sym, ap, subst, add-one}
use Rattle.std.proofs.Math.Seq.{drop-cons}
use Rattle.ot_kernel.specs.State as kernel
use Rattle.ot_blocks.specs.Structure.{block_places}
use Rattle.ot_machine.specs.States.{Context, RunState}
use Rattle.ot_link.specs.Stops.{Linked, answered, ◌>>=◌, Setting}
use Rattle.ot_link.specs.Planned.{Planned}
use Rattle.ot_link.specs.Blocks.{Ran, Opener}
use Rattle.ot_link.specs.Link.{Done, none_done, with_done, imported, run_at, run_blocks, exports_at, run_planned}
use Rattle.ot_link.specs.Answers.{Stops}
use Rattle.ot_link.specs.declared.fault.LinkFault.{LinkFault}
use Rattle.ot_link.proofs.Parts.{IsRest, rest-same, rest-on, rest-next, stops-first, stops-rest}

module _ (e : Setting) (opener : Opener) (path : List ℕ) (outer : Context) (f : Planned) (start : RunState) where
  abbrev whole : Linked (Done × RunState)
  whole = run_blocks e opener path outer f f.plan.order none_done start

  abbrev finish : Done × RunState → Linked Ran
  finish ended =
      answered (Ok (record { exports = exports_at ended.0 (block_places f.blocks (codes "main")); run = ended.1 }))

  -- the blocks from a place on are what is left of the run
  abbrev pub IsLeft : ℕ → Done → RunState → Type 0
  IsLeft i done r = IsRest (run_blocks e opener path outer f (drop i f.plan.order) done r)
      (run_blocks e opener path outer f f.plan.order none_done start)

  pub all-left : IsLeft 0 none_done start
  all-left = rest-same whole

  module _ (i b : ℕ) (done : Done) (r : RunState) (h : i < length f.plan.order) (is : b ≡ get_or f.plan.order i b)
      (left : IsLeft i done r) where
    abbrev pub now : Linked Ran
    now = run_at e opener path outer (imported f.plan.imports done b) (slice_get f.blocks b) r

    abbrev later : Ran → Linked (Done × RunState)
    later ran = run_blocks e opener path outer f (drop (i + 1) f.plan.order) (with_done done b ran.exports) ran.run

    cut : drop i f.plan.order ≡ b ∷ drop (i + 1) f.plan.order
    cut = drop-cons f.plan.order i b h ∙ (λ j. sym is j ∷ drop (sym (add-one i) j) f.plan.order)

    next-left : IsRest (now >>= later) whole
    next-left = subst (λ bs. IsRest (run_blocks e opener path outer f bs done r) whole) cut left

    -- in an outer context that is the same
    module _ (within : Context) (same : within ≡ outer) where
      abbrev pub now-in : Linked Ran
      now-in = run_at e opener path within (imported f.plan.imports done b) (slice_get f.blocks b) r

      as-now : now-in ≡ now
      as-now = ap (λ c. run_at e opener path c (imported f.plan.imports done b) (slice_get f.blocks b) r) same

      -- a block ran
      pub one-ran : (ran : Ran) → now-in.answer ≡ Ok ran → IsLeft (i + 1) (with_done done b ran.exports) ran.run
      one-ran ran went = rest-on (rest-next now later ran (ap (λ l. l.answer) (sym as-now) ∙ went)) next-left

      -- a block stopped
      pub one-stopped : (k : kernel.State) (err : LinkFault) → Stops k err now-in
          → Stops k err (run_planned e opener path outer start f)
      one-stopped k err s =
          stops-first k whole finish err
          (stops-rest k (now >>= later) whole next-left err
          (stops-first k now later err (subst (Stops k err) as-now s)))

  -- all of them ran
  pub all-ran : (i : ℕ) (done : Done) (r : RunState) → drop i f.plan.order ≡ [] → IsLeft i done r
      → (run_planned e opener path outer start f).answer
      ≡ Ok (record { exports = exports_at done (block_places f.blocks (codes "main")); run = r })
  all-ran i done r none left =
      let end : IsRest (answered (Ok (done, r))) whole =
      subst (λ bs. IsRest (run_blocks e opener path outer f bs done r) whole) none left in
      (rest-next whole finish (done, r) end.answer).answer
