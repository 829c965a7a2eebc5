-- How a package is opened, and how a theory file that was read is run.
use Rattle.std.specs.Prelude.{◌||◌, Vec, Result, Ok, Err}
use Rattle.std.specs.Global.{Global}
use Rattle.std.specs.List.{list_any}
use Rattle.std.specs.Str.{bytes_eq}
use Rattle.std.proofs.Common.{◌≡◌, ◌∙◌, ℕ, zero, suc, List, [], ◌∷◌, ◌++◌, Bool, true, false, refl, sym, ap}
use Rattle.ot_kernel.specs.State as kernel
use Rattle.ot_theory.specs.Theory.{TheoryText}
use Rattle.ot_blocks.specs.Structure.{PlanText, plan}
use Rattle.ot_blocks.specs.Paths.{package_path}
use Rattle.ot_blocks.specs.declared.fault.StructureFault.TheVariants.{PackageCycle, PackageDepth}
use Rattle.ot_machine.specs.States.{Context, RunState}
use Rattle.ot_link.specs.Stops.{InStructure, Linked, answered, Setting}
use Rattle.ot_link.specs.Planned.{in_structure}
use Rattle.ot_link.specs.Blocks.{Ran, Opener}
use Rattle.ot_link.specs.Link.{unless_open, opener, run_file, run_theory, run_planned}
use Rattle.ot_link.specs.Answers.{Stops, Comes}
use Rattle.ot_link.specs.Running.{chain_of}
use Rattle.ot_link.specs.declared.fault.LinkFault.{LinkFault}
use Rattle.ot_link.proofs.Parts.{stops-first, comes-rest, rest-next}

-- ---- packages

-- a name among those that are held
pub any-now : (full : List ℕ) (chain : List (Vec ℕ Global)) → list_any (λ name. bytes_eq full name.items) chain
    ≡ list_any (bytes_eq full) (chain_of chain)
any-now full [] = refl
any-now full (name ∷ chain) = ap (λ b. bytes_eq full name.items || b) (any-now full chain)

module _ (e : Setting) (chain : List (List ℕ)) (path : List ℕ) (line : ℕ) (full : List ℕ) (c : Context)
    (r : RunState) where
  abbrev pub inside : ℕ → Linked Ran
  inside n = run_file e (opener n e (chain ++ full ∷ []) (package_path e.packages full))
      (package_path e.packages full) c r

  unless-true : (b : Bool) (l : Linked Ran) → b ≡ true → list_any (bytes_eq full) chain ≡ b
      → unless_open chain path line full l ≡ answered (Err (InStructure path line PackageCycle))
  unless-true b l t is = rw (is ∙ t) refl

  unless-false : (b : Bool) (l : Linked Ran) → b ≡ false → list_any (bytes_eq full) chain ≡ b
      → unless_open chain path line full l ≡ l
  unless-false b l t is = rw (is ∙ t) refl

  pub open-again : (left : ℕ) → true ≡ list_any (bytes_eq full) chain
      → (opener left e chain path line full c r).answer ≡ Err (InStructure path line PackageCycle)
  open-again zero t =
      ap (λ l. l.answer) (unless-true true (answered (Err (InStructure path line PackageDepth))) refl (sym t))
  open-again (suc n) t = ap (λ l. l.answer) (unless-true true (inside n) refl (sym t))

  pub open-deep : (left : ℕ) → left ≡ 0 → false ≡ list_any (bytes_eq full) chain
      → (opener left e chain path line full c r).answer ≡ Err (InStructure path line PackageDepth)
  open-deep left z t =
      rw z (ap (λ l. l.answer)
      (unless-false false (answered (Err (InStructure path line PackageDepth))) refl (sym t)))

  pub open-inside : (left less : ℕ) → left ≡ suc less → false ≡ list_any (bytes_eq full) chain
      → opener left e chain path line full c r ≡ inside less
  open-inside left less z t = rw z (unless-false false (inside less) refl (sym t))

-- ---- theory files

module _ (k : kernel.State) (e : Setting) (opener : Opener) (path : List ℕ) (outer : Context) (r : RunState)
    (t : TheoryText) where
  abbrev blocks_run : PlanText → Linked Ran
  blocks_run p = run_planned e opener path outer r (record { blocks = t.blocks; plan = p })

  -- its blocks have no plan
  pub theory-unplanned : (err : LinkFault) → Stops k err (answered (in_structure path (plan t.blocks)))
      → Stops k err (run_theory e opener path outer r t)
  theory-unplanned err h = stops-first k (answered (in_structure path (plan t.blocks))) blocks_run err h

  -- its blocks run
  pub theory-ran : {X : Type 0} (p : PlanText) (view : X → Ran) (x : Result X LinkFault)
      → in_structure path (plan t.blocks) ≡ Ok p
      → Comes k view x (run_planned e opener path outer r (record { blocks = t.blocks; plan = p }))
      → Comes k view x (run_theory e opener path outer r t)
  theory-ran p view x v h =
      comes-rest k _ _ (rest-next (answered (in_structure path (plan t.blocks))) blocks_run p v) view x h
