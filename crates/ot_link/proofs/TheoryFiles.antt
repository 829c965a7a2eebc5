-- The theory file of a path, and what goes on with it.
use Rattle.std.specs.Prelude.{Result, Ok}
use Rattle.std.proofs.Common.{◌≡◌, ◌∙◌, ℕ, List}
use Rattle.ot_kernel.specs.State as kernel
use Rattle.ot_theory.specs.Theory.{TheoryText, theory}
use Rattle.ot_link.specs.Stops.{Linked, Setting, answered, ◌>>=◌}
use Rattle.ot_link.specs.Planned.{in_theory}
use Rattle.ot_link.specs.Link.{text_at, theory_at}
use Rattle.ot_link.specs.Answers.{Stops, Comes}
use Rattle.ot_link.specs.declared.fault.LinkFault.{LinkFault}
use Rattle.ot_link.proofs.Parts.{IsRest, rest-next, stops-first, stops-rest, comes-rest}

module _ {A : Type 0} (k : kernel.State) (e : Setting) (path : List ℕ) (next : TheoryText → Linked A) where
  abbrev parsed : List ℕ → Linked TheoryText
  parsed text = answered (in_theory path (theory text))

  -- its text isn't read
  pub file-unread : (err : LinkFault) → Stops k err (text_at e path) → Stops k err (theory_at e path >>= next)
  file-unread err h = stops-first k (theory_at e path) next err (stops-first k (text_at e path) parsed err h)

  module _ (text : List ℕ) (is : (text_at e path).answer ≡ Ok text) where
    behind_text : IsRest (parsed text) (theory_at e path)
    behind_text = rest-next (text_at e path) parsed text is

    -- the text is no theory file
    pub file-unparsed : (err : LinkFault) → Stops k err (answered (in_theory path (theory text)))
        → Stops k err (theory_at e path >>= next)
    file-unparsed err h = stops-first k (theory_at e path) next err (stops-rest k _ _ behind_text err h)

    -- the text is one
    pub file-parsed : {X : Type 0} (t : TheoryText) (view : X → A) (x : Result X LinkFault)
        → in_theory path (theory text) ≡ Ok t → Comes k view x (next t) → Comes k view x (theory_at e path >>= next)
    file-parsed t view x u h =
        comes-rest k _ _ (rest-next (theory_at e path) next t (behind_text.answer ∙ u)) view x h
