-- The readable summary of a run depends on the set of its symbols alone.
use Rattle.std.specs.Prelude.{◌≡◌, ◌++◌, ℕ, true, List, map, codes}
use Rattle.std.specs.List.{list_any}
use Rattle.std.proofs.Common.{◌∙◌, ap}
use Rattle.ot_logic.specs.Names.{Name}
use Rattle.ot_logic.specs.Trees.{Sequent, Symbol}
use Rattle.ot_text.specs.Texts.{ascending}
use Rattle.ot_text.specs.Sections.{section_text}
use Rattle.ot_forms.specs.Words.{IsNotation}
use Rattle.ot_forms.proofs.SameSymbols.{AreAlike, alike, same-notation, same-readable_text}
use Rattle.ot_kernel.specs.State.{State, theorem_at}
use Rattle.ot_pretty.specs.Summary.{readable_summary, hidden_at, summary_at, IsHiddenAt}

same-summary : (hs gs : List (Symbol Name)) → AreAlike hs gs → (qs rs : List (Sequent Name))
    → readable_summary hs qs rs ≡ readable_summary gs qs rs
same-summary hs gs same qs rs = λ i.
    section_text true (codes "assumptions") (ascending (map (λ q. same-readable_text hs gs same q i) qs))
    ++ section_text true (codes "theorems") (map (λ q. same-readable_text hs gs same q i) rs)

-- ---- of a run

module _ (s : State) (shown : List Name) (theorems : List ℕ) (hidden : List (Symbol Name))
    (is : IsHiddenAt s shown theorems hidden) where
  pub alike-at : AreAlike hidden (hidden_at s shown theorems)
  alike-at test = ap (list_any test) is.hides ∙ alike shown is.symbols _ is.same test

  pub stated-summary : summary_at s hidden theorems ≡ summary_at s (hidden_at s shown theorems) theorems
  stated-summary = same-summary hidden (hidden_at s shown theorems) alike-at s.assumptions
      (map (theorem_at s) theorems)

  pub stated-notation : IsNotation hidden → IsNotation (hidden_at s shown theorems)
  stated-notation = same-notation hidden (hidden_at s shown theorems) alike-at
