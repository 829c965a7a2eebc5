-- What one text says, of sequents and of definitions.
use Rattle.std.specs.Prelude.{◌≡◌, ℕ, true, List, ◌++◌}
use Rattle.std.specs.List.{All}
use Rattle.ot_logic.specs.Names.{Name}
use Rattle.ot_logic.specs.Naming.{names}
use Rattle.ot_logic.specs.Trees.{Sequent, Definition, ConDef, ListDef, TyDef}
use Rattle.ot_logic.specs.Hol.{IsWellTyped, IsSequent, same_sequent, Accepted}
use Rattle.ot_text.specs.Sections.{definition_text}
use Rattle.ot_text.specs.Laws.{OneSequent, OneSequentInFront}

-- what a definition speaks of is well typed: its term, or its premise
abbrev pub HasTypedPremise : Definition Name → Type 0
HasTypedPremise (ConDef n t) = IsWellTyped names t
HasTypedPremise (ListDef ps q) = IsSequent names q
HasTypedPremise (TyDef n abs rep vs q) = IsSequent names q

-- one and the same sequent, or definition, in whatever order hypotheses stand
abbrev pub IsSequentOf : Sequent Name → Sequent Name → Type 0
IsSequentOf q r = same_sequent names q r ≡ true

abbrev pub IsDefinitionOf : Definition Name → Definition Name → Type 0
IsDefinitionOf (ListDef ps q) (ListDef qs r) = (ps ≡ qs) × IsSequentOf q r
IsDefinitionOf (TyDef n abs rep vs q) (TyDef m a r ws p) = (n ≡ m) × (abs ≡ a) × (rep ≡ r) × (vs ≡ ws)
    × IsSequentOf q p
IsDefinitionOf d e = d ≡ e

-- two definitions with one text are one
abbrev pub OneDefinition : Type 0
OneDefinition = (d e : Definition Name) → HasTypedPremise d → HasTypedPremise e
    → definition_text d ≡ definition_text e → IsDefinitionOf d e

-- a definition's text shows where it ends, whatever stands behind it
abbrev pub OneDefinitionInFront : Type 0
OneDefinitionInFront = (d e : Definition Name) (r s : List ℕ) → HasTypedPremise d → HasTypedPremise e
    → definition_text d ++ r ≡ definition_text e ++ s → IsDefinitionOf d e × (r ≡ s)

-- what an accepted definition speaks of is well typed, where the assumptions are of propositions alone
abbrev pub AcceptedAreTyped : Type 0
AcceptedAreTyped = (al : List (Sequent Name)) (dl : List (Definition Name)) → All (IsSequent names) al
    → Accepted names al dl → All HasTypedPremise dl

-- two well typed sequents, or definitions with well typed premises, with one text are one, up to the order of
-- hypotheses; also where bytes follow, behind a sequent none that begin with a digit. Accepted definitions have such
-- premises (`typed`)
pub record TextsNameOne : Type 0 where
  pub sequents : OneSequent
  pub sequents_in_front : OneSequentInFront
  pub definitions : OneDefinition
  pub definitions_in_front : OneDefinitionInFront
  pub typed : AcceptedAreTyped
