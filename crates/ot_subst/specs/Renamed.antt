-- The binders that were renamed on the way to a term.
use Rattle.std.specs.Prelude.{◌≡◌, ℕ, List, [], ◌∷◌, ◌⊎◌, map}
use Rattle.ot_logic.specs.Trees.{Ty}
use Rattle.ot_logic.specs.NamedTerms.{Renaming}
use Rattle.ot_logic.specs.Naming.{numbers}
use Rattle.ot_term.specs.TermTable.{variable_of}
use Rattle.ot_term.specs.declared.term.VarKey.{VarKey}
use Rattle.ot_subst.specs.declared.renamed.Renamed.{Renamed}
use Rattle.ot_subst.specs.declared.renamed.Renamed.TheVariants.{Outermost, Binder'}

-- the binders as they were and as they are, the innermost first
abbrev pub pairs_of : Renamed → List (VarKey × VarKey)
pairs_of Outermost = []
pairs_of (Binder' v w p around) = (v.now, w.now) ∷ pairs_of around

-- a binder was v, or has become w
abbrev pub Meets : List (VarKey × VarKey) → VarKey → VarKey → Type 0
Meets [] v w = ⊥
Meets (p ∷ ps) v w = (v ≡ p.0) ⊎ (w ≡ p.1) ⊎ Meets ps v w

-- the same over the trees of the types
abbrev pub renaming_of : List (Ty ℕ) → List (VarKey × VarKey) → Renaming numbers
renaming_of tys = map (λ p. (variable_of tys p.0, variable_of tys p.1))
