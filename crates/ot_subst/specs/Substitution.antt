-- What contracts see of a substitution: its pairs, by number.
use Rattle.std.specs.Prelude.{ℕ, ◌<◌, ◌==◌, ◌&&◌, Bool, Option, List, [], ◌∷◌}
use Rattle.std.specs.Prelude.{◌++◌, map, length, is_some, if◌then◌else◌, refl}
use Rattle.std.specs.List.{All}
use Rattle.std.specs.Map.{lookup}
use Rattle.std.specs.Coded.{Coded, coded_list, coded×, coded_ℕ, code_by}
use Rattle.ot_logic.specs.Trees.{Tm}
use Rattle.ot_logic.specs.Hol.{TypeMap, TermMap, IsTyped, subst_tm}
use Rattle.ot_logic.specs.Naming.{numbers}
use Rattle.ot_laws.specs.Walk.{NamedMap, nameless_map}
use Rattle.ot_type.specs.TypeTable.{images}
use Rattle.ot_term.specs.Term.{TermTable}
use Rattle.ot_term.specs.TermTable.{term_at, variable_of}
use Rattle.ot_term.specs.declared.term.VarKey.{VarKey}

-- names with types, and variables with terms
pub record Substitution : Type 0 where
  pub types : List (ℕ × ℕ)
  pub terms : List (VarKey × ℕ)

abbrev pub coded_key : Coded VarKey
coded_key = code_by (ℕ × ℕ) (coded× coded_ℕ coded_ℕ) (λ v. (v.name, v.ty)) (λ p. record { name = p.0; ty = p.1 })
    (λ _. refl)

abbrev pub coded_substitution : Coded Substitution
coded_substitution =
    code_by (List (ℕ × ℕ) × List (VarKey × ℕ))
    (coded× (coded_list (coded× coded_ℕ coded_ℕ)) (coded_list (coded× coded_key coded_ℕ))) (λ s. (s.types, s.terms))
    (λ p. record { types = p.0; terms = p.1 }) (λ _. refl)

-- whether two variables are one
abbrev pub same_key : VarKey → VarKey → Bool
same_key v w = (v.name == w.name) && (v.ty == w.ty)

-- the term of a variable: of two pairs for one variable the first counts
abbrev pub term_for : Substitution → VarKey → Option ℕ
term_for s v = lookup (same_key v) s.terms

-- the substitution with one pair more, where the variable has no term yet
abbrev pub with_pair : Substitution → VarKey → ℕ → Substitution
with_pair s v t = if is_some (term_for s v) then s else record { types = s.types; terms = s.terms ++ (v, t) ∷ [] }

-- the type part
abbrev pub type_part : TermTable → Substitution → TypeMap numbers
type_part t s = images t.types s.types

-- the variable part, of named terms
abbrev pub named_part : TermTable → Substitution → NamedMap numbers
named_part t s = map (λ p. (variable_of t.types p.0, term_at t.terms p.1)) s.terms

-- the variable part
abbrev pub variable_part : TermTable → Substitution → TermMap numbers
variable_part t s = nameless_map numbers (named_part t s)

-- a term with the substitution put in
abbrev pub substituted : TermTable → Substitution → Tm ℕ → Tm ℕ
substituted t s = subst_tm numbers (type_part t s) (variable_part t s)

-- the numbers are of the table, and each term has its variable's type
pub record IsSubstOf (t : TermTable) (s : Substitution) : Type 0 where
  pub types : All (λ p. p.1 < length t.types) s.types
  pub variables : All (λ p. p.0.ty < length t.types) s.terms
  pub terms : All (λ p. p.1 < length t.terms) s.terms
  pub typed : IsTyped numbers (variable_part t s)
