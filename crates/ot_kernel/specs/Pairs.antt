-- What a substitution by number stands for in a kernel, pair by pair.
use Rattle.std.specs.Prelude.{ℕ, ◌<◌, List, [], ◌∷◌, ◌++◌, map, length, if◌then◌else◌}
use Rattle.std.specs.List.{All, list_any}
use Rattle.ot_logic.specs.Names.{Name}
use Rattle.ot_logic.specs.Trees.{Ty, Variable, Tm}
use Rattle.ot_logic.specs.Hol.{TypeMap, TermMap, same_var, IsTyped}
use Rattle.ot_logic.specs.Naming.{names}
use Rattle.ot_subst.specs.Substitution.{Substitution}
use Rattle.ot_kernel.specs.State.{State, name_at, type_at, variable_at, term_at}

-- the map with one pair more; a name that has a type keeps it
abbrev pub with_type : TypeMap names → Name → Ty Name → TypeMap names
with_type s n t = if list_any (λ p. names.same n p.0) s then s else s ++ (n, t) ∷ []

-- the map with one pair more; a variable that has a term keeps it
abbrev pub with_term : TermMap names → Variable Name → Tm Name → TermMap names
with_term m v t = if list_any (λ p. same_var names v p.0) m then m else m ++ (v, t) ∷ []

-- ---- by number

abbrev pub type_pairs : State → List (ℕ × ℕ) → TypeMap names
type_pairs s ps = map (λ p. (name_at s p.0, type_at s p.1)) ps

abbrev pub term_pairs : State → Substitution → TermMap names
term_pairs s m = map (λ p. (variable_at s p.0, term_at s p.1)) m.terms

-- the numbers are of the kernel
pub record AreTypePairs (s : State) (ps : List (ℕ × ℕ)) : Type 0 where
  pub names : All (λ p. p.0 < length s.names) ps
  pub types : All (λ p. p.1 < length s.types) ps

-- and each term has its variable's type
pub record IsSubstIn (s : State) (m : Substitution) : Type 0 where
  pub type_part : AreTypePairs s m.types
  pub variables : All (λ p. (p.0.name < length s.names) × (p.0.ty < length s.types)) m.terms
  pub terms : All (λ p. p.1 < length s.terms) m.terms
  pub typed : IsTyped names (term_pairs s m)
