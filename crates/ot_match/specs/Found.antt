-- What a match of the code stands for, in a kernel.
use Rattle.std.specs.Prelude.{◌<◌, ℕ, List, map, length}
use Rattle.std.specs.List.{All}
use Rattle.ot_logic.specs.Names.{Name}
use Rattle.ot_logic.specs.Hol.{TypeMap, TermMap}
use Rattle.ot_logic.specs.Naming.{names}
use Rattle.ot_kernel.specs.State.{State, type_at, term_at}
use Rattle.ot_match.specs.declared.find.Match.{Match}

abbrev pub types_of : State → List (Name × ℕ) → TypeMap names
types_of s ps = map (λ p. (p.0, type_at s p.1)) ps

abbrev pub terms_of : State → List (Name × ℕ × ℕ) → TermMap names
terms_of s ps = map (λ p. (record { name = p.0; ty = type_at s p.1 }, term_at s p.2)) ps

-- the two maps of a match
abbrev pub maps_of : State → Match → TypeMap names × TermMap names
maps_of s m = (types_of s m.types.items, terms_of s m.vars.items)

-- the numbers are of the state
abbrev pub AreTypesIn : State → List (Name × ℕ) → Type 0
AreTypesIn s ps = All (λ p. p.1 < length s.types) ps

abbrev pub AreTermsIn : State → List (Name × ℕ × ℕ) → Type 0
AreTermsIn s ps = All (λ p. (p.1 < length s.types) × (p.2 < length s.terms)) ps

-- those of a match too
pub record IsMatchIn (s : State) (m : Match) : Type 0 where
  pub types : AreTypesIn s m.types.items
  pub vars : AreTermsIn s m.vars.items
