-- Laws of matching, for an alphabet of names.
use Rattle.std.specs.Prelude.{◌≡◌, ◌↔◌, Some, None}
use Rattle.ot_logic.specs.Lists.{IsMember}
use Rattle.ot_logic.specs.Trees.{Alphabet, Variable, Tm}
use Rattle.ot_logic.specs.Hol.{TypeMap, TermMap, type_at, term_at, inst_var, subst_tm, IsTyped, IsFree, vars_tm}
use Rattle.ot_match.specs.Matching.{IsMatch, matched}

module _ {N : Type 0} (alphabet : Alphabet N) where
  -- the computed maps are the ones that match
  abbrev pub MatchedIsMatch : Type 0
  MatchedIsMatch = (p c : Tm N) (s : TypeMap alphabet) (m : TermMap alphabet)
      → (matched alphabet p c ≡ Some (s, m)) ↔ IsMatch alphabet p c s m

  -- none are computed exactly where none match
  abbrev pub NoneMatch : Type 0
  NoneMatch = (p c : Tm N) → (matched alphabet p c ≡ None)
      ↔ ((s : TypeMap alphabet) (m : TermMap alphabet) → ¬ (IsMatch alphabet p c s m))

  -- there is at most one pair of maps
  abbrev pub OneMatch : Type 0
  OneMatch = (p c : Tm N) (s r : TypeMap alphabet) (m k : TermMap alphabet)
      → IsMatch alphabet p c s m → IsMatch alphabet p c r k → (s ≡ r) × (m ≡ k)

  -- the keys don't limit what matches: any substitution by terms of their variables' types is that one on the
  -- variables of p
  abbrev pub AnySubstitution : Type 0
  AnySubstitution = (p c : Tm N) (r : TypeMap alphabet) (k : TermMap alphabet) → IsTyped alphabet k
      → subst_tm alphabet r k p ≡ c
      → (s : TypeMap alphabet) × (m : TermMap alphabet) × IsMatch alphabet p c s m
      × ((n : N) → IsMember n (vars_tm alphabet p) → type_at alphabet r n ≡ type_at alphabet s n)
      × ((v : Variable N) → IsFree alphabet v p → term_at alphabet k (inst_var alphabet r v)
      ≡ term_at alphabet m (inst_var alphabet s v))
