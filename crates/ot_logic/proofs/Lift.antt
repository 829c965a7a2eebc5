-- What is defined over one alphabet is, renamed, what is defined over the other: one line for each definition.
use Rattle.std.specs.Prelude.{◌≡◌, map}
use mathlib.Core.Path.{PathP}
use Rattle.ot_logic.specs.Trees.{Alphabet, Ty, Variable, Tm, Named}
use Rattle.ot_logic.specs.Renamed.{map_ty, map_variable, map_tm, map_named}
use Rattle.ot_logic.specs.Hol.{TypeMap, TermMap}
use Rattle.ot_logic.specs.NamedTerms.{nameless}
use Rattle.ot_logic.proofs.Line.{IsLettering, one_end, Line, letters, over_name, over_ty}
use Rattle.ot_logic.proofs.Line.{over_variable, over_tm, over_named, over_list}

module _ {M N : Type 0} (e : Equiv M N) (a : Alphabet M) (b : Alphabet N) (k : IsLettering e.0 a b) where
  abbrev f : M → N
  f = e.0

  abbrev A : (i : 𝕀) → Alphabet (V i M N e)
  A i = letters e a b k i

  abbrev pub map_types : TypeMap a → TypeMap b
  map_types = map (λ p. (f p.0, map_ty f p.1))

  abbrev pub map_terms : TermMap a → TermMap b
  map_terms = map (λ p. (map_variable f p.0, map_tm f p.1))

  pub over_types : (s : TypeMap a) → PathP (λ i. TypeMap (A i)) s (map_types s)
  over_types s = over_list (λ i. Line e i × Ty (Line e i)) (λ p. (f p.0, map_ty f p.1))
      (λ p i. (over_name e p.0 i, over_ty e p.1 i)) s

  pub over_terms : (m : TermMap a) → PathP (λ i. TermMap (A i)) m (map_terms m)
  over_terms m = over_list (λ i. Variable (Line e i) × Tm (Line e i)) (λ p. (map_variable f p.0, map_tm f p.1))
      (λ p i. (over_variable e p.0 i, over_tm e p.1 i)) m

  pub map-nameless : (t : Named M) → map_tm f (nameless a t) ≡ nameless b (map_named f t)
  map-nameless t = one_end (λ i. Tm (Line e i)) (over_tm e (nameless a t)) (λ i. nameless (A i) (over_named e t i))

  -- whatever holds over the one alphabet holds over the other
  pub carry : (P : (L : Type 0) → Alphabet L → Type 0) → P M a → P N b
  carry P h = coe 0 1 (i. P (Line e i) (A i)) h
