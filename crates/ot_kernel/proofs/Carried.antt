-- What holds of trees over one alphabet holds of the renamed trees over the other.
use Rattle.ot_logic.specs.Trees.{Alphabet, Tys, Variable, Named, Sequent}
use Rattle.ot_logic.specs.Renamed.{map_tys, map_variable, map_named, map_sequent}
use Rattle.ot_logic.proofs.Line.{IsLettering, Line, letters, over_name, over_tys}
use Rattle.ot_logic.proofs.Line.{over_variable, over_named, over_sequent}

module _ {M N : Type 0} (e : Equiv M N) (a : Alphabet M) (b : Alphabet N) (k : IsLettering e.0 a b) where
  abbrev A : (i : 𝕀) → Alphabet (V i M N e)
  A i = letters e a b k i

  -- of an operator and its arguments
  pub carry-op : (P : (L : Type 0) → Alphabet L → L → Tys L → Type 0) → (n : M) (ts : Tys M) → P M a n ts
      → P N b (e.0 n) (map_tys e.0 ts)
  carry-op P n ts h = coe 0 1 (i. P (Line e i) (A i) (over_name e n i) (over_tys e ts i)) h

  -- of a named term
  pub carry-term : (P : (L : Type 0) → Alphabet L → Named L → Type 0) → (t : Named M) → P M a t
      → P N b (map_named e.0 t)
  carry-term P t h = coe 0 1 (i. P (Line e i) (A i) (over_named e t i)) h

  -- of two named terms
  pub carry-terms : (P : (L : Type 0) → Alphabet L → Named L → Named L → Type 0) → (t u : Named M) → P M a t u
      → P N b (map_named e.0 t) (map_named e.0 u)
  carry-terms P t u h = coe 0 1 (i. P (Line e i) (A i) (over_named e t i) (over_named e u i)) h

  -- of a variable and a named term
  pub carry-binder : (P : (L : Type 0) → Alphabet L → Variable L → Named L → Type 0) → (v : Variable M) (t : Named M)
      → P M a v t → P N b (map_variable e.0 v) (map_named e.0 t)
  carry-binder P v t h = coe 0 1 (i. P (Line e i) (A i) (over_variable e v i) (over_named e t i)) h

  -- of two sequents
  pub carry-sequents : (P : (L : Type 0) → Alphabet L → Sequent L → Sequent L → Type 0) → (q r : Sequent M)
      → P M a q r → P N b (map_sequent e.0 q) (map_sequent e.0 r)
  carry-sequents P q r h = coe 0 1 (i. P (Line e i) (A i) (over_sequent e q i) (over_sequent e r i)) h
