-- Lists of variables that are joined, from sequences of their numbers.
use Rattle.std.specs.List.{filter}
use Rattle.std.specs.Option.{is_none}
use Rattle.std.proofs.Common.{◌≡◌, ℕ, ◌<◌, Bool, true, false, cond, List, [], ◌∷◌, ◌++◌, map, length}
use Rattle.std.proofs.Common.{refl, sym, ap, ◌∙◌, inl, inr}
use Rattle.std.proofs.lemmas.List.{map-append}
use Rattle.ot_logic.specs.Table.{IsInjective}
use Rattle.ot_logic.specs.Trees.{Variable}
use Rattle.ot_logic.specs.NamedTerms.{place}
use Rattle.ot_logic.specs.Naming.{numbers}
use Rattle.ot_shape.specs.Shape.{joined}
use Rattle.ot_lists.specs.Variables.{list_at}
use Rattle.ot_lists.specs.SequenceTable.{SequenceTable, sequence_at, IsUnder, IsSequenceTable}
use Rattle.ot_lists.specs.Places.{place_in}
use Rattle.ot_lists.specs.Lists.{variable_at, lists_of}
use Rattle.ot_lists.specs.Pieces.{joined_in}
use Rattle.ot_lists.specs.declared.list.Key.{Key}
use Rattle.ot_lists.proofs.Seams.{under_at}
use Rattle.ot_lists.proofs.Lifting.{variable-place, list-at}

map-cond : {X Y : Type 0} (f : X → Y) (b : Bool) (x : X) (xs : List X)
    → map f (cond b (x ∷ xs) xs) ≡ cond b (f x ∷ map f xs) (map f xs)
map-cond f true x xs = refl
map-cond f false x xs = refl

module _ (ks : List Key) (once : IsInjective ks) (fs : List ℕ) (fs_in : IsUnder (length ks) fs) where
  abbrev v : ℕ → Variable ℕ
  v = variable_at ks

  places : (xs : List ℕ) → IsUnder (length ks) xs
      → map (place_in fs) xs ≡ map (place numbers (map v fs)) (map v xs)
  places [] under = refl
  places (x ∷ xs) under =
      let first = variable-place ks once fs x (under x (inl refl)) fs_in in
      let rest = places xs (λ y m. under y (inr m)) in
      λ i. first i ∷ rest i

  new : (xs : List ℕ) → IsUnder (length ks) xs → map v (filter (λ y. is_none (place_in fs y)) xs)
      ≡ filter (λ w. is_none (place numbers (map v fs) w)) (map v xs)
  new [] under = refl
  new (x ∷ xs) under =
      let first = variable-place ks once fs x (under x (inl refl)) fs_in in
      let rest = new xs (λ y m. under y (inr m)) in
      map-cond v (is_none (place_in fs x)) x (filter (λ y. is_none (place_in fs y)) xs)
      ∙ (λ i. cond (is_none (first i)) (v x ∷ rest i) (rest i))

module _ (t : SequenceTable) (table : IsSequenceTable t) (f x : ℕ) (f_in : f < length t.lists)
    (x_in : x < length t.lists) where
  f_under : IsUnder (length t.keys) (sequence_at t f)
  f_under y m = under_at t table f y f_in m

  x_under : IsUnder (length t.keys) (sequence_at t x)
  x_under y m = under_at t table x y x_in m

  pub places-lifted : map (place_in (sequence_at t f)) (sequence_at t x)
      ≡ map (place numbers (list_at (lists_of t) f)) (list_at (lists_of t) x)
  places-lifted =
      places t.keys table.keys (sequence_at t f) f_under (sequence_at t x) x_under
      ∙ (λ i. map (place numbers (sym (list-at t f f_in) i)) (sym (list-at t x x_in) i))

  pub joined-lifted : map (variable_at t.keys) (joined_in (sequence_at t f) (sequence_at t x))
      ≡ joined numbers (list_at (lists_of t) f) (list_at (lists_of t) x)
  joined-lifted =
      map-append (variable_at t.keys) (sequence_at t f)
      (filter (λ y. is_none (place_in (sequence_at t f) y)) (sequence_at t x))
      ∙ ap (λ l. map (variable_at t.keys) (sequence_at t f) ++ l)
      (new t.keys table.keys (sequence_at t f) f_under (sequence_at t x) x_under)
      ∙ (λ i. joined numbers (sym (list-at t f f_in) i) (sym (list-at t x x_in) i))
