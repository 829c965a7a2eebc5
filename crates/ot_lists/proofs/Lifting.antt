-- Lists of variables, from sequences of their numbers.
use Rattle.std.specs.Prelude.{remove}
use Rattle.std.specs.Option.{option_map}
use Rattle.std.proofs.Common.{◌≡◌, ℕ, zero, suc, ◌<◌, Bool, true, false, cond, not, nat_eq, eqb-true, eq-eqb, List, []}
use Rattle.std.proofs.Common.{◌∷◌, map, length, slice_get, Option, None, Some, refl, sym, ap, subst, ◌∙◌}
use Rattle.std.proofs.Common.{inl, inr, arith, true≢false}
use Rattle.std.proofs.lemmas.List.{get_or-map, length-map}
use Rattle.std.proofs.lemmas.Option.{slice_get-map, get_or_from_slice_get, slice_get-get_or, slice_get_within, same_Some, none-some}
use Rattle.ot_logic.specs.Lists.{IsMember, AreDistinct}
use Rattle.ot_logic.specs.Trees.{Variable}
use Rattle.ot_logic.specs.Hol.{same_var}
use Rattle.ot_logic.specs.NamedTerms.{place}
use Rattle.ot_logic.specs.Naming.{numbers}
use Rattle.ot_logic.specs.Table.{Extends, IsInjective}
use Rattle.ot_logic.proofs.Members.{map_agree, IsMember-at, IsMember-map_back}
use Rattle.ot_logic.proofs.TableLemmas.{get_or-Extends, get_or-IsInjective}
use Rattle.ot_laws.proofs.Tests.{tells_numbers, same_var-is, same_var-no}
use Rattle.ot_shape.specs.Shape.{without}
use Rattle.ot_shape.proofs.Frees.{without-absent}
use Rattle.ot_shape.proofs.Leaves.{place-is}
use Rattle.ot_lists.specs.Variables.{numbered, variable_of, list_at}
use Rattle.ot_lists.specs.SequenceTable.{SequenceTable, sequence_at, IsUnder, Grows, IsSequenceTable}
use Rattle.ot_lists.specs.Places.{place_in}
use Rattle.ot_lists.specs.Lists.{key_at, variable_at, lists_of}
use Rattle.ot_lists.specs.declared.list.Key.{Key}
use Rattle.ot_lists.proofs.Seams.{distinct_at, under_at}

-- keys of one variable are one
pub key-one : (v w : Key) → variable_of v ≡ variable_of w → v ≡ w
key-one v w p =
    let name : v.name ≡ w.name = ap (λ (x : Variable ℕ). x.name) p in
    let types : numbered v.ty ≡ numbered w.ty = ap (λ (x : Variable ℕ). x.ty) p in
    let ty : v.ty ≡ w.ty = cc in
    λ i. record { name = name i; ty = ty i }

module _ (ks : List Key) (once : IsInjective ks) where
  pub variable-one : (x y : ℕ) → x < length ks → y < length ks → variable_at ks x ≡ variable_at ks y → x ≡ y
  variable-one x y h k e =
      get_or-IsInjective ks once x y (record { name = 0; ty = 0 }) h k (key-one (key_at ks x) (key_at ks y) e)

  pub variables-one : (l m : List ℕ) → IsUnder (length ks) l → IsUnder (length ks) m
      → map (variable_at ks) l ≡ map (variable_at ks) m → l ≡ m
  variables-one [] [] h k e = refl
  variables-one [] (y ∷ m) h k e = cc
  variables-one (x ∷ l) [] h k e = cc
  variables-one (x ∷ l) (y ∷ m) h k e =
      let first : variable_at ks x ≡ variable_at ks y = cc in
      let rest : map (variable_at ks) l ≡ map (variable_at ks) m = cc in
      let one = variable-one x y (h x (inl refl)) (k y (inl refl)) first in
      let others = variables-one l m (λ z i. h z (inr i)) (λ z i. k z (inr i)) rest in
      λ i. one i ∷ others i

  -- a variable stands in a list just where its number stands in the sequence
  pub variable-back : (x : ℕ) (l : List ℕ) → x < length ks → IsUnder (length ks) l
      → IsMember (variable_at ks x) (map (variable_at ks) l) → IsMember x l
  variable-back x l h under m =
      let (y, i, e) = IsMember-map_back (variable_at ks) (variable_at ks x) l m in
      subst (λ z. IsMember z l) (variable-one y x (under y i) h e) i

  pub variables-distinct : (l : List ℕ) → IsUnder (length ks) l → AreDistinct l → AreDistinct (map (variable_at ks) l)
  variables-distinct [] under d = tt
  variables-distinct (x ∷ l) under d = (
    λ m. d.0 (variable-back x l (under x (inl refl)) (λ y i. under y (inr i)) m),
    variables-distinct l (λ y i. under y (inr i)) d.1,
  )

  -- ---- the place of a variable is that of its number
  tested : (x y : ℕ) → x < length ks → y < length ks
      → same_var numbers (variable_at ks x) (variable_at ks y) ≡ nat_eq x y
  tested x y h k = by (nat_eq x y) refl
    where
      by : (b : Bool) → nat_eq x y ≡ b → same_var numbers (variable_at ks x) (variable_at ks y) ≡ b
      by true e = (same_var-is numbers tells_numbers _ _).1 (ap (variable_at ks) (eqb-true x y e))
      by false e = same_var-no numbers tells_numbers _ _
          (λ p. true≢false (sym (eq-eqb x y (variable-one x y h k p)) ∙ e))

  pub variable-place : (l : List ℕ) (x : ℕ) → x < length ks → IsUnder (length ks) l
      → place_in l x ≡ place numbers (map (variable_at ks) l) (variable_at ks x)
  variable-place [] x h under = refl
  variable-place (y ∷ l) x h under =
      (λ i. cond (sym (tested x y h (under y (inl refl))) i) (Some 0)
      (option_map suc (variable-place l x h (λ z m. under z (inr m)) i)))

-- ---- a list without the variable at a place
pub place-removed : (vs : List (Variable ℕ)) (v : Variable ℕ) (p : ℕ) → AreDistinct vs → place numbers vs v ≡ Some p
    → remove vs p ≡ without numbers v vs
place-removed [] v p d e = absurd (none-some p e)
place-removed (w ∷ vs) v p d e =
    by (λ k. place-removed vs v k d.1) (same_var numbers v w) refl (place numbers vs v) refl p e
  where
    by : ((k : ℕ) → place numbers vs v ≡ Some k → remove vs k ≡ without numbers v vs) → (b : Bool)
        → same_var numbers v w ≡ b → (o : Option ℕ) → place numbers vs v ≡ o → (p : ℕ)
        → cond b (Some 0) (option_map suc o) ≡ Some p
        → remove (w ∷ vs) p ≡ cond (not (same_var numbers v w)) (w ∷ without numbers v vs) (without numbers v vs)
    by rest true t o q p f =
        let same : v ≡ w = (same_var-is numbers tells_numbers v w).0 t in
        let none : ¬ (IsMember v vs) = subst (λ z. ¬ (IsMember z vs)) (sym same) d.0 in
        ap (remove (w ∷ vs)) (sym (same_Some 0 p f)) ∙ sym (without-absent numbers tells_numbers v vs none)
        ∙ ap (λ b. cond (not b) (w ∷ without numbers v vs) (without numbers v vs)) (sym t)
    by rest false t None q p f = absurd (none-some p f)
    by rest false t (Some k) q p f =
        ap (remove (w ∷ vs)) (sym (same_Some (suc k) p f))
        ∙ ap (λ ws. w ∷ ws) (rest k q)
        ∙ ap (λ b. cond (not b) (w ∷ without numbers v vs) (without numbers v vs)) (sym t)

map-removed : {X Y : Type 0} (f : X → Y) (xs : List X) (p : ℕ) → map f (remove xs p) ≡ remove (map f xs) p
map-removed f [] zero = refl
map-removed f [] (suc p) = refl
map-removed f (x ∷ xs) zero = refl
map-removed f (x ∷ xs) (suc p) = ap (λ ys. f x ∷ ys) (map-removed f xs p)

-- ---- a key with its number
pub key-is : (ks : List Key) (k : Key) (x : ℕ) → slice_get ks x ≡ Some k → variable_at ks x ≡ variable_of k
key-is ks k x at = ap variable_of (get_or_from_slice_get ks x k (record { name = 0; ty = 0 }) at)

-- one that has no number is in no list
pub key-absent : (ks : List Key) (k : Key) (l : List ℕ) → ¬ (IsMember k ks) → IsUnder (length ks) l
    → ¬ (IsMember (variable_of k) (map (variable_at ks) l))
key-absent ks k l none under m =
    let (y, i, e) = IsMember-map_back (variable_at ks) (variable_of k) l m in
    let at = slice_get-get_or ks y (record { name = 0; ty = 0 }) (under y i) in
    none (subst (λ w. IsMember w ks) (key-one (key_at ks y) k e) (IsMember-at ks y (key_at ks y) at))

-- ---- the table of lists
module _ (t : SequenceTable) where
  pub list-at : (i : ℕ) → i < length t.lists → list_at (lists_of t) i ≡ map (variable_at t.keys) (sequence_at t i)
  list-at i h = get_or-map (map (variable_at t.keys)) t.lists i [] [] h

  pub list-get : (i : ℕ) (l : List ℕ) → slice_get t.lists i ≡ Some l
      → slice_get (lists_of t) i ≡ Some (map (variable_at t.keys) l)
  list-get i l e = slice_get-map (map (variable_at t.keys)) t.lists i ∙ ap (option_map (map (variable_at t.keys))) e

  pub list-within : (i : ℕ) → i < length (lists_of t) → i < length t.lists
  list-within i h = subst (λ n. i < n) (length-map t.lists (map (variable_at t.keys))) h

  -- a list without a variable, and the place of that
  pub list-without : (i : ℕ) → i < length t.lists → (v : Variable ℕ) (p : ℕ)
      → AreDistinct (list_at (lists_of t) i) → Some p ≡ place numbers (list_at (lists_of t) i) v
      → map (variable_at t.keys) (remove (sequence_at t i) p) ≡ without numbers v (list_at (lists_of t) i)
  list-without i h v p d e =
      map-removed (variable_at t.keys) (sequence_at t i) p ∙ ap (λ vs. remove vs p) (sym (list-at i h))
      ∙ place-removed (list_at (lists_of t) i) v p d (sym e)

  pub place-in : (i : ℕ) → i < length t.lists → (v : Variable ℕ) (p : ℕ)
      → Some p ≡ place numbers (list_at (lists_of t) i) v → p < length (sequence_at t i)
  place-in i h v p e =
      let at = place-is numbers tells_numbers (list_at (lists_of t) i) v p (sym e) in
      let n = ap length (list-at i h) ∙ length-map (sequence_at t i) (variable_at t.keys) in
      let k = slice_get_within (list_at (lists_of t) i) p v at in
      omega (arith, n, k)

  -- the sequence of a list
  sequence-back : (i : ℕ) (vs : List (Variable ℕ)) → slice_get (lists_of t) i ≡ Some vs
      → (l : List ℕ) × (slice_get t.lists i ≡ Some l) × (map (variable_at t.keys) l ≡ vs)
  sequence-back i vs e =
      let h = list-within i (slice_get_within (lists_of t) i vs e) in
      let at = slice_get-get_or t.lists i [] h in
      (sequence_at t i, at, same_Some _ _ (sym (list-get i _ at) ∙ e))

  -- where no variable is added
  pub lists-kept : (u : SequenceTable) → Grows t u → Extends (lists_of t) (lists_of u)
  lists-kept u g = record {
    keeps = λ i vs p.
        let (l, a, e) = sequence-back i vs p in
        slice_get-map (map (variable_at u.keys)) u.lists i
        ∙ ap (option_map (map (variable_at u.keys))) (g.lists.keeps i l a)
        ∙ ap Some (ap (λ ks. map (variable_at ks) l) g.keys ∙ e);
    longer =
        let m = length-map t.lists (map (variable_at t.keys)) in
        let n = length-map u.lists (map (variable_at u.keys)) in
        omega (arith, m, n, g.lists.longer);
  }

  module _ (table : IsSequenceTable t) where
    pub lists-once : IsInjective (lists_of t)
    lists-once = record {
      same = λ i j vs p q.
          let (l, a, e) = sequence-back i vs p in
          let (m, b, f) = sequence-back j vs q in
          let one = variables-one t.keys table.keys l m (table.under i l a) (table.under j m b) (e ∙ sym f) in
          table.lists.same i j l a (b ∙ ap Some (sym one));
    }

    pub lists-grown : (u : SequenceTable) → Extends t.keys u.keys → Extends t.lists u.lists
        → Extends (lists_of t) (lists_of u)
    lists-grown u keys lists = record {
      keeps = λ i vs p.
          let (l, a, e) = sequence-back i vs p in
          let same : map (variable_at u.keys) l ≡ map (variable_at t.keys) l =
          map_agree (variable_at u.keys) (variable_at t.keys) l
          (λ x m. ap variable_of (get_or-Extends t.keys u.keys keys x (record { name = 0; ty = 0 }) (table.under i l a x m)))
          in
          slice_get-map (map (variable_at u.keys)) u.lists i
          ∙ ap (option_map (map (variable_at u.keys))) (lists.keeps i l a) ∙ ap Some (same ∙ e);
      longer =
          let m = length-map t.lists (map (variable_at t.keys)) in
          let n = length-map u.lists (map (variable_at u.keys)) in
          omega (arith, m, n, lists.longer);
    }

    pub list-distinct : (i : ℕ) → i < length t.lists → AreDistinct (list_at (lists_of t) i)
    list-distinct i h = subst AreDistinct (sym (list-at i h))
        (variables-distinct t.keys table.keys (sequence_at t i) (λ x m. under_at t table i x h m)
        (distinct_at t table i h))

    -- the place of a variable, by its number if it has one
    pub list-place : (i : ℕ) → i < length t.lists → (k : Key) (x : ℕ) → slice_get t.keys x ≡ Some k
        → place_in (sequence_at t i) x ≡ place numbers (list_at (lists_of t) i) (variable_of k)
    list-place i h k x at =
        variable-place t.keys table.keys (sequence_at t i) x (slice_get_within t.keys x k at)
        (λ x m. under_at t table i x h m)
        ∙ (λ j. place numbers (sym (list-at i h) j) (key-is t.keys k x at j))

-- a variable that is in no list has no place
pub place-absent : (vs : List (Variable ℕ)) (v : Variable ℕ) → ¬ (IsMember v vs) → None ≡ place numbers vs v
place-absent vs v none = by (place numbers vs v) refl
  where
    by : (o : Option ℕ) → place numbers vs v ≡ o → None ≡ o
    by None e = refl
    by (Some k) e = absurd (none (IsMember-at vs k v (place-is numbers tells_numbers vs v k e)))
