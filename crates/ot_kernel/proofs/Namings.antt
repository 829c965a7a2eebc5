-- Two namings that agree below a number, and lists under maps.
use Rattle.std.specs.Prelude.{◌≡◌, ℕ, zero, suc, ◌<◌, ◌≤◌, max, List, [], ◌∷◌}
use Rattle.std.specs.Prelude.{◌++◌, map, length, slice_get, slice_index_or, Some}
use Rattle.std.proofs.Common.{◌+◌, get_or, drop, drop-cons, add-one, inl, inr, refl, sym, ◌∙◌, ap, arith}
use Rattle.std.proofs.lemmas.Option.{none-some, same_Some, slice_get-get_or, get_or_from_slice_get}
use Rattle.std.proofs.lemmas.List.{length-map}
use Rattle.ot_logic.specs.Lists.{IsMember, AreDistinct}
use Rattle.ot_logic.specs.Names.{Name}
use Rattle.ot_logic.specs.Trees.{Ty, Tys, TyVar, TyOp, NoTys, MoreTys, Variable, Named, NVar, NConst, NApp, NAbs}
use Rattle.ot_logic.specs.Renamed.{map_ty, map_tys, map_named, map_variable}
use Rattle.ot_logic.specs.Naming.{names, name_of, IsNames, IsNameTable}
use Rattle.ot_logic.specs.Bounds.{bound_ty, bound_tys, bound_named, names_in, names_in_terms}
use Rattle.ot_logic.specs.Table.{Extends, IsInjective}
use Rattle.ot_logic.proofs.Naming.{name_of-at}

-- ---- two namings that agree below k
module _ (k : ℕ) (f g : ℕ → Name) (agree : (i : ℕ) → i < k → f i ≡ g i) where
  mutual
    pub agree_ty : (t : Ty ℕ) → bound_ty t ≤ k → map_ty f t ≡ map_ty g t
    agree_ty (TyVar n) h = ap TyVar (agree n (omega arith))
    agree_ty (TyOp n ts) h = let a = agree n (omega arith) in let b = agree_tys ts (omega arith) in
        λ i. TyOp (a i) (b i)

    agree_tys : (ts : Tys ℕ) → bound_tys ts ≤ k → map_tys f ts ≡ map_tys g ts
    agree_tys NoTys h = refl
    agree_tys (MoreTys t ts) h = let a = agree_ty t (omega arith) in let b = agree_tys ts (omega arith) in
        λ i. MoreTys (a i) (b i)

  agree_variable : (v : Variable ℕ) → max (suc v.name) (bound_ty v.ty) ≤ k → map_variable f v ≡ map_variable g v
  agree_variable v h = let a = agree v.name (omega arith) in let b = agree_ty v.ty (omega arith) in
      λ i. record { name = a i; ty = b i }

  pub agree_named : (t : Named ℕ) → bound_named t ≤ k → map_named f t ≡ map_named g t
  agree_named (NVar v) h = ap NVar (agree_variable v h)
  agree_named (NConst n t) h = let a = agree n (omega arith) in let b = agree_ty t (omega arith) in
      λ i. NConst (a i) (b i)
  agree_named (NApp x y) h = let a = agree_named x (omega arith) in let b = agree_named y (omega arith) in
      λ i. NApp (a i) (b i)
  agree_named (NAbs v b) h = let a = agree_variable v (omega arith) in let c = agree_named b (omega arith) in
      λ i. NAbs (a i) (c i)

-- ---- a list under a map
module _ {X Y : Type 0} where
  pub slice_get-map : (f : X → Y) (xs : List X) (i : ℕ) (x : X) → slice_get xs i ≡ Some x
      → slice_get (map f xs) i ≡ Some (f x)
  slice_get-map f [] i x p = absurd (none-some x p)
  slice_get-map f (y ∷ xs) zero x p = ap (λ z. Some (f z)) (same_Some y x p)
  slice_get-map f (y ∷ xs) (suc i) x p = slice_get-map f xs i x p

  map-slice_get : (f : X → Y) (xs : List X) (i : ℕ) (y : Y) → slice_get (map f xs) i ≡ Some y
      → (x : X) × (slice_get xs i ≡ Some x) × (f x ≡ y)
  map-slice_get f [] i y p = absurd (none-some y p)
  map-slice_get f (x ∷ xs) zero y p = (x, refl, same_Some (f x) y p)
  map-slice_get f (x ∷ xs) (suc i) y p = map-slice_get f xs i y p

  pub map-push : (f : X → Y) (xs : List X) (x : X) → map f (xs ++ x ∷ []) ≡ map f xs ++ f x ∷ []
  map-push f [] x = refl
  map-push f (y ∷ xs) x = ap (λ ys. f y ∷ ys) (map-push f xs x)

  pub index-map : (f : X → Y) (xs : List X) (i : ℕ) (d : X) (c : Y) → i < length xs → slice_index_or (map f xs) i c
      ≡ f (slice_index_or xs i d)
  index-map f xs i d c h = get_or_from_slice_get (map f xs) i _ c (slice_get-map f xs i _ (slice_get-get_or xs i d h))

  -- the next element of a list, under a map
  pub map-drop : (f : X → Y) (xs : List X) (k : ℕ) (x : X) → k < length xs → x ≡ get_or xs k x
      → map f (drop k xs) ≡ f x ∷ map f (drop (k + 1) xs)
  map-drop f xs k x h e = ap (map f) (drop-cons xs k x h) ∙ (λ j. f (sym e j) ∷ map f (drop (sym (add-one k) j) xs))

  pub map-Extends : (f g : X → Y) (xs us : List X) → Extends xs us
      → ((i : ℕ) (x : X) → slice_get xs i ≡ Some x → f x ≡ g x) → Extends (map f xs) (map g us)
  map-Extends f g xs us e same = record {
    keeps = λ i y p.
        let r = map-slice_get f xs i y p in
        slice_get-map g us i r.0 (e.keeps i r.0 r.1) ∙ ap Some (sym (same i r.0 r.1) ∙ r.2);
    longer = omega (arith, e.longer, length-map xs f, length-map us g);
  }

-- ---- the numbers of names in a table
pub bound_ty-get : (ts : List (Ty ℕ)) (i : ℕ) (t : Ty ℕ) → slice_get ts i ≡ Some t → bound_ty t ≤ names_in ts
bound_ty-get [] i t p = absurd (none-some t p)
bound_ty-get (x ∷ ts) zero t p = let e = ap bound_ty (same_Some x t p) in omega (arith, e)
bound_ty-get (x ∷ ts) (suc i) t p = omega (arith, bound_ty-get ts i t p)

pub bound_named-get : (ts : List (Named ℕ)) (i : ℕ) (t : Named ℕ) → slice_get ts i ≡ Some t
    → bound_named t ≤ names_in_terms ts
bound_named-get [] i t p = absurd (none-some t p)
bound_named-get (x ∷ ts) zero t p = let e = ap bound_named (same_Some x t p) in omega (arith, e)
bound_named-get (x ∷ ts) (suc i) t p = omega (arith, bound_named-get ts i t p)

-- ---- tables of names
distinct-injective : (ns : List Name) → IsInjective ns → AreDistinct ns
distinct-injective [] h = tt
distinct-injective (n ∷ ns) h = (
  λ m. let at = place ns n m in let no : zero ≡ suc at.0 = h.same zero (suc at.0) n refl at.1 in omega arith,
  distinct-injective ns
      (record { same = λ i j x p q. let e : suc i ≡ suc j = h.same (suc i) (suc j) x p q in omega arith }),
)
  where
    place : (ms : List Name) (x : Name) → IsMember x ms → (i : ℕ) × (slice_get ms i ≡ Some x)
    place [] x m = absurd m
    place (y ∷ ms) x (inl p) = (zero, ap Some p)
    place (y ∷ ms) x (inr m) = let r = place ms x m in (suc r.0, r.1)

-- a table of names begins with the primitive symbols
pub table_names : (ns : List Name) → IsNameTable ns → IsNames ns
table_names ns t = record {
  distinct = distinct-injective ns t.injective;
  arrow = t.first.keeps 0 names.arrow refl;
  bool_name = t.first.keeps 1 names.bool_name refl;
  equals = t.first.keeps 2 names.equals refl;
}

pub name_of-index : (ns : List Name) → IsNameTable ns → (i : ℕ) → i < length ns
    → name_of ns i ≡ slice_index_or ns i []
name_of-index ns h i within = name_of-at ns i _ (table_names ns h).distinct (slice_get-get_or ns i [] within)

-- tables of names that grow: a name below the length stays
pub name_of-Extends : (ns ms : List Name) → IsNameTable ns → IsNameTable ms → Extends ns ms → (i : ℕ) → i < length ns
    → name_of ns i ≡ name_of ms i
name_of-Extends ns ms h k more i within =
    let at = slice_get-get_or ns i [] within in
    name_of-at ns i _ (table_names ns h).distinct at
    ∙ sym (name_of-at ms i _ (table_names ms k).distinct (more.keeps i _ at))
