-- The type of a term under substitution, closing and opening, and the types of named terms.
use Rattle.std.specs.Prelude.{◌==◌, slice_get}
use Rattle.std.specs.Option.{option_map, unwrap_or}
use Rattle.std.proofs.Common.{◌≡◌, ℕ, zero, suc, ◌<◌, Bool, true, false, cond, ◌&&◌, List, [], ◌∷◌, ◌++◌}
use Rattle.std.proofs.Common.{length, Option, Some, None, refl, sym, ap, ◌∙◌, inl, inr, ◌⊎◌, arith, map}
use Rattle.std.proofs.lemmas.Bool.{and_parts}
use Rattle.std.proofs.lemmas.Bool.Decides.{nat_tests}
use Rattle.std.proofs.lemmas.Option.{none-some, same_Some, slice_get-map, slice_get_within}
use Rattle.ot_logic.specs.Trees.{Alphabet, Ty, TyVar, TyOp, NoTys, MoreTys, Variable, Tm}
use Rattle.ot_logic.specs.Trees.{Free, Con, Bound, App, Abs, Named, NVar, NConst, NApp, NAbs}
use Rattle.ot_logic.specs.Hol.{same_ty, fun_ty, as_fun_ty, inst_by, close_at, open_at, bind, IsFree, result_ty}
use Rattle.ot_logic.specs.Hol.{applied, type_in, type_of, bool_ty, HasType, IsWellTyped, IsWithin, depth_tm}
use Rattle.ot_logic.specs.NamedTerms.{nameless, place, at_place, nameless_in, named_type, named_depth}
use Rattle.ot_logic.proofs.TableLemmas.{slice_get-append_left}
use Rattle.ot_logic.proofs.InternedLemmas.{slice_get-last}
use Rattle.ot_laws.proofs.Tests.{Tells, cases_of, same_ty-is, var_cases}
use Rattle.ot_laws.proofs.Named.{nameless_in-nil}
use Rattle.ot_laws.proofs.Opened.{place_below}

slice_get-before : {X : Type 0} (l r : List X) (k : ℕ) → k < length l → slice_get (l ++ r) k ≡ slice_get l k
slice_get-before [] r k h = absurd (omega arith)
slice_get-before (x ∷ l) r zero h = refl
slice_get-before (x ∷ l) r (suc k) h = slice_get-before l r k (omega arith)

place_suc : (j k : ℕ) → (suc j == suc k) ≡ (j == k)
place_suc j k = grind (arith, nat_tests)

-- the last place of a list, or one before it
last_cases : {X : Type 0} (l : List X) (u : X) (k : ℕ) (t : X) → slice_get (l ++ u ∷ []) k ≡ Some t
    → (((k == length l) ≡ true) × (u ≡ t)) ⊎ (((k == length l) ≡ false) × (slice_get l k ≡ Some t))
last_cases [] u zero t h = inl (refl, cc)
last_cases [] u (suc k) t h = cc
last_cases (x ∷ l) u zero t h = inr (place_below 0 (length (x ∷ l)) (omega arith), h)
last_cases (x ∷ l) u (suc k) t h = rw (place_suc k (length l)) (last_cases l u k t h)

-- the types of binders
abbrev pub types_of : {N : Type 0} → List (Variable N) → List (Ty N)
types_of = map (λ v. v.ty)

module _ {N : Type 0} (alphabet : Alphabet N) where
  -- a term that has a type has one
  pub type_of-is : (t : Tm N) (ty : Ty N) → HasType alphabet t ty → type_of alphabet t ≡ ty
  type_of-is t ty h = ap (λ o. unwrap_or o (bool_ty alphabet)) h

  pub type_of-typed : (t : Tm N) → IsWellTyped alphabet t → HasType alphabet t (type_of alphabet t)
  type_of-typed t w = w.1 ∙ ap Some (sym (type_of-is t w.0 w.1))

  pub abs-some : (t : Ty N) (o : Option (Ty N)) (b : Ty N) → option_map (fun_ty alphabet t) o ≡ Some b
      → (c : Ty N) × (o ≡ Some c) × (b ≡ fun_ty alphabet t c)
  abs-some t (Some c) b h = (c, refl, cc)
  abs-some t None b h = cc

module _ {N : Type 0} (alphabet : Alphabet N) (tells : Tells alphabet) where
  -- what has a result is a function type, whose argument is that one
  pub result_ty-some : (f x b : Ty N) → result_ty alphabet f x ≡ Some b → f ≡ fun_ty alphabet x b
  result_ty-some (TyOp n (MoreTys a (MoreTys c NoTys))) x b h =
      go (alphabet.same n alphabet.arrow && same_ty alphabet a x) refl h
    where
      go : (t : Bool) → (alphabet.same n alphabet.arrow && same_ty alphabet a x) ≡ t → cond {A = Option (Ty N)} t
          (Some c) None ≡ Some b → TyOp n (MoreTys a (MoreTys c NoTys)) ≡ fun_ty alphabet x b
      go true e k =
          let p = and_parts (alphabet.same n alphabet.arrow) (same_ty alphabet a x) e in
          let q = (tells n alphabet.arrow).0 p.0 in
          let r = (same_ty-is alphabet tells a x).0 p.1 in
          cc
      go false e k = cc
  result_ty-some (TyVar n) x b h = cc
  result_ty-some (TyOp n NoTys) x b h = cc
  result_ty-some (TyOp n (MoreTys a NoTys)) x b h = cc
  result_ty-some (TyOp n (MoreTys a (MoreTys c (MoreTys d ds)))) x b h = cc

  pub result_ty-fun : (a b : Ty N) → result_ty alphabet (fun_ty alphabet a b) a ≡ Some b
  result_ty-fun a b = rw ((tells alphabet.arrow alphabet.arrow).1 refl, (same_ty-is alphabet tells a a).1 refl) refl

  -- what has two parts is their function type
  pub as_fun_ty-some : (f a b : Ty N) → as_fun_ty alphabet f ≡ Some (a, b) → f ≡ fun_ty alphabet a b
  as_fun_ty-some (TyOp n (MoreTys c (MoreTys d NoTys))) a b h =
      elim (cases_of (alphabet.same n alphabet.arrow) (tells n alphabet.arrow)) [
        | inl e ↦
            let k : ◌≡◌ {A = Option (Ty N × Ty N)} (Some (c, d)) (Some (a, b)) = rw e.0 at h in
            let parts : ◌≡◌ {A = Ty N × Ty N} (c, d) (a, b) = same_Some (c, d) (a, b) k in
            let from : c ≡ a = ap (λ z. z.0) parts in
            let to : d ≡ b = ap (λ z. z.1) parts in
            let name = e.1 in
            cc
        | inr e ↦ let k : ◌≡◌ {A = Option (Ty N × Ty N)} None (Some (a, b)) = rw e.0 at h in absurd (none-some (a, b) k)
      ]
  as_fun_ty-some (TyVar n) a b h = absurd (none-some (a, b) h)
  as_fun_ty-some (TyOp n NoTys) a b h = absurd (none-some (a, b) h)
  as_fun_ty-some (TyOp n (MoreTys c NoTys)) a b h = absurd (none-some (a, b) h)
  as_fun_ty-some (TyOp n (MoreTys c (MoreTys d (MoreTys e es)))) a b h = absurd (none-some (a, b) h)

  pub as_fun_ty-fun : (a b : Ty N) → as_fun_ty alphabet (fun_ty alphabet a b) ≡ Some (a, b)
  as_fun_ty-fun a b = rw ((tells alphabet.arrow alphabet.arrow).1 refl) refl

  pub applied-some : (o p : Option (Ty N)) (b : Ty N) → applied alphabet o p ≡ Some b
      → (a : Ty N) × (o ≡ Some (fun_ty alphabet a b)) × (p ≡ Some a)
  applied-some (Some f) (Some x) b h = (x, ap Some (result_ty-some f x b h), refl)
  applied-some (Some f) None b h = cc
  applied-some None (Some x) b h = cc
  applied-some None None b h = cc

  pub app-typed : (l : List (Ty N)) (f x : Tm N) (a b : Ty N) → type_in alphabet l f ≡ Some (fun_ty alphabet a b)
      → type_in alphabet l x ≡ Some a → type_in alphabet l (App f x) ≡ Some b
  app-typed l f x a b p q = (λ i. applied alphabet (p i) (q i)) ∙ result_ty-fun a b

  -- a term keeps its type under more abstractions
  pub type-more : (l r : List (Ty N)) (t : Tm N) (ty : Ty N) → type_in alphabet l t ≡ Some ty
      → type_in alphabet (l ++ r) t ≡ Some ty
  type-more l r (Free v) ty h = h
  type-more l r (Con n t) ty h = h
  type-more l r (Bound k) ty h = slice_get-append_left l r k ty h
  type-more l r (App f x) ty h =
      let (a, p, q) = applied-some (type_in alphabet l f) (type_in alphabet l x) ty h in
      rw (type-more l r f (fun_ty alphabet a ty) p, type-more l r x a q) (result_ty-fun a ty)
  type-more l r (Abs t b) ty h =
      let (c, p, q) = abs-some alphabet t (type_in alphabet (t ∷ l) b) ty h in
      rw (type-more (t ∷ l) r b c p) (ap Some (sym q))

  -- substitution keeps types
  pub type-bind : (g : N → Ty N) (s : Variable N → Tm N) (l : List (Ty N)) (t : Tm N) (ty : Ty N)
      → ((v : Variable N) → IsFree alphabet v t → HasType alphabet (s v) (inst_by alphabet g v.ty))
      → type_in alphabet l t ≡ Some ty → type_in alphabet (map (inst_by alphabet g) l) (bind alphabet g s t)
      ≡ Some (inst_by alphabet g ty)
  type-bind g s l (Free v) ty w h = let p : v.ty ≡ ty = cc in
      rw (← p) (type-more [] (map (inst_by alphabet g) l) (s v) (inst_by alphabet g v.ty) (w v refl))
  type-bind g s l (Con n t) ty w h = let p : t ≡ ty = cc in ap (λ y. Some (inst_by alphabet g y)) p
  type-bind g s l (Bound k) ty w h = slice_get-map (inst_by alphabet g) l k ∙ ap (option_map (inst_by alphabet g)) h
  type-bind g s l (App f x) ty w h =
      let (a, p, q) = applied-some (type_in alphabet l f) (type_in alphabet l x) ty h in
      rw (type-bind g s l f (fun_ty alphabet a ty) (λ v i. w v (inl i)) p, type-bind g s l x a (λ v i. w v (inr i)) q)
      (result_ty-fun (inst_by alphabet g a) (inst_by alphabet g ty))
  type-bind g s l (Abs t b) ty w h =
      let (c, p, q) = abs-some alphabet t (type_in alphabet (t ∷ l) b) ty h in
      rw (type-bind g s (t ∷ l) b c w p) (ap (λ y. Some (inst_by alphabet g y)) (sym q))

  pub type-open_at : (l : List (Ty N)) (u : Tm N) (a : Ty N) (t : Tm N) (ty : Ty N) → HasType alphabet u a
      → type_in alphabet (l ++ a ∷ []) t ≡ Some ty → type_in alphabet l (open_at alphabet (length l) u t) ≡ Some ty
  type-open_at l u a (Free w) ty w' h = h
  type-open_at l u a (Con n t) ty w h = h
  type-open_at l u a (Bound k) ty w h = elim (last_cases l a k ty h) [
    | inl p ↦ rw (p.0, ← p.1) (type-more [] l u a w)
    | inr p ↦ rw p.0 p.1
  ]
  type-open_at l u a (App f x) ty w h =
      let (c, p, q) = applied-some (type_in alphabet (l ++ a ∷ []) f) (type_in alphabet (l ++ a ∷ []) x) ty h in
      rw (type-open_at l u a f (fun_ty alphabet c ty) w p, type-open_at l u a x c w q) (result_ty-fun c ty)
  type-open_at l u a (Abs t b) ty w h =
      let (c, p, q) = abs-some alphabet t (type_in alphabet (t ∷ (l ++ a ∷ [])) b) ty h in
      rw (type-open_at (t ∷ l) u a b c w p) (ap Some (sym q))

  -- closing keeps the type
  pub type-closed : (l : List (Ty N)) (v : Variable N) (t : Tm N) → IsWithin alphabet (length l) t
      → type_in alphabet (l ++ v.ty ∷ []) (close_at alphabet (length l) v t) ≡ type_in alphabet l t
  type-closed l v (Free w) h = elim (var_cases alphabet tells w v) [
    | inl p ↦ rw p.0 (slice_get-last l v.ty ∙ ap (λ x. Some x.ty) (sym p.1))
    | inr p ↦ rw p.0
  ]
  type-closed l v (Con n t) h = refl
  type-closed l v (Bound k) h = slice_get-before l (v.ty ∷ []) k h
  type-closed l v (App f x) h =
      let p = type-closed l v f h.0 in
      let q = type-closed l v x h.1 in
      rw (p, q)
  type-closed l v (Abs t b) h = ap (option_map (fun_ty alphabet t)) (type-closed (t ∷ l) v b h)

  -- no place leads out of a term that has a type
  pub within-typed : (l : List (Ty N)) (t : Tm N) (ty : Ty N) → type_in alphabet l t ≡ Some ty
      → IsWithin alphabet (length l) t
  within-typed l (Free v) ty h = tt
  within-typed l (Con n t) ty h = tt
  within-typed l (Bound k) ty h = slice_get_within l k ty h
  within-typed l (App f x) ty h =
      let (a, p, q) = applied-some (type_in alphabet l f) (type_in alphabet l x) ty h in
      (within-typed l f (fun_ty alphabet a ty) p, within-typed l x a q)
  within-typed l (Abs t b) ty h =
      let (c, p, q) = abs-some alphabet t (type_in alphabet (t ∷ l) b) ty h in
      within-typed (t ∷ l) b c p

  pub type-close_at : (l : List (Ty N)) (v : Variable N) (t : Tm N) (ty : Ty N) → type_in alphabet l t ≡ Some ty
      → type_in alphabet (l ++ v.ty ∷ []) (close_at alphabet (length l) v t) ≡ Some ty
  type-close_at l v t ty h = type-closed l v t (within-typed l t ty h) ∙ h

  -- a named term and its nameless form have one type and one depth
  type-at_place : (e : List (Variable N)) (v : Variable N)
      → type_in alphabet (types_of e) (at_place alphabet v (place alphabet e v)) ≡ Some v.ty
  type-at_place [] v = refl
  type-at_place (w ∷ e) v = elim (var_cases alphabet tells v w) [
    | inl p ↦ rw p.0 (ap (λ x. Some x.ty) (sym p.1))
    | inr p ↦ rw p.0 (go (place alphabet e v) (type-at_place e v))
  ]
    where
      go : (o : Option ℕ) → type_in alphabet (types_of e) (at_place alphabet v o) ≡ Some v.ty
          → type_in alphabet (types_of (w ∷ e)) (at_place alphabet v (option_map suc o)) ≡ Some v.ty
      go None h = h
      go (Some k) h = h

  -- under binders too
  pub type-nameless_in : (e : List (Variable N)) (t : Named N)
      → type_in alphabet (types_of e) (nameless_in alphabet e t) ≡ named_type alphabet t
  type-nameless_in e (NVar v) = type-at_place e v
  type-nameless_in e (NConst n t) = refl
  type-nameless_in e (NApp f x) = λ i. applied alphabet (type-nameless_in e f i) (type-nameless_in e x i)
  type-nameless_in e (NAbs v b) = ap (option_map (fun_ty alphabet v.ty)) (type-nameless_in (v ∷ e) b)

  pub type-nameless : (t : Named N) → type_in alphabet [] (nameless alphabet t) ≡ named_type alphabet t
  type-nameless t = ap (type_in alphabet []) (sym (nameless_in-nil alphabet tells t)) ∙ type-nameless_in [] t

  pub depth-closed : (k : ℕ) (v : Variable N) (t : Tm N) → depth_tm alphabet (close_at alphabet k v t)
      ≡ depth_tm alphabet t
  depth-closed k v (Free w) = elim (var_cases alphabet tells w v) [ inl p ↦ rw p.0 | inr p ↦ rw p.0 ]
  depth-closed k v (Con n t) = refl
  depth-closed k v (Bound j) = refl
  depth-closed k v (App f x) = rw (depth-closed k v f, depth-closed k v x)
  depth-closed k v (Abs t b) = ap suc (depth-closed (suc k) v b)

  pub depth-nameless : (t : Named N) → depth_tm alphabet (nameless alphabet t) ≡ named_depth alphabet t
  depth-nameless (NVar v) = refl
  depth-nameless (NConst n t) = refl
  depth-nameless (NApp f x) = rw (depth-nameless f, depth-nameless x)
  depth-nameless (NAbs v b) = ap suc (depth-closed 0 v (nameless alphabet b) ∙ depth-nameless b)
