-- A variable under binders, as it stands in the nameless form: free, or the place of a binder. Terms of one nameless
-- form have one class.
use Rattle.std.specs.Option.{option_map}
use Rattle.std.proofs.Common.{◌≡◌, ℕ, suc, Bool, true, false, cond, true≢false, List, [], ◌∷◌}
use Rattle.std.proofs.Common.{Option, None, Some, slice_get, refl, sym, ap, subst, ◌∙◌}
use Rattle.std.proofs.lemmas.Option.{none-some, same_Some}
use Rattle.std.proofs.lemmas.Bool.Decides.{Decides-like, same_from_decides}
use Rattle.ot_logic.specs.Trees.{Alphabet, Variable, Tm, Free, Bound, Named, NVar, NConst, NApp, NAbs}
use Rattle.ot_logic.specs.Hol.{same_var}
use Rattle.ot_logic.specs.NamedTerms.{place, at_place, nameless_in}
use Rattle.ot_laws.proofs.Tests.{Tells, same_var-is, same_var-no}
use Rattle.ot_shape.specs.Shape.{Constant, Apply, Bind, class_of}
use Rattle.ot_shape.proofs.Alike.{IsTested, AreAlike, place-alike, places-alike, joined-alike, without-alike}

abbrev pub IsLeaf : {N : Type 0} → Tm N → Type 0
IsLeaf (Free v) = Unit {0}
IsLeaf (Bound k) = Unit {0}
IsLeaf _ = ⊥

-- a place one binder further in
abbrev pub lowered : {N : Type 0} → Tm N → Tm N
lowered (Bound (suc k)) = Bound k
lowered t = t

abbrev pub raised : {N : Type 0} → Tm N → Tm N
raised (Bound k) = Bound (suc k)
raised t = t

module _ {N : Type 0} (alphabet : Alphabet N) where
  -- a variable under binders, the innermost first
  abbrev pub leaf : List (Variable N) → Variable N → Tm N
  leaf e v = at_place alphabet v (place alphabet e v)

  abbrev SameLeaf : List (Variable N) → List (Variable N) → Variable N → Variable N → Type 0
  SameLeaf e d v w = leaf e v ≡ leaf d w

module _ {N : Type 0} (alphabet : Alphabet N) (tells : Tells alphabet) where
  is_leaf : (v : Variable N) (o : Option ℕ) → IsLeaf (at_place alphabet v o)
  is_leaf v None = tt
  is_leaf v (Some k) = tt

  pub place-is : (e : List (Variable N)) (v : Variable N) (k : ℕ) → place alphabet e v ≡ Some k
      → slice_get e k ≡ Some v
  place-is [] v k p = absurd (none-some k p)
  place-is (w ∷ e) v k p = by (place-is e v) (same_var alphabet v w) refl (place alphabet e v) refl p
    where
      by : ((j : ℕ) → place alphabet e v ≡ Some j → slice_get e j ≡ Some v) → (b : Bool) → same_var alphabet v w ≡ b
          → (o : Option ℕ) → place alphabet e v ≡ o → cond b (Some 0) (option_map suc o) ≡ Some k
          → slice_get (w ∷ e) k ≡ Some v
      by rest true t o q p = subst (λ k. slice_get (w ∷ e) k ≡ Some v) (same_Some 0 k p)
          (ap Some (sym ((same_var-is alphabet tells v w).0 t)))
      by rest false t None q p = absurd (none-some k p)
      by rest false t (Some j) q p = subst (λ k. slice_get (w ∷ e) k ≡ Some v) (same_Some (suc j) k p) (rest j q)

  -- different variables are different leaves
  pub leaf-one : (e : List (Variable N)) (v w : Variable N) → leaf alphabet e v ≡ leaf alphabet e w → v ≡ w
  leaf-one e v w p = by (place alphabet e v) refl (place alphabet e w) refl p
    where
      by : (a : Option ℕ) → place alphabet e v ≡ a → (b : Option ℕ) → place alphabet e w ≡ b
          → at_place alphabet v a ≡ at_place alphabet w b → v ≡ w
      by None q None r p = cc
      by None q (Some k) r p = cc
      by (Some j) q None r p = cc
      by (Some j) q (Some k) r p =
          let one : j ≡ k = cc in
          same_Some v w (sym (place-is e v j q) ∙ ap (slice_get e) one ∙ place-is e w k r)

  -- one binder further in
  pub leaf-bound : (e : List (Variable N)) (v : Variable N) → leaf alphabet (v ∷ e) v ≡ Bound 0
  leaf-bound e v = ap (λ b. at_place alphabet v (cond b (Some 0) (option_map suc (place alphabet e v))))
      ((same_var-is alphabet tells v v).1 refl)

  pub other-var : (v x : Variable N) → same_var alphabet v x ≡ false → same_var alphabet x v ≡ false
  other-var v x p = same_var-no alphabet tells x v (λ e. true≢false (sym ((same_var-is alphabet tells v x).1 (sym e)) ∙ p))

  pub leaf-raised : (e : List (Variable N)) (v x : Variable N) → same_var alphabet v x ≡ false
      → leaf alphabet (v ∷ e) x ≡ raised (leaf alphabet e x)
  leaf-raised e v x p =
      ap (λ b. at_place alphabet x (cond b (Some 0) (option_map suc (place alphabet e x)))) (other-var v x p)
      ∙ by (place alphabet e x)
    where
      by : (o : Option ℕ) → at_place alphabet x (option_map suc o) ≡ raised (at_place alphabet x o)
      by None = refl
      by (Some k) = refl

  leaf-lowered : (e : List (Variable N)) (v x : Variable N) → same_var alphabet v x ≡ false
      → lowered (leaf alphabet (v ∷ e) x) ≡ leaf alphabet e x
  leaf-lowered e v x p = ap lowered (leaf-raised e v x p) ∙ by (place alphabet e x)
    where
      by : (o : Option ℕ) → lowered (raised (at_place alphabet x o)) ≡ at_place alphabet x o
      by None = refl
      by (Some k) = refl

  same_leaf-tested : (e d : List (Variable N)) → IsTested alphabet alphabet (SameLeaf alphabet e d)
  same_leaf-tested e d v x w y r s =
      same_from_decides (same_var alphabet v x) (same_var alphabet w y) (same_var-is alphabet tells v x)
      (Decides-like (same_var alphabet w y) to from (same_var-is alphabet tells w y))
    where
      to : w ≡ y → v ≡ x
      to p = leaf-one e v x (r ∙ ap (leaf alphabet d) p ∙ sym s)

      from : v ≡ x → w ≡ y
      from p = leaf-one d w y (sym r ∙ ap (leaf alphabet e) p ∙ s)

  -- two terms of one nameless form
  pub form-class : (t u : Named N) (e d : List (Variable N)) → nameless_in alphabet e t ≡ nameless_in alphabet d u
      → ((class_of alphabet t).shape ≡ (class_of alphabet u).shape)
      × AreAlike alphabet alphabet (SameLeaf alphabet e d) (class_of alphabet t).frees (class_of alphabet u).frees
  form-class (NVar v) (NVar w) e d p = (refl, (p, tt))
  form-class (NConst n t) (NConst m u) e d p =
      let name : n ≡ m = cc in
      let ty : t ≡ u = cc in
      (λ i. Constant (name i) (ty i), tt)
  form-class (NApp f x) (NApp g y) e d p =
      let left : nameless_in alphabet e f ≡ nameless_in alphabet d g = cc in
      let right : nameless_in alphabet e x ≡ nameless_in alphabet d y = cc in
      let (l, fs) = form-class f g e d left in
      let (r, xs) = form-class x y e d right in
      let tested = same_leaf-tested e d in
      let places = places-alike alphabet alphabet (SameLeaf alphabet e d) tested _ _ fs _ _ xs in (
        λ i. Apply (l i) (r i) (places i),
        joined-alike alphabet alphabet (SameLeaf alphabet e d) tested _ _ fs _ _ xs,
      )
  form-class (NAbs v b) (NAbs w c) e d p =
      let ty : v.ty ≡ w.ty = cc in
      let inner : nameless_in alphabet (v ∷ e) b ≡ nameless_in alphabet (w ∷ d) c = cc in
      let (s, vs) = form-class b c (v ∷ e) (w ∷ d) inner in
      let tested = same_leaf-tested (v ∷ e) (w ∷ d) in
      let same = leaf-bound e v ∙ sym (leaf-bound d w) in
      let hole = place-alike alphabet alphabet (SameLeaf alphabet (v ∷ e) (w ∷ d)) tested _ _ vs v w same in (
        λ i. Bind (ty i) (hole i) (s i),
        without-alike alphabet alphabet (SameLeaf alphabet (v ∷ e) (w ∷ d)) tested (SameLeaf alphabet e d) v w same
            (λ x y q f g. sym (leaf-lowered e v x f) ∙ ap lowered q ∙ leaf-lowered d w y g) _ _ vs,
      )
  form-class (NVar v) (NConst m u) e d p = absurd (subst IsLeaf p (is_leaf v (place alphabet e v)))
  form-class (NVar v) (NApp g y) e d p = absurd (subst IsLeaf p (is_leaf v (place alphabet e v)))
  form-class (NVar v) (NAbs w c) e d p = absurd (subst IsLeaf p (is_leaf v (place alphabet e v)))
  form-class (NConst n t) (NVar w) e d p = absurd (subst IsLeaf (sym p) (is_leaf w (place alphabet d w)))
  form-class (NApp f x) (NVar w) e d p = absurd (subst IsLeaf (sym p) (is_leaf w (place alphabet d w)))
  form-class (NAbs v b) (NVar w) e d p = absurd (subst IsLeaf (sym p) (is_leaf w (place alphabet d w)))
  form-class (NConst n t) (NApp g y) e d p = cc
  form-class (NConst n t) (NAbs w c) e d p = cc
  form-class (NApp f x) (NConst m u) e d p = cc
  form-class (NApp f x) (NAbs w c) e d p = cc
  form-class (NAbs v b) (NConst m u) e d p = cc
  form-class (NAbs v b) (NApp g y) e d p = cc

  -- at the top, related variables are one
  pub alike-same : (vs ws : List (Variable N)) → AreAlike alphabet alphabet (SameLeaf alphabet [] []) vs ws → vs ≡ ws
  alike-same [] [] h = refl
  alike-same [] (w ∷ ws) h = absurd h
  alike-same (v ∷ vs) [] h = absurd h
  alike-same (v ∷ vs) (w ∷ ws) h =
      let first = leaf-one [] v w h.0 in
      let rest = alike-same vs ws h.1 in
      λ i. first i ∷ rest i
