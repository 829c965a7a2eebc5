-- The type variables and the symbols of a named abstraction's nameless form.
use Rattle.std.proofs.Common.{◌≡◌, ℕ, suc, List, [], ◌∷◌, ◌++◌, refl, subst, inl, inr, ◌⊎◌}
use Rattle.ot_logic.specs.Lists.{IsMember, IsPart, IsSameSet}
use Rattle.ot_logic.specs.Trees.{Alphabet, Ty, Variable, Tm, Free, Con, Bound, App, Abs, Named, NAbs, ConSymbol}
use Rattle.ot_logic.specs.Hol.{vars_ty, vars_tm, symbols_ty, symbols_tm, close_at}
use Rattle.ot_logic.specs.NamedTerms.{nameless}
use Rattle.ot_laws.proofs.Tests.{Tells, var_cases}
use Rattle.ot_laws.proofs.Sets.{part-append}
use Rattle.ot_logic.proofs.Members.{IsMember-cases, IsMember-left, IsMember-right}

-- what is gathered from the types and the constants of a term
abbrev gathered : {N X : Type 0} → (Ty N → List X) → (N → Ty N → List X) → Tm N → List X
gathered f g (Free v) = f v.ty
gathered f g (Con n t) = g n t
gathered f g (Bound k) = []
gathered f g (App m x) = gathered f g m ++ gathered f g x
gathered f g (Abs t b) = f t ++ gathered f g b

module _ {N X : Type 0} (alphabet : Alphabet N) (tells : Tells alphabet) (f : Ty N → List X)
    (g : N → Ty N → List X) where
  -- closing adds nothing, and drops what is of the variable's type alone
  closed-part : (k : ℕ) (v : Variable N) (t : Tm N) → IsPart (gathered f g (close_at alphabet k v t)) (gathered f g t)
  closed-part k v (Free w) n i =
      elim (var_cases alphabet tells w v) [ inl p ↦ absurd (rw p.0 at i) | inr p ↦ rw p.0 at i ]
  closed-part k v (Con m t) n i = i
  closed-part k v (Bound j) n i = i
  closed-part k v (App m x) n i =
      elim (IsMember-cases n (gathered f g (close_at alphabet k v m)) (gathered f g (close_at alphabet k v x)) i) [
        | inl j ↦ IsMember-left n (gathered f g m) (gathered f g x) (closed-part k v m n j)
        | inr j ↦ IsMember-right n (gathered f g m) (gathered f g x) (closed-part k v x n j)
      ]
  closed-part k v (Abs t b) n i = elim (IsMember-cases n (f t) (gathered f g (close_at alphabet (suc k) v b)) i) [
    | inl j ↦ IsMember-left n (f t) (gathered f g b) j
    | inr j ↦ IsMember-right n (f t) (gathered f g b) (closed-part (suc k) v b n j)
  ]

  closed-back : (k : ℕ) (v : Variable N) (t : Tm N) (n : X) → IsMember n (gathered f g t)
      → IsMember n (f v.ty) ⊎ IsMember n (gathered f g (close_at alphabet k v t))
  closed-back k v (Free w) n i = elim (var_cases alphabet tells w v)
      [ inl p ↦ inl (subst (λ z. IsMember n (f z.ty)) p.1 i) | inr p ↦ inr (rw p.0 i) ]
  closed-back k v (Con m t) n i = inr i
  closed-back k v (Bound j) n i = inr i
  closed-back k v (App m x) n i =
      let left = gathered f g (close_at alphabet k v m) in
      let right = gathered f g (close_at alphabet k v x) in
      elim (IsMember-cases n (gathered f g m) (gathered f g x) i) [
        | inl j ↦ elim (closed-back k v m n j) [ inl h ↦ inl h | inr h ↦ inr (IsMember-left n left right h) ]
        | inr j ↦ elim (closed-back k v x n j) [ inl h ↦ inl h | inr h ↦ inr (IsMember-right n left right h) ]
      ]
  closed-back k v (Abs t b) n i =
      let body = gathered f g (close_at alphabet (suc k) v b) in
      elim (IsMember-cases n (f t) (gathered f g b) i) [
        | inl j ↦ inr (IsMember-left n (f t) body j)
        | inr j ↦ elim (closed-back (suc k) v b n j) [ inl h ↦ inl h | inr h ↦ inr (IsMember-right n (f t) body h) ]
      ]

  gathered-abs : (v : Variable N) (t : Tm N) → IsSameSet (gathered f g (Abs v.ty (close_at alphabet 0 v t)))
      (f v.ty ++ gathered f g t)
  gathered-abs v t = let shut = gathered f g (close_at alphabet 0 v t) in record {
    to = part-append (f v.ty) shut (f v.ty ++ gathered f g t) (λ x i. IsMember-left x (f v.ty) (gathered f g t) i)
        (λ x i. IsMember-right x (f v.ty) (gathered f g t) (closed-part 0 v t x i));
    back = part-append (f v.ty) (gathered f g t) (f v.ty ++ shut) (λ x i. IsMember-left x (f v.ty) shut i)
        (λ x i. elim (closed-back 0 v t x i)
        [ inl j ↦ IsMember-left x (f v.ty) shut j | inr j ↦ IsMember-right x (f v.ty) shut j ]);
  }

module _ {N : Type 0} (alphabet : Alphabet N) where
  vars-gathered : (t : Tm N) → gathered (vars_ty alphabet) (λ n. vars_ty alphabet) t ≡ vars_tm alphabet t
  vars-gathered (Free v) = refl
  vars-gathered (Con n t) = refl
  vars-gathered (Bound k) = refl
  vars-gathered (App m x) = λ i. vars-gathered m i ++ vars-gathered x i
  vars-gathered (Abs t b) = λ i. vars_ty alphabet t ++ vars-gathered b i

  symbols-gathered : (t : Tm N) → gathered (symbols_ty alphabet) (λ n u. ConSymbol n ∷ symbols_ty alphabet u) t
      ≡ symbols_tm alphabet t
  symbols-gathered (Free v) = refl
  symbols-gathered (Con n t) = refl
  symbols-gathered (Bound k) = refl
  symbols-gathered (App m x) = λ i. symbols-gathered m i ++ symbols-gathered x i
  symbols-gathered (Abs t b) = λ i. symbols_ty alphabet t ++ symbols-gathered b i

module _ {N : Type 0} (alphabet : Alphabet N) (tells : Tells alphabet) where
  -- the type variables of an abstraction are those of its variable and of its body
  pub vars-abs : (v : Variable N) (b : Named N) → IsSameSet (vars_tm alphabet (nameless alphabet (NAbs v b)))
      (vars_ty alphabet v.ty ++ vars_tm alphabet (nameless alphabet b))
  vars-abs v b =
      rw (← vars-gathered alphabet (nameless alphabet (NAbs v b)), ← vars-gathered alphabet (nameless alphabet b))
      (gathered-abs alphabet tells (vars_ty alphabet) (λ n. vars_ty alphabet) v (nameless alphabet b))

  -- so are its symbols
  pub symbols-abs : (v : Variable N) (b : Named N) → IsSameSet (symbols_tm alphabet (nameless alphabet (NAbs v b)))
      (symbols_ty alphabet v.ty ++ symbols_tm alphabet (nameless alphabet b))
  symbols-abs v b =
      rw (
        ← symbols-gathered alphabet (nameless alphabet (NAbs v b)),
        ← symbols-gathered alphabet
            (nameless alphabet b),
      )
      (gathered-abs alphabet tells (symbols_ty alphabet) (λ n u. ConSymbol n ∷ symbols_ty alphabet u) v
      (nameless alphabet b))
