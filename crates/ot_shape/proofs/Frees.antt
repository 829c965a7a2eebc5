-- The list of a class: the free variables of the term, each once.
use Rattle.std.specs.List.{filter}
use Rattle.std.specs.Option.{is_none, option_map}
use Rattle.std.proofs.Common.{◌≡◌, ℕ, suc, Bool, true, false, cond, not, true≢false, List, [], ◌∷◌}
use Rattle.std.proofs.Common.{Option, None, Some, refl, sym, ap, subst, ◌∙◌, inl, inr, ◌⊎◌}
use Rattle.ot_logic.specs.Lists.{IsMember, AreDistinct}
use Rattle.ot_logic.specs.Trees.{Alphabet, Variable, Named, NVar, NConst, NApp, NAbs}
use Rattle.ot_logic.specs.Hol.{same_var}
use Rattle.ot_logic.specs.NamedTerms.{place, IsFreeIn}
use Rattle.ot_logic.proofs.Members.{IsMember-left, IsMember-right, IsMember-cases, IsMember-at}
use Rattle.ot_laws.proofs.Sets.{distinct-append}
use Rattle.ot_laws.proofs.Tests.{Tells, same_var-is, same_var-no}
use Rattle.ot_shape.specs.Shape.{joined, without, class_of}
use Rattle.ot_shape.proofs.Leaves.{place-is}

-- the members that pass a test
module _ {X : Type 0} (test : X → Bool) where
  pub filter-from : (x : X) (xs : List X) → IsMember x (filter test xs) → IsMember x xs × (test x ≡ true)
  filter-from x [] m = absurd m
  filter-from x (y ∷ ys) m = by (filter-from x ys) (test y) refl m
    where
      by : (IsMember x (filter test ys) → IsMember x ys × (test x ≡ true)) → (b : Bool) → test y ≡ b
          → IsMember x (cond b (y ∷ filter test ys) (filter test ys)) → IsMember x (y ∷ ys) × (test x ≡ true)
      by rest true e (inl p) = (inl p, subst (λ z. test z ≡ true) p e)
      by rest true e (inr m) = let (i, q) = rest m in (inr i, q)
      by rest false e m = let (i, q) = rest m in (inr i, q)

  pub filter-to : (x : X) (xs : List X) → IsMember x xs → test x ≡ true → IsMember x (filter test xs)
  filter-to x [] m t = absurd m
  filter-to x (y ∷ ys) m t = by (λ m. filter-to x ys m t) (test y) refl m
    where
      by : (IsMember x ys → IsMember x (filter test ys)) → (b : Bool) → test y ≡ b → (y ≡ x) ⊎ IsMember x ys
          → IsMember x (cond b (y ∷ filter test ys) (filter test ys))
      by rest true e (inl p) = inl p
      by rest true e (inr m) = inr (rest m)
      by rest false e (inl p) = absurd (true≢false (sym t ∙ ap test (sym p) ∙ e))
      by rest false e (inr m) = rest m

  pub filter-distinct : (xs : List X) → AreDistinct xs → AreDistinct (filter test xs)
  filter-distinct [] d = tt
  filter-distinct (x ∷ xs) d = by (filter-distinct xs d.1) (test x)
    where
      by : AreDistinct (filter test xs) → (b : Bool) → AreDistinct (cond b (x ∷ filter test xs) (filter test xs))
      by rest true = (λ m. d.0 (filter-from x xs m).0, rest)
      by rest false = rest

module _ {N : Type 0} (alphabet : Alphabet N) (tells : Tells alphabet) where
  -- a variable has no place just where it is no member
  pub place-none : (vs : List (Variable N)) (v : Variable N) → is_none (place alphabet vs v) ≡ true
      → ¬ (IsMember v vs)
  place-none [] v p m = m
  place-none (w ∷ vs) v p m = by (place-none vs v) (same_var alphabet v w) refl (place alphabet vs v) refl p m
    where
      by : (is_none (place alphabet vs v) ≡ true → ¬ (IsMember v vs)) → (b : Bool) → same_var alphabet v w ≡ b
          → (o : Option ℕ) → place alphabet vs v ≡ o → is_none (cond b (Some 0) (option_map suc o)) ≡ true
          → (w ≡ v) ⊎ IsMember v vs → ⊥
      by rest true t o q p m = true≢false (sym p)
      by rest false t None q p (inl e) = true≢false (sym ((same_var-is alphabet tells v w).1 (sym e)) ∙ t)
      by rest false t None q p (inr m) = rest (ap is_none q) m
      by rest false t (Some k) q p m = true≢false (sym p)

  pub place-some : (vs : List (Variable N)) (v : Variable N) → is_none (place alphabet vs v) ≡ false → IsMember v vs
  place-some vs v p = by (place alphabet vs v) refl p
    where
      by : (o : Option ℕ) → place alphabet vs v ≡ o → is_none o ≡ false → IsMember v vs
      by None q p = absurd (true≢false p)
      by (Some k) q p = IsMember-at vs k v (place-is alphabet tells vs v k q)

  pub joined-to : (fs xs : List (Variable N)) (v : Variable N) → IsMember v fs ⊎ IsMember v xs
      → IsMember v (joined alphabet fs xs)
  joined-to fs xs v (inl m) = IsMember-left v fs _ m
  joined-to fs xs v (inr m) = by (is_none (place alphabet fs v)) refl
    where
      by : (b : Bool) → is_none (place alphabet fs v) ≡ b → IsMember v (joined alphabet fs xs)
      by true e = IsMember-right v fs _ (filter-to (λ w. is_none (place alphabet fs w)) v xs m e)
      by false e = IsMember-left v fs _ (place-some fs v e)

  pub joined-from : (fs xs : List (Variable N)) (v : Variable N) → IsMember v (joined alphabet fs xs)
      → IsMember v fs ⊎ IsMember v xs
  joined-from fs xs v m = elim (IsMember-cases v fs _ m)
      [ inl i ↦ inl i | inr i ↦ inr (filter-from (λ w. is_none (place alphabet fs w)) v xs i).0 ]

  pub joined-distinct : (fs xs : List (Variable N)) → AreDistinct fs → AreDistinct xs
      → AreDistinct (joined alphabet fs xs)
  joined-distinct fs xs d e =
      distinct-append fs _ d (filter-distinct (λ w. is_none (place alphabet fs w)) xs e)
      (λ v m i. place-none fs v (filter-from (λ w. is_none (place alphabet fs w)) v xs i).1 m)

  pub without-to : (v w : Variable N) (vs : List (Variable N)) → ¬ (v ≡ w) → IsMember w vs
      → IsMember w (without alphabet v vs)
  without-to v w vs n m = filter-to (λ w. not (same_var alphabet v w)) w vs m
      (ap not (same_var-no alphabet tells v w n))

  pub without-from : (v w : Variable N) (vs : List (Variable N)) → IsMember w (without alphabet v vs)
      → ¬ (v ≡ w) × IsMember w vs
  without-from v w vs m =
      let (i, t) = filter-from (λ w. not (same_var alphabet v w)) w vs m in
      (λ e. true≢false (sym t ∙ ap not ((same_var-is alphabet tells v w).1 e)), i)

  -- a list without a variable that it lacks
  pub without-absent : (v : Variable N) (vs : List (Variable N)) → ¬ (IsMember v vs) → without alphabet v vs ≡ vs
  without-absent v [] n = refl
  without-absent v (w ∷ vs) n =
      ap (λ b. cond (not b) (w ∷ without alphabet v vs) (without alphabet v vs))
      (same_var-no alphabet tells v w (λ e. n (inl (sym e))))
      ∙ ap (λ ws. w ∷ ws) (without-absent v vs (λ m. n (inr m)))

  pub frees-distinct : (t : Named N) → AreDistinct (class_of alphabet t).frees
  frees-distinct (NVar v) = (λ m. m, tt)
  frees-distinct (NConst n t) = tt
  frees-distinct (NApp f x) = joined-distinct _ _ (frees-distinct f) (frees-distinct x)
  frees-distinct (NAbs v b) = filter-distinct (λ w. not (same_var alphabet v w)) _ (frees-distinct b)

  pub frees-to : (v : Variable N) (t : Named N) → IsMember v (class_of alphabet t).frees → IsFreeIn alphabet v t
  frees-to v (NVar w) (inl e) = e
  frees-to v (NVar w) (inr m) = absurd m
  frees-to v (NConst n t) m = absurd m
  frees-to v (NApp f x) m = elim (joined-from (class_of alphabet f).frees (class_of alphabet x).frees v m)
      [ inl i ↦ inl (frees-to v f i) | inr i ↦ inr (frees-to v x i) ]
  frees-to v (NAbs w b) m = let (n, i) = without-from w v _ m in (n, frees-to v b i)

  pub frees-from : (v : Variable N) (t : Named N) → IsFreeIn alphabet v t → IsMember v (class_of alphabet t).frees
  frees-from v (NVar w) e = inl e
  frees-from v (NConst n t) h = absurd h
  frees-from v (NApp f x) (inl h) = joined-to (class_of alphabet f).frees _ v (inl (frees-from v f h))
  frees-from v (NApp f x) (inr h) =
      joined-to (class_of alphabet f).frees (class_of alphabet x).frees v (inr (frees-from v x h))
  frees-from v (NAbs w b) h = without-to w v _ h.0 (frees-from v b h.1)
