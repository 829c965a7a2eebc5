-- A shape with leaves in its holes: a class gives back the nameless form.
use Rattle.std.specs.List.{filter}
use Rattle.std.specs.Option.{is_none, option_map}
use Rattle.std.proofs.Common.{◌≡◌, ℕ, zero, suc, ◌-◌, Bool, true, false, cond, not, List, [], ◌∷◌, ◌++◌, map, length}
use Rattle.std.proofs.Common.{take, drop, get_or, Option, None, Some, refl, sym, ap, subst, ◌∙◌, inl, inr, arith}
use Rattle.std.proofs.Common.{length-append}
use Rattle.std.proofs.Math.Seq.{take-append_seam, drop-append_seam}
use Rattle.std.proofs.lemmas.List.{map-append}
use Rattle.std.proofs.lemmas.Option.{slice_get-map, get_or_from_slice_get}
use Rattle.ot_logic.specs.Lists.{IsMember, AreDistinct}
use Rattle.ot_logic.specs.Trees.{Alphabet, Variable, Tm, Con, Bound, App, Abs, Named, NVar, NConst, NApp, NAbs}
use Rattle.ot_logic.specs.Hol.{same_var}
use Rattle.ot_logic.specs.NamedTerms.{place, nameless_in}
use Rattle.ot_laws.proofs.Tests.{Tells, same_var-is, same_var-no}
use Rattle.ot_shape.specs.Shape.{Shape, Hole, Constant, Apply, Bind, class_of, without, joined}
use Rattle.ot_shape.proofs.Leaves.{raised, leaf, leaf-bound, leaf-raised, place-is}
use Rattle.ot_shape.proofs.Frees.{without-absent, frees-distinct}

-- how many holes of an argument the function lacks
abbrev added : List (Option ℕ) → ℕ
added [] = 0
added (None ∷ m) = suc (added m)
added (Some k ∷ m) = added m

module _ {N : Type 0} where
  abbrev first : List (Tm N) → Tm N
  first [] = Bound 0
  first (t ∷ ts) = t

  -- the leaves of an argument: those of the function's holes, and those that it adds
  abbrev chosen : List (Option ℕ) → List (Tm N) → List (Tm N) → List (Tm N)
  chosen [] fs xs = []
  chosen (Some k ∷ m) fs xs = get_or fs k (Bound 0) ∷ chosen m fs xs
  chosen (None ∷ m) fs [] = Bound 0 ∷ chosen m fs []
  chosen (None ∷ m) fs (x ∷ xs) = x ∷ chosen m fs xs

  -- a bound place at a hole
  abbrev put_in : ℕ → List (Tm N) → List (Tm N)
  put_in zero ts = Bound 0 ∷ ts
  put_in (suc k) [] = Bound 0 ∷ []
  put_in (suc k) (t ∷ ts) = t ∷ put_in k ts

  abbrev bound_at : Option ℕ → List (Tm N) → List (Tm N)
  bound_at None ts = ts
  bound_at (Some k) ts = put_in k ts

  -- the shape with leaves in its holes
  abbrev pub filled : Shape N → List (Tm N) → Tm N
  filled Hole ts = first ts
  filled (Constant n t) ts = Con n t
  filled (Apply f x m) ts =
      let k = length ts - added m in
      App (filled f (take k ts)) (filled x (chosen m (take k ts) (drop k ts)))
  filled (Bind t k b) ts = Abs t (filled b (bound_at k (map raised ts)))

module _ {N : Type 0} (alphabet : Alphabet N) (tells : Tells alphabet) where
  module _ (g : Variable N → Tm N) (fs : List (Variable N)) where
    abbrev new : List (Variable N) → List (Variable N)
    new xs = filter (λ v. is_none (place alphabet fs v)) xs

    added-new : (xs : List (Variable N)) → added (map (place alphabet fs) xs) ≡ length (map g (new xs))
    added-new [] = refl
    added-new (x ∷ xs) = by (place alphabet fs x) (added-new xs)
      where
        by : (o : Option ℕ) → added (map (place alphabet fs) xs) ≡ length (map g (new xs))
            → added (o ∷ map (place alphabet fs) xs) ≡ length (map g (cond (is_none o) (x ∷ new xs) (new xs)))
        by None e = ap suc e
        by (Some k) e = e

    chosen-all : (xs : List (Variable N)) → chosen (map (place alphabet fs) xs) (map g fs) (map g (new xs)) ≡ map g xs
    chosen-all [] = refl
    chosen-all (x ∷ xs) = by (place alphabet fs x) refl (chosen-all xs)
      where
        by : (o : Option ℕ) → place alphabet fs x ≡ o
            → chosen (map (place alphabet fs) xs) (map g fs) (map g (new xs)) ≡ map g xs
            → chosen (o ∷ map (place alphabet fs) xs) (map g fs)
            (map g (cond (is_none o) (x ∷ new xs) (new xs))) ≡ g x ∷ map g xs
        by None q e = ap (λ ts. g x ∷ ts) e
        by (Some k) q e =
            let at = slice_get-map g fs k ∙ ap (option_map g) (place-is alphabet tells fs x k q) in
            let one : get_or (map g fs) k (Bound 0) ≡ g x = get_or_from_slice_get (map g fs) k (g x) (Bound 0) at in
            λ i. one i ∷ e i

    -- the leaves of a function and those that its argument adds come apart again
    split-front : (ts us : List (Tm N)) → take (length (ts ++ us) - length us) (ts ++ us) ≡ ts
    split-front ts us =
        let n : length (ts ++ us) - length us ≡ length ts = omega (arith, length-append ts us) in
        ap (λ k. take k (ts ++ us)) n ∙ take-append_seam ts us

    split-back : (ts us : List (Tm N)) → drop (length (ts ++ us) - length us) (ts ++ us) ≡ us
    split-back ts us =
        let n : length (ts ++ us) - length us ≡ length ts = omega (arith, length-append ts us) in
        ap (λ k. drop k (ts ++ us)) n ∙ drop-append_seam ts us

    filled-application : (f x : Shape N) (xs : List (Variable N))
        → filled (Apply f x (map (place alphabet fs) xs)) (map g (joined alphabet fs xs))
        ≡ App (filled f (map g fs)) (filled x (map g xs))
    filled-application f x xs =
        let ts = map g fs in
        let us = map g (new xs) in
        let m = map (place alphabet fs) xs in
        let parts : map g (joined alphabet fs xs) ≡ ts ++ us = map-append g fs (new xs) in
        let at : length (map g (joined alphabet fs xs)) - added m ≡ length (ts ++ us) - length us =
        λ i. length (parts i) - added-new xs i in
        let front : take (length (map g (joined alphabet fs xs)) - added m) (map g (joined alphabet fs xs)) ≡ ts =
        (λ i. take (at i) (parts i)) ∙ split-front ts us in
        let back : drop (length (map g (joined alphabet fs xs)) - added m) (map g (joined alphabet fs xs)) ≡ us =
        (λ i. drop (at i) (parts i)) ∙ split-back ts us in
        let all : chosen m (take (length (map g (joined alphabet fs xs)) - added m) (map g (joined alphabet fs xs)))
        (drop (length (map g (joined alphabet fs xs)) - added m) (map g (joined alphabet fs xs))) ≡ map g xs =
        (λ i. chosen m (front i) (back i)) ∙ chosen-all xs in
        λ i. App (filled f (front i)) (filled x (all i))

  -- the leaves of a body: those of the abstraction one binder further in, and the bound place
  module _ (e : List (Variable N)) (v : Variable N) where
    raised-absent : (vs : List (Variable N)) → ¬ (IsMember v vs) → map raised (map (leaf alphabet e) vs)
        ≡ map (leaf alphabet (v ∷ e)) vs
    raised-absent [] n = refl
    raised-absent (w ∷ vs) n =
        let other = same_var-no alphabet tells v w (λ p. n (inl (sym p))) in
        let here = sym (leaf-raised alphabet tells e v w other) in
        let rest = raised-absent vs (λ m. n (inr m)) in
        λ i. here i ∷ rest i

    bound-leaves : (vs : List (Variable N)) → AreDistinct vs
        → bound_at (place alphabet vs v) (map raised (map (leaf alphabet e) (without alphabet v vs)))
        ≡ map (leaf alphabet (v ∷ e)) vs
    bound-leaves [] d = refl
    bound-leaves (w ∷ vs) d = by (same_var alphabet v w) refl (bound-leaves vs d.1)
      where
        inside : (o : Option ℕ) (t : Tm N) (ts : List (Tm N)) → bound_at (option_map suc o) (t ∷ ts)
            ≡ t ∷ bound_at o ts
        inside None t ts = refl
        inside (Some k) t ts = refl

        by : (b : Bool) → same_var alphabet v w ≡ b
            → bound_at (place alphabet vs v) (map raised (map (leaf alphabet e) (without alphabet v vs)))
            ≡ map (leaf alphabet (v ∷ e)) vs
            → bound_at (cond b (Some 0) (option_map suc (place alphabet vs v)))
            (map raised (map (leaf alphabet e) (cond (not b) (w ∷ without alphabet v vs) (without alphabet v vs))))
            ≡ leaf alphabet (v ∷ e) w ∷ map (leaf alphabet (v ∷ e)) vs
        by true t ih =
            let one = (same_var-is alphabet tells v w).0 t in
            let absent : ¬ (IsMember v vs) = subst (λ x. ¬ (IsMember x vs)) (sym one) d.0 in
            let here : Bound 0 ≡ leaf alphabet (v ∷ e) w =
            sym (leaf-bound alphabet tells e v) ∙ ap (leaf alphabet (v ∷ e)) one in
            let rest = ap (λ ws. map raised (map (leaf alphabet e) ws)) (without-absent alphabet tells v vs absent)
            ∙ raised-absent vs absent in
            λ i. here i ∷ rest i
        by false t ih =
            let here = sym (leaf-raised alphabet tells e v w t) in
            inside (place alphabet vs v) _ _ ∙ (λ i. here i ∷ ih i)

  -- a class gives back the nameless form
  pub filled-class : (t : Named N) (e : List (Variable N))
      → filled (class_of alphabet t).shape (map (leaf alphabet e) (class_of alphabet t).frees)
      ≡ nameless_in alphabet e t
  filled-class (NVar v) e = refl
  filled-class (NConst n t) e = refl
  filled-class (NApp f x) e =
      let left = filled-class f e in
      let right = filled-class x e in
      filled-application (leaf alphabet e) (class_of alphabet f).frees (class_of alphabet f).shape
      (class_of alphabet x).shape (class_of alphabet x).frees ∙ (λ i. App (left i) (right i))
  filled-class (NAbs v b) e =
      ap (Abs v.ty)
      (ap (filled (class_of alphabet b).shape)
      (bound-leaves e v (class_of alphabet b).frees (frees-distinct alphabet tells b)) ∙ filled-class b (v ∷ e))
