-- Of elements those whose origins are among some, each at its first place, one after another.
use Rattle.std.proofs.Common.{◌≡◌, inl, inr, Bool, true, false, not, cond}
use Rattle.std.proofs.Common.{List, [], ◌∷◌, refl, sym, ap, ◌∙◌, true≢false}
use Rattle.std.specs.Prelude.{◌&&◌, ◌||◌}
use Rattle.std.specs.Bool.{Decides}
use Rattle.std.specs.List.{filter}
use Rattle.ot_trace.specs.Origins.{Origin}
use Rattle.ot_written.specs.Needed.{firsts_by, is_among}
use Rattle.ot_written.proofs.Filters.{bool_cases, filter-all, filter-filter, filter-same}

module _ {N X : Type 0} (same : Origin N → Origin N → Bool) (of : X → Origin N) where
  -- of elements whose origin is among these, those whose origin stands at no earlier one
  abbrev pub kept : List (Origin N) → List (Origin N) → List X → List X
  kept needed before [] = []
  kept needed before (x ∷ xs) = cond (is_among same (of x) needed && not (is_among same (of x) before))
      (x ∷ kept needed (of x ∷ before) xs) (kept needed (of x ∷ before) xs)

module _ {N : Type 0} (same : Origin N → Origin N → Bool)
    (same-is : (a b : Origin N) → Decides (same a b) (a ≡ b)) where
  same-back : (a b : Origin N) → same a b ≡ same b a
  same-back a b = elim (bool_cases (same a b)) [
    | inl e ↦ e ∙ sym ((same-is b a).1 (sym ((same-is a b).0 e)))
    | inr e ↦ elim (bool_cases (same b a)) [
      | inl f ↦ absurd (true≢false (sym ((same-is a b).1 (sym ((same-is b a).0 f))) ∙ e))
      | inr f ↦ e ∙ sym f
    ]
  ]

  module _ {X : Type 0} (of : X → Origin N) where
    module _ (needed before : List (Origin N)) where
      abbrev P : X → Bool
      P e = is_among same (of e) needed

      abbrev new_to : List (Origin N) → X → Bool
      new_to seen e = not (is_among same (of e) seen)

      -- what follows d, in two ways
      others : (d : X) (xs : List X) → filter (new_to (of d ∷ before)) (filter P xs)
          ≡ filter (new_to before) (filter P (filter (λ e. not (same (of d) (of e))) xs))
      others d xs =
          filter-filter (new_to (of d ∷ before)) P xs
          ∙ filter-same _ _ xs
          (λ e m. each (same (of e) (of d)) (same (of d) (of e)) (is_among same (of e) before) (P e)
          (same-back (of e) (of d)))
          ∙ sym (filter-filter (new_to before) (λ e. P e && not (same (of d) (of e))) xs)
          ∙ ap (filter (new_to before)) (sym (filter-filter P (λ e. not (same (of d) (of e))) xs))
        where
          each : (a b c p : Bool) → a ≡ b → (not (a || c) && p) ≡ (not c && (p && not b))
          each true true true true e = refl
          each true true false true e = refl
          each true true true false e = refl
          each true true false false e = refl
          each false false true true e = refl
          each false false false true e = refl
          each false false true false e = refl
          each false false false false e = refl
          each true false c p e = absurd (cc)
          each false true c p e = absurd (cc)

      one-kept : (m : X) (ms : List X) → kept same of needed (of m ∷ before) ms ≡ filter (new_to (of m ∷ before))
          (filter P (firsts_by same of ms)) → kept same of needed before (m ∷ ms)
          ≡ filter (new_to before) (filter P (firsts_by same of (m ∷ ms)))
      one-kept m ms h = go (P m) (is_among same (of m) before) refl refl
        where
          go : (a b : Bool) → P m ≡ a → is_among same (of m) before ≡ b → cond (a && not b)
              (m ∷ kept same of needed (of m ∷ before) ms) (kept same of needed (of m ∷ before) ms)
              ≡ filter (new_to before)
              (cond a (m ∷ filter P (filter (λ e. not (same (of m) (of e))) (firsts_by same of ms)))
              (filter P (filter (λ e. not (same (of m) (of e))) (firsts_by same of ms))))
          go true true e f = h ∙ others m (firsts_by same of ms) ∙ sym (rw f refl)
          go true false e f = ap (λ l. m ∷ l) (h ∙ others m (firsts_by same of ms)) ∙ sym (rw f refl)
          go false b e f = h ∙ others m (firsts_by same of ms)

    kept-filter : (needed before : List (Origin N)) (ms : List X) → kept same of needed before ms ≡ filter
        (λ e. not (is_among same (of e) before)) (filter (λ e. is_among same (of e) needed) (firsts_by same of ms))
    kept-filter needed before [] = refl
    kept-filter needed before (m ∷ ms) = one-kept needed before m ms (kept-filter needed (of m ∷ before) ms)

    pub kept-is : (needed : List (Origin N)) (ms : List X) → kept same of needed [] ms
        ≡ filter (λ e. is_among same (of e) needed) (firsts_by same of ms)
    kept-is needed ms = kept-filter needed [] ms
        ∙ filter-all (λ e. true) (filter (λ e. is_among same (of e) needed) (firsts_by same of ms)) (λ x m. refl)
