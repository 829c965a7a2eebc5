-- The needed definitions by a test of what is reached.
use Rattle.std.proofs.Common.{◌≡◌, ℕ, zero, suc, ◌+◌, ◌<◌, inl, inr, Bool, true, false, cond, List, [], ◌∷◌}
use Rattle.std.proofs.Common.{length, slice_get, Some, arith, refl, sym, subst, ◌∙◌, true≢false}
use Rattle.std.specs.Prelude.{◌↔◌}
use Rattle.std.specs.Bool.{Decides}
use Rattle.std.specs.List.{filter, list_any}
use Rattle.ot_logic.specs.Lists.{IsMember, AreDistinct}
use Rattle.ot_trace.specs.Origins.{Origin}
use Rattle.ot_trace.specs.Reach.{IsReached}
use Rattle.ot_written.specs.Needed.{firsts, touches, needed_definitions}
use Rattle.ot_trace.specs.Uses.{marked_from}
use Rattle.std.proofs.Common.{◌++◌}
use Rattle.ot_written.proofs.Filters.{bool_cases, filter-to, filter-from, filter-same}
use Rattle.ot_written.proofs.NeededDefinitions.{needed-filter, needed-reached, reached-needed, firsts-to}

pub needed-by-test : {N : Type 0} (same : Origin N → Origin N → Bool)
    → ((a b : Origin N) → Decides (same a b) (a ≡ b)) → (roots ds : List (Origin N)) (test : Origin N → Bool)
    → ((d : Origin N) → IsMember d ds → (test d ≡ true) ↔ IsReached roots ds d) → needed_definitions same roots ds
    ≡ filter test (firsts same ds)
needed-by-test same same-is roots ds test tells =
    let here = needed-filter same same-is roots ds in
    here ∙ filter-same (λ d. list_any (touches same d) (roots ++ needed_definitions same roots ds)) test
    (firsts same ds)
    (λ d m. elim (bool_cases (test d)) [
      | inl e ↦
          (filter-to (λ z. list_any (touches same z) (roots ++ needed_definitions same roots ds)) d (firsts same ds)
          (subst (λ l. IsMember d l) here (reached-needed same same-is roots ds d (firsts-to same same-is d ds m)
          ((tells d (firsts-to same same-is d ds m)).0 e)))).1 ∙ sym e
      | inr e ↦ elim (bool_cases (list_any (touches same d) (roots ++ needed_definitions same roots ds))) [
        | inl f ↦
            absurd (true≢false
            (sym ((tells d (firsts-to same same-is d ds m)).1
            (needed-reached same same-is roots ds d
            (subst (λ l. IsMember d l) (sym here)
            (filter-from (λ z. list_any (touches same z) (roots ++ needed_definitions same roots ds)) d
            (firsts same ds) m f))).1) ∙ e))
        | inr f ↦ f ∙ sym e
      ]
    ])

-- ---- the marks by number
pub marked-to : (bs : List Bool) (k i : ℕ) → IsMember i (marked_from k bs)
    → (j : ℕ) × (i ≡ k + j) × (slice_get bs j ≡ Some true)
marked-to [] k i m = elim m [ ]
marked-to (b ∷ bs) k i m = go b m (marked-to bs (suc k) i)
  where
    next : (j : ℕ) × (i ≡ suc k + j) × (slice_get bs j ≡ Some true) → (c : Bool)
        → (j : ℕ) × (i ≡ k + j) × (slice_get (c ∷ bs) j ≡ Some true)
    next r c = let e : i ≡ suc k + r.0 = r.1 in (suc r.0, omega arith, r.2)

    go : (c : Bool) → IsMember i (cond c (k ∷ marked_from (suc k) bs) (marked_from (suc k) bs))
        → (IsMember i (marked_from (suc k) bs) → (j : ℕ) × (i ≡ suc k + j) × (slice_get bs j ≡ Some true))
        → (j : ℕ) × (i ≡ k + j) × (slice_get (c ∷ bs) j ≡ Some true)
    go true (inl e) later = let f : k ≡ i = e in (0, omega arith, refl)
    go true (inr n) later = next (later n) true
    go false n later = next (later n) false

pub marked-in : (bs : List Bool) (k j : ℕ) → slice_get bs j ≡ Some true → IsMember (k + j) (marked_from k bs)
marked-in [] k j h = absurd (cc)
marked-in (b ∷ bs) k zero h = let e : b ≡ true = cc in
    subst (λ c. IsMember (k + 0) (cond c (k ∷ marked_from (suc k) bs) (marked_from (suc k) bs))) (sym e)
    (inl (let f : k ≡ k + 0 = omega arith in f))
marked-in (b ∷ bs) k (suc j) h =
    let e : suc k + j ≡ k + suc j = omega arith in
    go b (subst (λ z. IsMember z (marked_from (suc k) bs)) e (marked-in bs (suc k) j h))
  where
    go : (c : Bool) → IsMember (k + suc j) (marked_from (suc k) bs)
        → IsMember (k + suc j) (cond c (k ∷ marked_from (suc k) bs) (marked_from (suc k) bs))
    go true m = inr m
    go false m = m

pub marked-distinct : (bs : List Bool) (k : ℕ) → AreDistinct (marked_from k bs)
marked-distinct [] k = tt
marked-distinct (b ∷ bs) k = go b (marked-distinct bs (suc k))
  where
    go : (c : Bool) → AreDistinct (marked_from (suc k) bs)
        → AreDistinct (cond c (k ∷ marked_from (suc k) bs) (marked_from (suc k) bs))
    go true d = (λ m. let r = marked-to bs (suc k) k m in absurd (let e : k ≡ suc k + r.0 = r.1 in omega arith), d)
    go false d = d

pub get-low : (bs : List Bool) (j : ℕ) (b : Bool) → slice_get bs j ≡ Some b → j < length bs
get-low [] j b h = absurd (cc)
get-low (c ∷ bs) zero b h = omega arith
get-low (c ∷ bs) (suc j) b h = let r = get-low bs j b h in omega arith
