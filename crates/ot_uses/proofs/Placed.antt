-- The places of items that pass a test: in rising order, and which they are.
use Rattle.std.specs.Prelude.{◌↔◌, not}
use Rattle.std.specs.List.{filter}
use Rattle.std.proofs.Common.{◌≡◌, ◌≢◌, ℕ, zero, suc, ◌+◌, ◌<◌, ◌≤◌, inl, inr, Bool, true, false, cond, List, [], ◌∷◌}
use Rattle.std.proofs.Common.{length, get_or, sym, ap, subst, ◌∙◌, true≢false, arith}
use Rattle.ot_logic.specs.Lists.{IsMember}
use Rattle.ot_logic.specs.Names.{Name}
use Rattle.ot_logic.proofs.Members.{IsMember-map, IsMember-map_back}
use Rattle.ot_trace.specs.Origins.{Origin}
use Rattle.ot_written.specs.Laws.{Tells}
use Rattle.ot_written.specs.Needed.{firsts_by}
use Rattle.ot_written.proofs.Filters.{bool_cases, filter-to, filter-from}
use Rattle.ot_uses.specs.Used.{beside_places, places_in, same}
use Rattle.ot_uses.proofs.Numbering.{numbered-at}
use Rattle.ot_uses.proofs.Rising.{RisesFrom, rises-lower}

module _ {X : Type 0} where
  -- ---- in rising order
  numbered-rises : (k : ℕ) (xs : List X) → RisesFrom k (places_in (beside_places k xs))
  numbered-rises k [] = tt
  numbered-rises k (x ∷ xs) = (omega arith, numbered-rises (suc k) xs)

  filter-rises : (t : ℕ × X → Bool) (k : ℕ) (ps : List (ℕ × X)) → RisesFrom k (places_in ps)
      → RisesFrom k (places_in (filter t ps))
  filter-rises t k [] r = tt
  filter-rises t k (p ∷ ps) r = go (t p) (filter-rises t (suc p.0) ps r.1)
    where
      go : (b : Bool) → RisesFrom (suc p.0) (places_in (filter t ps))
          → RisesFrom k (places_in (cond b (p ∷ filter t ps) (filter t ps)))
      go true s = (r.0, s)
      go false s = rises-lower k (suc p.0) (places_in (filter t ps)) (omega (arith, r.0)) s

  firsts-rise : (of : ℕ × X → Origin Name) (k : ℕ) (ps : List (ℕ × X)) → RisesFrom k (places_in ps)
      → RisesFrom k (places_in (firsts_by same of ps))
  firsts-rise of k [] r = tt
  firsts-rise of k (p ∷ ps) r = (
    r.0,
    filter-rises (λ q. not (same (of p) (of q))) (suc p.0) (firsts_by same of ps) (firsts-rise of (suc p.0) ps r.1),
  )

  pub passing-rise : (t : X → Bool) (xs : List X)
      → RisesFrom 0 (places_in (filter (λ p. t p.1) (beside_places 0 xs)))
  passing-rise t xs = filter-rises (λ p. t p.1) 0 (beside_places 0 xs) (numbered-rises 0 xs)

  -- ---- which they are
  numbered-from : (k : ℕ) (xs : List X) (i : ℕ) (d : X) (j : ℕ) → j ≡ k + i → i < length xs
      → IsMember (j, get_or xs i d) (beside_places k xs)
  numbered-from k [] i d j e h = absurd (omega (arith, h))
  numbered-from k (x ∷ xs) zero d j e h = let same : k ≡ j = omega (arith, e) in inl (λ z. (same z, x))
  numbered-from k (x ∷ xs) (suc i) d j e h = inr (numbered-from (suc k) xs i d j (omega (arith, e)) (omega (arith, h)))

  pub passing-are : (t : X → Bool) (d : X) (xs : List X) (p : ℕ)
      → IsMember p (places_in (filter (λ q. t q.1) (beside_places 0 xs)))
      ↔ ((p < length xs) × (t (get_or xs p d) ≡ true))
  passing-are t d xs p = (to, from)
    where
      to : IsMember p (places_in (filter (λ q. t q.1) (beside_places 0 xs)))
          → (p < length xs) × (t (get_or xs p d) ≡ true)
      to m =
          let (q, here, e) = IsMember-map_back (λ (q : ℕ × X). q.0) p (filter (λ q. t q.1) (beside_places 0 xs)) m in
          let (there, passes) = filter-to (λ q. t q.1) q (beside_places 0 xs) here in
          let (i, at, h, is) = numbered-at 0 xs q there in
          let place : i ≡ p = omega (arith, e, at) in
          subst (λ n. (n < length xs) × (t (get_or xs n d) ≡ true)) place (h, ap t (is d) ∙ passes)

      from : (p < length xs) × (t (get_or xs p d) ≡ true)
          → IsMember p (places_in (filter (λ q. t q.1) (beside_places 0 xs)))
      from h =
          IsMember-map (λ (q : ℕ × X). q.0) (p, get_or xs p d) (filter (λ q. t q.1) (beside_places 0 xs))
          (filter-from (λ q. t q.1) (p, get_or xs p d) (beside_places 0 xs) (numbered-from 0 xs p d p (omega arith) h.0)
          h.1)

-- ---- of several with one origin the first alone
module _ (tells : Tells same) where
  abbrev Os : Type 0
  Os = List (Origin Name)

  -- no earlier one has its origin
  abbrev IsNew : Os → ℕ → Origin Name → Type 0
  IsNew xs i x = (j : ℕ) (d : Origin Name) → j < i → get_or xs j d ≢ x

  other : (x y : Origin Name) → not (same x y) ≡ true → x ≢ y
  other x y n e = true≢false (sym n ∙ ap not ((tells x y).1 e))

  apart : (x y : Origin Name) → x ≢ y → not (same x y) ≡ true
  apart x y n = elim (bool_cases (same x y)) [ inl e ↦ absurd (n ((tells x y).0 e)) | inr e ↦ ap not e ]

  firsts-at : (k : ℕ) (xs : Os) (q : ℕ × Origin Name) → IsMember q (firsts_by same (λ p. p.1) (beside_places k xs))
      → (i : ℕ) × (q.0 ≡ i + k) × (i < length xs) × ((d : Origin Name) → get_or xs i d ≡ q.1) × IsNew xs i q.1
  firsts-at k [] q m = absurd m
  firsts-at k (x ∷ xs) q (inl e) = (
    0,
    (let z : k ≡ 0 + k = omega arith in sym (ap (λ (q : ℕ × Origin Name). q.0) e) ∙ z),
    omega arith,
    λ d. ap (λ (q : ℕ × Origin Name). q.1) e,
    λ j d h. absurd (omega (arith, h)),
  )
  firsts-at k (x ∷ xs) q (inr m) =
      let (there, apart) =
      filter-to (λ (y : ℕ × Origin Name). not (same x y.1)) q (firsts_by same (λ p. p.1) (beside_places (suc k) xs)) m in
      let (i, at, h, is, new) = firsts-at (suc k) xs q there in
      let lt : i < length xs = h in
      (suc i, omega (arith, at), omega (arith, lt), is, later i new apart)
    where
      later : (i : ℕ) → IsNew xs i q.1 → not (same x q.1) ≡ true → IsNew (x ∷ xs) (suc i) q.1
      later i new apart zero d h = other x q.1 apart
      later i new apart (suc j) d h = new j d (omega (arith, h))

  firsts-from : (k : ℕ) (xs : Os) (i : ℕ) (d : Origin Name) (j : ℕ) → j ≡ k + i → i < length xs
      → ((n : ℕ) → n < i → get_or xs n d ≢ get_or xs i d)
      → IsMember (j, get_or xs i d) (firsts_by same (λ p. p.1) (beside_places k xs))
  firsts-from k [] i d j e h new = absurd (omega (arith, h))
  firsts-from k (x ∷ xs) zero d j e h new = let same : k ≡ j = omega (arith, e) in inl (λ z. (same z, x))
  firsts-from k (x ∷ xs) (suc i) d j e h new =
      inr (filter-from (λ (y : ℕ × Origin Name). not (same x y.1)) (j, get_or xs i d)
      (firsts_by same (λ p. p.1) (beside_places (suc k) xs))
      (firsts-from (suc k) xs i d j (omega (arith, e)) (omega (arith, h)) (λ n b. new (suc n) (omega (arith, b))))
      (apart x (get_or xs i d) (new 0 (omega arith))))

  pub first-passing-rise : (t : Origin Name → Bool) (xs : Os)
      → RisesFrom 0 (places_in (filter (λ p. t p.1) (firsts_by same (λ p. p.1) (beside_places 0 xs))))
  first-passing-rise t xs =
      filter-rises (λ p. t p.1) 0 (firsts_by same (λ p. p.1) (beside_places 0 xs))
      (firsts-rise (λ p. p.1) 0 (beside_places 0 xs) (numbered-rises 0 xs))

  pub first-passing-are : (t : Origin Name → Bool) (d : Origin Name) (xs : Os) (p : ℕ)
      → IsMember p (places_in (filter (λ q. t q.1) (firsts_by same (λ q. q.1) (beside_places 0 xs))))
      ↔ ((p < length xs) × ((q : ℕ) → q < p → get_or xs q d ≢ get_or xs p d) × (t (get_or xs p d) ≡ true))
  first-passing-are t d xs p = (to, from)
    where
      firsts : List (ℕ × Origin Name)
      firsts = firsts_by same (λ q. q.1) (beside_places 0 xs)

      Passing : ℕ → Type 0
      Passing n =
          (n < length xs) × ((q : ℕ) → q < n → get_or xs q d ≢ get_or xs n d) × (t (get_or xs n d) ≡ true)

      to : IsMember p (places_in (filter (λ q. t q.1) firsts)) → Passing p
      to m =
          let (q, here, e) = IsMember-map_back (λ (q : ℕ × Origin Name). q.0) p (filter (λ q. t q.1) firsts) m in
          let (there, passes) = filter-to (λ q. t q.1) q firsts here in
          let (i, at, h, is, new) = firsts-at 0 xs q there in
          let place : i ≡ p = omega (arith, e, at) in
          subst Passing place (h, (λ j b. subst (λ x. get_or xs j d ≢ x) (sym (is d)) (new j d b)), ap t (is d) ∙ passes)

      from : Passing p → IsMember p (places_in (filter (λ q. t q.1) firsts))
      from h =
          IsMember-map (λ (q : ℕ × Origin Name). q.0) (p, get_or xs p d) (filter (λ q. t q.1) firsts)
          (filter-from (λ q. t q.1) (p, get_or xs p d) firsts (firsts-from 0 xs p d p (omega arith) h.0 h.1) h.2)
