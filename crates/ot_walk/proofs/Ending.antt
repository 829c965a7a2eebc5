-- The walk's bound is enough: the keys of a path are distinct, so no path is longer than there are keys.
use Rattle.std.specs.Bool.{Decides}
use Rattle.std.proofs.Common.{◌≡◌, ◌≢◌, ◌≤◌, ◌+◌, ℕ, zero, suc, Bool, List, [], ◌∷◌, ◌++◌}
use Rattle.std.proofs.Common.{Result, Ok, Err, length, false, inl, inr, refl, subst, arith}
use Rattle.std.proofs.lemmas.Bool.{cases_Bool}
use Rattle.ot_logic.specs.Lists.{IsMember, IsPart, AreDistinct}
use Rattle.ot_walk.specs.Walk.{Edge, Walk, Walked, Stops, TooDeep, ◌>>=◌}
use Rattle.ot_walk.specs.Walk.{followed, is_in, arrive, walk_edges, walk_key}
use Rattle.ot_walk.specs.Walks.{HasEdge, EndsAlways}
use Rattle.ot_logic.proofs.Members.{distinct-length}
use Rattle.ot_walk.proofs.Members.{apart_from_test}

module _ {K E : Type 0} where
  bind_ends : (w : Walk K E) (f : List K → Walk K E) → w ≢ TooDeep → ((ks : List K) → f ks ≢ TooDeep)
      → (w >>= f) ≢ TooDeep
  bind_ends (Walked ks) f own next = next ks
  bind_ends (Stops fault) f own next = λ e. cc
  bind_ends TooDeep f own next = λ e. absurd (own e)

module _ {K E : Type 0} (same : K → K → Bool) (tells : (x y : K) → Decides (same x y) (x ≡ y))
    (edges : K → Result (List (Edge K E)) E) (all : List K) where
  -- the walk doesn't run out at keys that the path may lead to
  abbrev VisitEnds : (List K → K → Walk K E) → List K → Type 0
  VisitEnds visit path = (done : List K) (k : K) → is_in same path k ≡ false → IsMember k all
      → visit done k ≢ TooDeep

  abbrev Inside : List (Edge K E) → Type 0
  Inside es = (e : Edge K E) (k : K) → IsMember e es → e.target ≡ Ok k → IsMember k all

  edge_ends : (visit : List K → K → Walk K E) (path : List K) → VisitEnds visit path
      → (back : E) (done : List K) (r : Result K E) → ((k : K) → r ≡ Ok k → IsMember k all)
      → followed r (arrive same edges visit path back done) ≢ TooDeep
  edge_ends visit path ends back done (Err fault) inside = λ e. cc
  edge_ends visit path ends back done (Ok k) inside = elim (cases_Bool (is_in same done k)) [
    | inl known ↦ rw known (λ e. cc)
    | inr fresh ↦ elim (cases_Bool (is_in same path k)) [
      | inl back ↦ rw (fresh, back) (λ e. cc)
      | inr new ↦ rw (fresh, new) (ends done k new (inside k refl))
    ]
  ]

  edges_end : (visit : List K → K → Walk K E) (path : List K) → VisitEnds visit path
      → (es : List (Edge K E)) (done : List K) → Inside es → walk_edges same edges visit path es done ≢ TooDeep
  edges_end visit path ends [] done inside = λ e. cc
  edges_end visit path ends (e ∷ es) done inside =
      bind_ends (followed e.target (arrive same edges visit path e.back done)) (walk_edges same edges visit path es)
      (edge_ends visit path ends e.back done e.target (λ k t. inside e k (inl refl) t))
      (λ more. edges_end visit path ends es more (λ f k m. inside f k (inr m)))

  key_at : (n : ℕ) (path done : List K) (k : K) → VisitEnds (walk_key same edges n (k ∷ path)) (k ∷ path)
      → (r : Result (List (Edge K E)) E) → ((es : List (Edge K E)) → r ≡ Ok es → Inside es)
      → (followed r (λ es. walk_edges same edges (walk_key same edges n (k ∷ path)) (k ∷ path) es done)
      >>= λ more. Walked (more ++ k ∷ [])) ≢ TooDeep
  key_at n path done k inner (Err fault) inside = λ e. cc
  key_at n path done k inner (Ok es) inside =
      bind_ends (walk_edges same edges (walk_key same edges n (k ∷ path)) (k ∷ path) es done)
      (λ more. Walked (more ++ k ∷ []))
      (edges_end (walk_key same edges n (k ∷ path)) (k ∷ path) inner es done (inside es refl)) (λ more e. cc)

  key_ends : ((e : Edge K E) (j k : K) → HasEdge edges j e → e.target ≡ Ok k → IsMember k all)
      → (n : ℕ) (path : List K) → AreDistinct path → IsPart path all → length all ≤ n + length path
      → VisitEnds (walk_key same edges n path) path
  key_ends later zero path once part bound done k new here =
      let most : length (k ∷ path) ≤ length all =
      distinct-length (k ∷ path) all (apart_from_test same tells path k new, once)
      (λ c m. elim m [ inl e ↦ subst (λ z. IsMember z all) e here | inr h ↦ part c h ]) in
      absurd (omega (arith, most, bound))
  key_ends later (suc n) path once part bound done k new here =
      key_at n path done k
      (key_ends later n (k ∷ path) (apart_from_test same tells path k new, once)
      (λ c m. elim m [ inl e ↦ subst (λ z. IsMember z all) e here | inr h ↦ part c h ]) (omega (arith, bound)))
      (edges k) (λ es are e c m t. later e k c (record { all = es; are = are; here = m }) t)

module _ {K E : Type 0} (same : K → K → Bool) (tells : (x y : K) → Decides (same x y) (x ≡ y))
    (edges : K → Result (List (Edge K E)) E) where
  pub ends_always : EndsAlways same edges
  ends_always all start n stays bound =
      edges_end same tells edges all (walk_key same edges n []) []
      (key_ends same tells edges all stays.later n [] tt (λ c m. absurd m) (omega (arith, bound))) start []
      stays.first
