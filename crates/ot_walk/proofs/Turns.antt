-- The order in which first edges are walked.
use Rattle.std.specs.Bool.{Decides}
use Rattle.std.proofs.Common.{◌≡◌, ℕ, zero, suc, Bool, List, [], ◌∷◌, ◌++◌, Result, Ok, Err}
use Rattle.std.proofs.Common.{inl, inr, refl, sym, ap, subst, ◌∙◌, append_assoc, append-nil}
use Rattle.std.proofs.lemmas.Bool.{cases_Bool}
use Rattle.ot_logic.specs.Lists.{IsMember, AreDistinct}
use Rattle.ot_walk.specs.Walk.{Edge, Walk, Walked, Stops, TooDeep, ◌>>=◌}
use Rattle.ot_walk.specs.Walk.{followed, is_in, arrive, walk_edges, walk_key}
use Rattle.ot_walk.specs.Walks.{GivesTurns, GivesLast}
use Rattle.ot_walk.proofs.Members.{member_end, split_member}
use Rattle.ot_walk.proofs.Walking.{gives_walk}
use Rattle.ot_logic.proofs.Members.{IsMember-left}

module _ {K E : Type 0} where
  bind_more : (w : Walk K E) (h f g : List K → Walk K E) → ((ks : List K) → h ks ≡ f ks >>= g)
      → w >>= h ≡ (w >>= f) >>= g
  bind_more (Walked ks) h f g more = more ks
  bind_more (Stops fault) h f g more = refl
  bind_more TooDeep h f g more = refl

  bind_walked : (w : Walk K E) (f : List K → Walk K E) (ks : List K) → w >>= f ≡ Walked ks
      → (mid : List K) × (w ≡ Walked mid) × (f mid ≡ Walked ks)
  bind_walked (Walked mid) f ks e = (mid, refl, e)
  bind_walked (Stops fault) f ks e = absurd cc
  bind_walked TooDeep f ks e = absurd cc

  same_walk : (xs ys : List K) → ◌≡◌ {A = Walk K E} (Walked xs) (Walked ys) → xs ≡ ys
  same_walk xs ys e = cc

module _ {K : Type 0} where
  -- of a list whose members are distinct, one member has one place
  one_place : (k : K) (f b g c : List K) → AreDistinct (f ++ k ∷ b) → f ++ k ∷ b ≡ g ++ k ∷ c → f ≡ g
  one_place k [] b [] c d e = refl
  one_place k [] b (y ∷ g) c d e =
      let rest : b ≡ g ++ k ∷ c = cc in
      absurd (d.0 (subst (IsMember k) (sym rest) (here g c)))
    where
      here : (xs ys : List K) → IsMember k (xs ++ k ∷ ys)
      here [] ys = inl refl
      here (x ∷ xs) ys = inr (here xs ys)
  one_place k (x ∷ f) b [] c d e =
      let same : x ≡ k = cc in
      absurd (d.0 (subst (λ z. IsMember z (f ++ k ∷ b)) (sym same) (here f b)))
    where
      here : (xs ys : List K) → IsMember k (xs ++ k ∷ ys)
      here [] ys = inl refl
      here (x ∷ xs) ys = inr (here xs ys)
  one_place k (x ∷ f) b (y ∷ g) c d e =
      let same : x ≡ y = cc in
      let rest : f ++ k ∷ b ≡ g ++ k ∷ c = cc in
      ap (λ z. z ∷ f) same ∙ ap (λ zs. y ∷ zs) (one_place k f b g c d.1 rest)

module _ {K E : Type 0} (same : K → K → Bool) (edges : K → Result (List (Edge K E)) E) where
  edges_append : (visit : List K → K → Walk K E) (path : List K) (xs ys : List (Edge K E)) (done : List K)
      → walk_edges same edges visit path (xs ++ ys) done ≡ walk_edges same edges visit path xs done
      >>= walk_edges same edges visit path ys
  edges_append visit path [] ys done = refl
  edges_append visit path (e ∷ xs) ys done =
      bind_more (followed e.target (arrive same edges visit path e.back done))
      (walk_edges same edges visit path (xs ++ ys)) (walk_edges same edges visit path xs)
      (walk_edges same edges visit path ys)
      (λ ks. edges_append visit path xs ys ks)

  -- the keys that are done stay at the front
  abbrev Grown : List K → List K → Type 0
  Grown done new = (more : List K) × (new ≡ done ++ more)

  grown_trans : (a b c : List K) → Grown a b → Grown b c → Grown a c
  grown_trans a b c first second =
      (first.0 ++ second.0, second.1 ∙ ap (λ z. z ++ second.0) first.1 ∙ append_assoc a first.0 second.0)

  abbrev VisitGrows : (List K → K → Walk K E) → Type 0
  VisitGrows visit = (done : List K) (k : K) (new : List K) → visit done k ≡ Walked new → Grown done new

  edge_grows : (visit : List K → K → Walk K E) (path : List K) → VisitGrows visit
      → (back : E) (r : Result K E) (done new : List K)
      → followed r (arrive same edges visit path back done) ≡ Walked new → Grown done new
  edge_grows visit path grows back (Err fault) done new e = absurd cc
  edge_grows visit path grows back (Ok k) done new e = elim (cases_Bool (is_in same done k)) [
    | inl known ↦ let at : ◌≡◌ {A = Walk K E} (Walked done) (Walked new) = rw known at e in
        ([], sym (same_walk done new at) ∙ sym (append-nil done))
    | inr fresh ↦ elim (cases_Bool (is_in same path k)) [
      | inl on_path ↦ let at : ◌≡◌ {A = Walk K E} (Stops back) (Walked new) = rw (fresh, on_path) at e in absurd cc
      | inr off ↦ let at : visit done k ≡ Walked new = rw (fresh, off) at e in grows done k new at
    ]
  ]

  edges_grow : (visit : List K → K → Walk K E) (path : List K) → VisitGrows visit
      → (es : List (Edge K E)) (done new : List K)
      → walk_edges same edges visit path es done ≡ Walked new → Grown done new
  edges_grow visit path grows [] done new e = ([], sym (same_walk done new e) ∙ sym (append-nil done))
  edges_grow visit path grows (x ∷ es) done new e =
      let (mid, first, rest) = bind_walked (followed x.target (arrive same edges visit path x.back done))
      (walk_edges same edges visit path es) new e in
      grown_trans done mid new (edge_grows visit path grows x.back x.target done mid first)
      (edges_grow visit path grows es mid new rest)

  key_at : (n : ℕ) (path : List K) (done : List K) (k : K) (new : List K)
      → VisitGrows (walk_key same edges n (k ∷ path)) → (r : Result (List (Edge K E)) E)
      → (followed r (λ es. walk_edges same edges (walk_key same edges n (k ∷ path)) (k ∷ path) es done)
      >>= λ more. Walked (more ++ k ∷ [])) ≡ Walked new → Grown done new
  key_at n path done k new inner (Err fault) e = absurd cc
  key_at n path done k new inner (Ok es) e =
      let (mid, first, last) =
      bind_walked (walk_edges same edges (walk_key same edges n (k ∷ path)) (k ∷ path) es done)
      (λ more. Walked (more ++ k ∷ [])) new e in
      grown_trans done mid new (edges_grow (walk_key same edges n (k ∷ path)) (k ∷ path) inner es done mid first)
      (k ∷ [], sym (same_walk (mid ++ k ∷ []) new last))

  key_grows : (n : ℕ) (path : List K) → VisitGrows (walk_key same edges n path)
  key_grows zero path done k new e = absurd cc
  key_grows (suc n) path done k new e = key_at n path done k new (key_grows n (k ∷ path)) (edges k) e

module _ {K E : Type 0} (same : K → K → Bool) (tells : (x y : K) → Decides (same x y) (x ≡ y))
    (edges : K → Result (List (Edge K E)) E) where
  pub gives_turns : GivesTurns same edges
  gives_turns n before after e k order front back walk target cut j m =
      let visit = walk_key same edges n [] in
      let split = sym (ap (λ es. walk_edges same edges visit [] es []) (append_assoc before (e ∷ []) after))
      ∙ edges_append same edges visit [] (before ++ e ∷ []) after [] in
      let total = gives_walk same tells edges n (before ++ e ∷ after) order walk in
      let (mid, first, rest) = bind_walked (walk_edges same edges visit [] (before ++ e ∷ []) [])
      (walk_edges same edges visit [] after) order (sym split ∙ walk) in
      let part = gives_walk same tells edges n (before ++ e ∷ []) mid first in
      let (more, grown) = edges_grow same edges visit [] (key_grows same edges n []) after mid order rest in
      let (other, there, inside) = part.starts e (member_end before e) in
      let is : other ≡ k = same_target other k (sym there ∙ target) in
      let (f, b, place) = split_member k mid (subst (λ z. IsMember z mid) is inside) in
      let whole : order ≡ f ++ k ∷ (b ++ more) = grown ∙ ap (λ z. z ++ more) place ∙ append_assoc f (k ∷ b) more in
      let at : f ≡ front = one_place k f (b ++ more) front back (subst AreDistinct whole total.once)
      (sym whole ∙ cut) in
      part.reached j (subst (IsMember j) (sym place) (IsMember-left j f (k ∷ b) (subst (IsMember j) (sym at) m)))
    where
      same_target : (x y : K) → ◌≡◌ {A = Result K E} (Ok x) (Ok y) → x ≡ y
      same_target x y e = cc

module _ {K E : Type 0} (same : K → K → Bool) (edges : K → Result (List (Edge K E)) E) where
  key_last : (n : ℕ) (path done : List K) (k : K) (new : List K) → walk_key same edges n path done k ≡ Walked new
      → (front : List K) × (new ≡ front ++ k ∷ [])
  key_last zero path done k new e = absurd cc
  key_last (suc n) path done k new e =
      let (more, first, last) =
      bind_walked (followed (edges k)
      (λ es. walk_edges same edges (walk_key same edges n (k ∷ path)) (k ∷ path) es done))
      (λ more. Walked (more ++ k ∷ [])) new e in
      (more, sym (same_walk (more ++ k ∷ []) new last))

  pub gives_last : GivesLast same edges
  gives_last n e k order walk target =
      let visit = walk_key same edges n [] in
      let one : (visit [] k >>= walk_edges same edges visit [] []) ≡ Walked order = rw target at walk in
      let (mid, first, rest) = bind_walked (visit [] k) (walk_edges same edges visit [] []) order one in
      let (front, last) = key_last n [] [] k mid first in
      (front, sym (same_walk mid order rest) ∙ last)
