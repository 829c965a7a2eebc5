-- What a walk gives: an order, or the cause of its stop.
use Rattle.std.specs.Bool.{Decides}
use Rattle.std.proofs.Common.{◌≡◌, ℕ, zero, suc, Bool, List, [], ◌∷◌, ◌++◌, Result}
use Rattle.std.proofs.Common.{Ok, Err, false, inl, inr, refl, sym, ap, subst, ◌∙◌}
use Rattle.std.proofs.lemmas.Bool.{cases_Bool}
use Rattle.ot_logic.specs.Lists.{IsMember, IsPart, AreDistinct}
use Rattle.ot_walk.specs.Walk.{Edge, Walk, Walked, Stops, TooDeep, ◌>>=◌, followed}
use Rattle.ot_walk.specs.Walk.{is_in, arrive, walk_edges, walk_key, walk_from}
use Rattle.ot_walk.specs.Walks.{HasEdge, Reaches, First, Further, Leads, Here, Along, LeadInto}
use Rattle.ot_walk.specs.Walks.{IsReached, HasStop, NoEdges, NoTarget, Cycle, GivesWalk, GivesStop}
use Rattle.ot_walk.proofs.Members.{member_from_test, apart_from_test, member_end, cut_push}
use Rattle.ot_logic.proofs.Members.{AreDistinct-push, IsMember-left, IsMember-push}

-- ---- answers

module _ {K E : Type 0} where
  -- what holds of an answer that is an order, or a fault
  abbrev Gives : (List K → Type 0) → (E → Type 0) → Walk K E → Type 0
  Gives P Q (Walked ks) = P ks
  Gives P Q (Stops fault) = Q fault
  Gives P Q TooDeep = Unit {0}

  gives_bind : (P R : List K → Type 0) (Q : E → Type 0) (w : Walk K E) (f : List K → Walk K E)
      → Gives P Q w → ((ks : List K) → P ks → Gives R Q (f ks)) → Gives R Q (w >>= f)
  gives_bind P R Q (Walked ks) f own next = next ks own
  gives_bind P R Q (Stops fault) f own next = own
  gives_bind P R Q TooDeep f own next = tt

  gives_more : (P R : List K → Type 0) (Q : E → Type 0) (w : Walk K E) → ((ks : List K) → P ks → R ks) → Gives P Q w
      → Gives R Q w
  gives_more P R Q (Walked ks) more own = more ks own
  gives_more P R Q (Stops fault) more own = own
  gives_more P R Q TooDeep more own = tt

module _ {K E : Type 0} (same : K → K → Bool) (tells : (x y : K) → Decides (same x y) (x ≡ y))
    (edges : K → Result (List (Edge K E)) E) (start : List (Edge K E)) where
  -- ---- keys that are done

  record IsSound (ks : List K) : Type 0 where
    once : AreDistinct ks
    behind : (front back : List K) (k : K) → ks ≡ front ++ k ∷ back → (es : List (Edge K E)) × (edges k ≡ Ok es)
        × LeadInto edges es front
    reached : (k : K) → IsMember k ks → Reaches edges start k

  no_keys : IsSound []
  no_keys =
      record {
        once = tt;
        behind = λ front back k e. absurd (nothing front back k e);
        reached = λ k m. absurd m;
      } where
        nothing : (front back : List K) (k : K) → [] ≡ front ++ k ∷ back → ⊥
        nothing [] back k e = cc
        nothing (f ∷ fs) back k e = cc

  one_more : (ks : List K) (k : K) (es : List (Edge K E)) → IsSound ks → ¬ (IsMember k ks) → Reaches edges start k
      → edges k ≡ Ok es → LeadInto edges es ks → IsSound (ks ++ k ∷ [])
  one_more ks k es s new reached are into = record {
    once = AreDistinct-push ks k s.once new;
    behind = λ front back c e. elim (cut_push ks k front c back e) [
      | inl at ↦ (es, ap edges (sym at.1) ∙ are, subst (λ z. LeadInto edges es z) at.0 into)
      | inr before ↦ s.behind front before.0 c before.1
    ];
    reached = λ c m. elim (IsMember-push c ks k m) [
      | inl h ↦ s.reached c h
      | inr e ↦ subst (λ z. Reaches edges start z) e reached
    ];
  }

  -- ---- what a part of the walk adds to them

  -- of the keys on the path it adds none
  record Adds (path done new : List K) : Type 0 where
    sound : IsSound new
    keeps : IsPart done new
    apart : (k : K) → IsMember k path → IsMember k new → IsMember k done

  abbrev AddsLast : List K → List K → K → List K → Type 0
  AddsLast path done k new = Adds path done new × ((front : List K) × (new ≡ front ++ k ∷ []))

  abbrev LeadsTo : Edge K E → List K → Type 0
  LeadsTo e ks = (k : K) × (e.target ≡ Ok k) × IsMember k ks

  abbrev AddsEdge : List K → List K → Edge K E → List K → Type 0
  AddsEdge path done e new = Adds path done new × LeadsTo e new

  abbrev AddsEdges : List K → List K → List (Edge K E) → List K → Type 0
  AddsEdges path done es new = Adds path done new × LeadInto edges es new

  -- each key of the path leads to the key
  abbrev AllLead : List K → K → Type 0
  AllLead path k = (a : K) → IsMember a path → Leads edges a k

  -- where an edge comes from: the first ones, where the path is empty, or a key that the path leads to
  data Source (path : List K) (e : Edge K E) : Type 0 where
    AtStart : path ≡ [] → IsMember e start → Source path e
    AtKey : (j : K) → Reaches edges start j → HasEdge edges j e → AllLead path j → Source path e

  source_reached : (path : List K) (e : Edge K E) → Source path e → IsReached edges start e
  source_reached path e (AtStart p m) = inl m
  source_reached path e (AtKey j r h a) = inr (j, r, h)

  source_target : (path : List K) (e : Edge K E) (k : K) → Source path e → e.target ≡ Ok k → Reaches edges start k
  source_target path e k (AtStart p m) t = First k e m t
  source_target path e k (AtKey j r h a) t = Further j k e r h t

  source_leads : (path : List K) (e : Edge K E) (k : K) → Source path e → e.target ≡ Ok k → AllLead path k
  source_leads path e k (AtStart p m) t a i = absurd (subst (IsMember a) p i)
  source_leads path e k (AtKey j r h all) t a i = Along a j k e (all a i) h t

  source_back : (path : List K) (e : Edge K E) (k : K) → Source path e → e.target ≡ Ok k → IsMember k path
      → HasStop edges start e.back
  source_back path e k (AtStart p m) t i = absurd (subst (IsMember k) p i)
  source_back path e k (AtKey j r h all) t i = Cycle j k e r h t (all k i)

  abbrev Visits : (List K → K → Walk K E) → List K → Type 0
  Visits visit path = (done : List K) (k : K) → IsSound done → is_in same done k ≡ false
      → is_in same path k ≡ false → Reaches edges start k → AllLead path k
      → Gives (AddsLast path done k) (HasStop edges start) (visit done k)

  has_last : (k : K) (new : List K) → (front : List K) × (new ≡ front ++ k ∷ []) → IsMember k new
  has_last k new last = subst (IsMember k) (sym last.1) (member_end last.0 k)

  then : (path done mid new : List K) → Adds path done mid → Adds path mid new → Adds path done new
  then path done mid new first second = record {
    sound = second.sound;
    keeps = λ k m. second.keeps k (first.keeps k m);
    apart = λ k p m. first.apart k p (second.apart k p m);
  }

  unchanged : (path done : List K) → IsSound done → Adds path done done
  unchanged path done s = record { sound = s; keeps = λ c m. m; apart = λ c p m. m }

  edge_at : (visit : List K → K → Walk K E) (path : List K) → Visits visit path → (e : Edge K E) → Source path e
      → (done : List K) → IsSound done
      → (r : Result K E) → e.target ≡ r
      → Gives (AddsEdge path done e) (HasStop edges start) (followed r (arrive same edges visit path e.back done))
  edge_at visit path visits e src done s (Err fault) t = NoTarget e fault (source_reached path e src) t
  edge_at visit path visits e src done s (Ok k) t = elim (cases_Bool (is_in same done k)) [
    | inl known ↦ rw known (unchanged path done s, (k, t, member_from_test same tells done k known))
    | inr fresh ↦ elim (cases_Bool (is_in same path k)) [
      | inl back ↦ rw (fresh, back) (source_back path e k src t (member_from_test same tells path k back))
      | inr new ↦ rw (fresh, new)
          (gives_more (AddsLast path done k) (AddsEdge path done e) (HasStop edges start) (visit done k)
          (λ ks a. (a.0, (k, t, has_last k ks a.1)))
          (visits done k s fresh new (source_target path e k src t) (source_leads path e k src t)))
    ]
  ]

  lead_more : (es : List (Edge K E)) (e : Edge K E) (done new : List K) → IsPart done new → LeadsTo e done
      → LeadInto edges es new → LeadInto edges (e ∷ es) new
  lead_more es e done new part first rest f m = elim m [
    | inl q ↦ subst (λ z. LeadsTo z new) q (first.0, first.1, part first.0 first.2)
    | inr h ↦ rest f h
  ]

  edges_give : (visit : List K → K → Walk K E) (path : List K) → Visits visit path
      → (es : List (Edge K E)) (done : List K)
      → ((e : Edge K E) → IsMember e es → Source path e) → IsSound done
      → Gives (AddsEdges path done es) (HasStop edges start) (walk_edges same edges visit path es done)
  edges_give visit path visits [] done src s = (unchanged path done s, λ e m. absurd m)
  edges_give visit path visits (e ∷ es) done src s =
      gives_bind (AddsEdge path done e) (AddsEdges path done (e ∷ es)) (HasStop edges start)
      (followed e.target (arrive same edges visit path e.back done)) (walk_edges same edges visit path es)
      (edge_at visit path visits e (src e (inl refl)) done s e.target refl)
      (λ mid h. gives_more (AddsEdges path mid es) (AddsEdges path done (e ∷ es)) (HasStop edges start)
      (walk_edges same edges visit path es mid)
      (λ new a. (then path done mid new h.0 a.0, lead_more es e mid new a.0.keeps h.1 a.1))
      (edges_give visit path visits es mid (λ f m. src f (inr m)) h.0.sound))

  with_last : (path done more : List K) (k : K) (es : List (Edge K E)) → is_in same done k ≡ false
      → is_in same path k ≡ false → Reaches edges start k → edges k ≡ Ok es
      → AddsEdges (k ∷ path) done es more → Adds path done (more ++ k ∷ [])
  with_last path done more k es fresh new reached are a = record {
    sound = one_more more k es a.0.sound (λ m. apart_from_test same tells done k fresh (a.0.apart k (inl refl) m))
        reached are a.1;
    keeps = λ c m. IsMember-left c more (k ∷ []) (a.0.keeps c m);
    apart = λ c p m. elim (IsMember-push c more k m) [
      | inl h ↦ a.0.apart c (inr p) h
      | inr e ↦ absurd (apart_from_test same tells path k new (subst (λ z. IsMember z path) (sym e) p))
    ];
  }

  key_at : (n : ℕ) (path : List K) (done : List K) (k : K) → Visits (walk_key same edges n (k ∷ path)) (k ∷ path)
      → IsSound done → is_in same done k ≡ false → is_in same path k ≡ false → Reaches edges start k
      → AllLead path k
      → (r : Result (List (Edge K E)) E) → edges k ≡ r
      → Gives (AddsLast path done k) (HasStop edges start)
      (followed r (λ es. walk_edges same edges (walk_key same edges n (k ∷ path)) (k ∷ path) es done)
      >>= λ more. Walked (more ++ k ∷ []))
  key_at n path done k inner s fresh new reached all (Err fault) are = NoEdges k fault reached are
  key_at n path done k inner s fresh new reached all (Ok es) are =
      gives_bind (AddsEdges (k ∷ path) done es) (AddsLast path done k) (HasStop edges start)
      (walk_edges same edges (walk_key same edges n (k ∷ path)) (k ∷ path) es done)
      (λ more. Walked (more ++ k ∷ []))
      (edges_give (walk_key same edges n (k ∷ path)) (k ∷ path) inner es done
      (λ e m. AtKey k reached (record { all = es; are = are; here = m })
      (λ a i. elim i [ inl q ↦ subst (λ z. Leads edges z k) q (Here k) | inr h ↦ all a h ])) s)
      (λ more a. (with_last path done more k es fresh new reached are a, (more, refl)))

  key_gives : (n : ℕ) (path : List K) → Visits (walk_key same edges n path) path
  key_gives zero path done k s fresh new reached all = tt
  key_gives (suc n) path done k s fresh new reached all =
      key_at n path done k (key_gives n (k ∷ path)) s fresh new reached all (edges k) refl

  walk_gives : (n : ℕ) → Gives (AddsEdges [] [] start) (HasStop edges start) (walk_from same edges n start)
  walk_gives n = edges_give (walk_key same edges n []) [] (key_gives n []) start [] (λ e m. AtStart refl m) no_keys

module _ {K E : Type 0} (same : K → K → Bool) (tells : (x y : K) → Decides (same x y) (x ≡ y))
    (edges : K → Result (List (Edge K E)) E) where
  pub gives_walk : GivesWalk same edges
  gives_walk n start order e =
      let a = subst (Gives (AddsEdges same tells edges start [] [] start) (HasStop edges start)) e
      (walk_gives same tells edges start n) in
      record { once = a.0.sound.once; starts = a.1; behind = a.0.sound.behind; reached = a.0.sound.reached }

  pub gives_stop : GivesStop same edges
  gives_stop n start fault e = subst (Gives (AddsEdges same tells edges start [] [] start) (HasStop edges start)) e
      (walk_gives same tells edges start n)
