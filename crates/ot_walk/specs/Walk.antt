-- A walk over keys, depth first: each key once, behind all that it leads to.
use Rattle.std.specs.Prelude.{ℕ, zero, suc, List, [], ◌∷◌, ◌++◌, Bool, Result, Ok, Err, if◌then◌else◌}
use Rattle.std.specs.List.{list_any}

-- where an edge leads, or its fault; and the fault of an edge that leads back
pub record Edge (K E : Type 0) : Type 0 where
  pub target : Result K E
  pub back : E

-- the keys that are done, in their order; the first fault; or the bound ran out, which never happens
pub data Walk (K E : Type 0) : Type 0 where
  Walked : List K → Walk K E
  Stops : E → Walk K E
  TooDeep : Walk K E

module _ {K E : Type 0} where
  infixl 10 ◌>>=◌
  -- goes on behind the keys that are done
  abbrev pub ◌>>=◌ : Walk K E → (List K → Walk K E) → Walk K E
  (Walked ks) >>= f = f ks
  (Stops e) >>= f = Stops e
  TooDeep >>= f = TooDeep

  -- goes on with an answer
  abbrev pub followed : {A : Type 0} → Result A E → (A → Walk K E) → Walk K E
  followed (Ok x) f = f x
  followed (Err e) f = Stops e

-- whether a key is one of these
abbrev pub is_in : {K : Type 0} → (K → K → Bool) → List K → K → Bool
is_in same ks k = list_any (λ x. same x k) ks

module _ {K E : Type 0} (same : K → K → Bool) (edges : K → Result (List (Edge K E)) E) where
  -- where an edge leads, after the keys that are done; `visit` walks a key that is new
  abbrev pub arrive : (List K → K → Walk K E) → List K → E → List K → K → Walk K E
  arrive visit path back done k =
      if is_in same done k then Walked done else (if is_in same path k then Stops back else visit done k)

  -- edges in their order
  abbrev pub walk_edges : (List K → K → Walk K E) → List K → List (Edge K E) → List K → Walk K E
  walk_edges visit path [] done = Walked done
  walk_edges visit path (e ∷ es) done = followed e.target (arrive visit path e.back done) >>= walk_edges visit path es

  -- a new key, which the keys of the path lead to: its edges, then the key itself
  abbrev pub walk_key : ℕ → List K → List K → K → Walk K E
  walk_key zero path done k = TooDeep
  walk_key (suc n) path done k =
      followed (edges k) (λ es. walk_edges (walk_key n (k ∷ path)) (k ∷ path) es done)
      >>= λ more. Walked (more ++ k ∷ [])

  -- the walk from these edges; no path is longer than the bound
  abbrev pub walk_from : ℕ → List (Edge K E) → Walk K E
  walk_from bound es = walk_edges (walk_key bound []) [] es []
