-- The rest of a walk, from the keys that wait for each other.
use Rattle.std.proofs.Common.{◌≡◌, ℕ, zero, suc, Bool, true, false, List, [], ◌∷◌, ◌++◌, map, Result, Ok, Err, refl}
use Rattle.ot_walk.specs.Walk.{Edge, Walk, Walked, Stops, TooDeep, ◌>>=◌, is_in, walk_edges, walk_key, walk_from}

module _ {K E : Type 0} where
  -- the keys that are walked, each with the edges that are left where it was met
  abbrev pub path_of : List (K × List (Edge K E)) → List K
  path_of ws = map (λ w. w.0) ws

  pub bind_walked : (w : Walk K E) → (w >>= λ ks. Walked ks) ≡ w
  bind_walked (Walked ks) = refl
  bind_walked (Stops fault) = refl
  bind_walked TooDeep = refl

  bind_twice : (w : Walk K E) (k : K) (g h : List K → Walk K E) → ((w >>= λ more. Walked (more ++ k ∷ [])) >>= g)
      >>= h ≡ w >>= λ more. (g (more ++ k ∷ []) >>= h)
  bind_twice (Walked ks) k g h = refl
  bind_twice (Stops fault) k g h = refl
  bind_twice TooDeep k g h = refl

module _ {K E : Type 0} (same : K → K → Bool) (edges : K → Result (List (Edge K E)) E) where
  -- what is left when the last key is done: it is added, and the walk goes on where it was met
  abbrev pub then_of : List (K × List (Edge K E)) → ℕ → List K → Walk K E
  then_of [] n more = Walked more
  then_of (w ∷ ws) n more = walk_edges same edges (walk_key same edges (suc n) (path_of ws)) (path_of ws) w.1
      (more ++ w.0 ∷ []) >>= then_of ws (suc n)

  -- the rest of the walk from these edges
  abbrev pub rest_of : ℕ → List (K × List (Edge K E)) → List (Edge K E) → List K → Walk K E
  rest_of n ws es done = walk_edges same edges (walk_key same edges n (path_of ws)) (path_of ws) es done
      >>= then_of ws n

  pub rest_start : (n : ℕ) (es : List (Edge K E)) → rest_of n [] es [] ≡ walk_from same edges n es
  rest_start n es = bind_walked (walk_from same edges n es)

  module _ (n : ℕ) (ws : List (K × List (Edge K E))) (e : Edge K E) (es : List (Edge K E)) (done : List K) where
    pub rest_nowhere : (fault : E) → e.target ≡ Err fault → rest_of n ws (e ∷ es) done ≡ Stops fault
    rest_nowhere fault t = rw t refl

    pub rest_known : (k : K) → e.target ≡ Ok k → is_in same done k ≡ true → rest_of n ws (e ∷ es) done
        ≡ rest_of n ws es done
    rest_known k t known = rw (t, known) refl

    pub rest_back : (k : K) → e.target ≡ Ok k → is_in same done k ≡ false → is_in same (path_of ws) k
        ≡ true → rest_of n ws (e ∷ es) done ≡ Stops e.back
    rest_back k t fresh back = rw (t, fresh, back) refl

  module _ (ws : List (K × List (Edge K E))) (e : Edge K E) (es : List (Edge K E)) (done : List K) (k : K)
      (t : e.target ≡ Ok k) (fresh : is_in same done k ≡ false)
      (new : is_in same (path_of ws) k ≡ false) where
    pub rest_zero : rest_of zero ws (e ∷ es) done ≡ TooDeep
    rest_zero = rw (t, fresh, new) refl

    pub rest_stopped : (n : ℕ) (fault : E) → edges k ≡ Err fault → rest_of (suc n) ws (e ∷ es) done ≡ Stops fault
    rest_stopped n fault are = rw (t, fresh, new, are) refl

    pub rest_new : (n : ℕ) (fs : List (Edge K E)) → edges k ≡ Ok fs → rest_of (suc n) ws (e ∷ es) done
        ≡ rest_of n ((k, es) ∷ ws) fs done
    rest_new n fs are = rw (t, fresh, new, are)
        (bind_twice (walk_edges same edges (walk_key same edges n (k ∷ path_of ws)) (k ∷ path_of ws) fs done) k
        (walk_edges same edges (walk_key same edges (suc n) (path_of ws)) (path_of ws) es) (then_of ws (suc n)))
