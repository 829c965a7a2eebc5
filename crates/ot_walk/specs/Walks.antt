-- Laws of the walk, in other words.
use Rattle.std.specs.Prelude.{◌≡◌, ◌≢◌, ◌≤◌, ℕ, List, [], ◌∷◌, ◌++◌, length, Bool, Result, Ok, Err, ◌⊎◌}
use Rattle.ot_logic.specs.Lists.{IsMember, AreDistinct}
use Rattle.ot_walk.specs.Walk.{Edge, Walked, Stops, TooDeep, walk_from}

module _ {K E : Type 0} (edges : K → Result (List (Edge K E)) E) where
  -- an edge of this key
  pub record HasEdge (k : K) (e : Edge K E) : Type 0 where
    pub all : List (Edge K E)
    pub are : edges k ≡ Ok all
    pub here : IsMember e all

  -- edges lead from the first ones to a key
  pub data Reaches (start : List (Edge K E)) : K → Type 0 where
    First : (k : K) (e : Edge K E) → IsMember e start → e.target ≡ Ok k → Reaches start k
    Further : (j k : K) (e : Edge K E) → Reaches start j → HasEdge j e → e.target ≡ Ok k → Reaches start k

  -- edges lead from one key to another, or it is the same one
  pub data Leads : K → K → Type 0 where
    Here : (k : K) → Leads k k
    Along : (i j k : K) (e : Edge K E) → Leads i j → HasEdge j e → e.target ≡ Ok k → Leads i k

  -- each edge leads to one of these keys
  abbrev pub LeadInto : List (Edge K E) → List K → Type 0
  LeadInto es ks = (e : Edge K E) → IsMember e es → (k : K) × (e.target ≡ Ok k) × IsMember k ks

  -- the keys that are reached: each once, behind all that it leads to
  pub record IsWalk (start : List (Edge K E)) (order : List K) : Type 0 where
    pub once : AreDistinct order
    pub starts : LeadInto start order
    pub behind : (front back : List K) (k : K) → order ≡ front ++ k ∷ back
        → (es : List (Edge K E)) × (edges k ≡ Ok es) × LeadInto es front
    pub reached : (k : K) → IsMember k order → Reaches start k

  -- a first edge, or one of a key that is reached
  abbrev pub IsReached : List (Edge K E) → Edge K E → Type 0
  IsReached start e = IsMember e start ⊎ ((k : K) × Reaches start k × HasEdge k e)

  -- why a walk stops
  pub data HasStop (start : List (Edge K E)) : E → Type 0 where
    -- a key that is reached has no edges
    NoEdges : (k : K) (fault : E) → Reaches start k → edges k ≡ Err fault → HasStop start fault
    -- an edge leads nowhere
    NoTarget : (e : Edge K E) (fault : E) → IsReached start e → e.target ≡ Err fault → HasStop start fault
    -- an edge leads back
    Cycle : (j k : K) (e : Edge K E) → Reaches start j → HasEdge j e → e.target ≡ Ok k → Leads k j
        → HasStop start e.back

  -- each edge leads to a key of the list
  pub record StaysIn (start : List (Edge K E)) (all : List K) : Type 0 where
    pub first : (e : Edge K E) (k : K) → IsMember e start → e.target ≡ Ok k → IsMember k all
    pub later : (e : Edge K E) (j k : K) → HasEdge j e → e.target ≡ Ok k → IsMember k all

module _ {K E : Type 0} (same : K → K → Bool) (edges : K → Result (List (Edge K E)) E) where
  -- a law: the bound is enough
  abbrev pub EndsAlways : Type 0
  EndsAlways = (all : List K) (start : List (Edge K E)) (n : ℕ) → StaysIn edges start all → length all ≤ n
      → walk_from same edges n start ≢ TooDeep

  -- a law: what the walk gives
  abbrev pub GivesWalk : Type 0
  GivesWalk = (n : ℕ) (start : List (Edge K E)) (order : List K) → walk_from same edges n start ≡ Walked order
      → IsWalk edges start order

  -- a law: what stands before the target of a first edge is reached from that edge and those before it
  abbrev pub GivesTurns : Type 0
  GivesTurns = (n : ℕ) (before after : List (Edge K E)) (e : Edge K E) (k : K) (order front back : List K)
      → walk_from same edges n (before ++ e ∷ after) ≡ Walked order → e.target ≡ Ok k → order ≡ front ++ k ∷ back
      → (j : K) → IsMember j front → Reaches edges (before ++ e ∷ []) j

  -- a law: of a walk from one edge, its target is the last key
  abbrev pub GivesLast : Type 0
  GivesLast = (n : ℕ) (e : Edge K E) (k : K) (order : List K) → walk_from same edges n (e ∷ []) ≡ Walked order
      → e.target ≡ Ok k → (front : List K) × (order ≡ front ++ k ∷ [])

  -- a law: where it stops, there is a cause
  abbrev pub GivesStop : Type 0
  GivesStop = (n : ℕ) (start : List (Edge K E)) (fault : E) → walk_from same edges n start ≡ Stops fault
      → HasStop edges start fault
