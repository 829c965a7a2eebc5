-- A table of nodes, some of which are far from their greatest number.
use Rattle.std.specs.Prelude.{◌≡◌, ℕ, ◌≤◌, Bool, true, List, [], ◌∷◌, Option, Some, None, slice_get, slice_index}
use Rattle.indexmap.specs.IndexMap.{IndexMap}
use Rattle.indexmap.specs.Layout.{hash_map}
use Rattle.ot_near.specs.declared.place.Placed.{Placed}

-- a map of nodes, of which nothing but the entries is said
abbrev pub NearEntries : Type 0 → Type 0 → Type 0
NearEntries K V = IndexMap K V (Unit {0})

abbrev pub near_map : {K V : Type 0} → List (K × V) → NearEntries K V
near_map es = hash_map es tt 0

-- the entries, whether near or far
abbrev pub nodes_of : {K V : Type 0} → List (Placed K × V) → List (K × V)
nodes_of [] = []
nodes_of (e ∷ es) = (e.0.node, e.1) ∷ nodes_of es

-- a number has many users
abbrev pub IsFull : List ℕ → Option ℕ → Type 0
IsFull users None = ⊥
IsFull users (Some n) = 8 ≤ slice_index users n

module _ {K : Type 0} (same : K → K → Bool) (greatest : K → Option ℕ) where
  -- no node stands twice, near or far, and what is far has a number with many users
  pub record IsNear (ps : List (Placed K)) (users : List ℕ) : Type 0 where
    pub once : (i j : ℕ) (x y : Placed K) → slice_get ps i ≡ Some x → slice_get ps j ≡ Some y
        → same x.node y.node ≡ true → i ≡ j
    pub full : (i : ℕ) (x : Placed K) → slice_get ps i ≡ Some x → x.is_far ≡ true → IsFull users (greatest x.node)

  -- an entry with the node of p is far exactly where p is, and where p is, its number has many users
  pub record IsSoughtIn (ps : List (Placed K)) (users : List ℕ) (p : Placed K) : Type 0 where
    pub alike : (i : ℕ) (x : Placed K) → slice_get ps i ≡ Some x → same p.node x.node ≡ true → p.is_far ≡ x.is_far
    pub full : p.is_far ≡ true → IsFull users (greatest p.node)
