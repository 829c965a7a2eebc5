-- The table of sets, and the unions that are kept.
use Rattle.std.specs.Prelude.{◌≡◌, ◌↔◌, ◌⊎◌, ◌&&◌, ℕ, ◌<◌, Bool, nat_eq, List, length, Some, slice_index_or}
use Rattle.std.specs.Map.{lookup}
use Rattle.ot_logic.specs.Interned.{trees_of, IsSound}
use Rattle.ot_logic.specs.Lists.{IsMember}
use Rattle.ot_sets.specs.Trees.{Tree, Empty, One, Both, members}
use Rattle.ot_sets.specs.declared.table.SetNode.{SetNode}
use Rattle.ot_sets.specs.declared.table.SetNode.TheVariants as nodes
use Rattle.ot_sets.specs.declared.table.Pair.{Pair}

-- the set of a number
abbrev pub tree_at : List Tree → ℕ → Tree
tree_at ts i = slice_index_or ts i Empty

-- the set of a node
abbrev pub tree_of : List Tree → SetNode → Tree
tree_of ts nodes.Empty = Empty
tree_of ts (nodes.One k) = One k
tree_of ts (nodes.Both s t) = Both (tree_at ts s) (tree_at ts t)

-- the node's sets have numbers below k
abbrev pub IsBelow : ℕ → SetNode → Type 0
IsBelow k nodes.Empty = Unit {0}
IsBelow k (nodes.One n) = Unit {0}
IsBelow k (nodes.Both s t) = (s < k) × (t < k)

-- nothing stands beside a node
abbrev pub Describes : Tree → Unit {0} → Type 0
Describes t b = Unit {0}

-- the sets of the entries
abbrev pub sets_of : List (SetNode × Unit {0}) → List Tree
sets_of es = trees_of tree_of es

-- what the nodes keep
abbrev pub AreSetNodes : List (SetNode × Unit {0}) → List Tree → Type 0
AreSetNodes es ts = IsSound tree_of IsBelow (λ us n b. Describes (tree_of us n) b) es ts

-- a set has a number
abbrev pub Has : List Tree → ℕ → ℕ → Type 0
Has ts id k = IsMember k (members (tree_at ts id))

-- the set of a number has the numbers of two others
pub record IsUnionAt (ts : List Tree) (a b id : ℕ) : Type 0 where
  pub within : id < length ts
  pub numbers : (k : ℕ) → Has ts id k ↔ (Has ts a k ⊎ Has ts b k)

-- whether two pairs are one
abbrev pub same_pair : Pair → Pair → Bool
same_pair p q = nat_eq p.a q.a && nat_eq p.b q.b

-- each entry is the union of its pair
pub record AreUnions (ts : List Tree) (es : List (Pair × ℕ)) : Type 0 where
  pub each : (p : Pair) (id : ℕ) → lookup (same_pair p) es ≡ Some id
      → (p.a < length ts) × (p.b < length ts) × IsUnionAt ts p.a p.b id
