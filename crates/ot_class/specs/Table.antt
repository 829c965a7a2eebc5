-- The table of alpha classes.
use Rattle.std.specs.Prelude.{◌≡◌, ℕ, ◌<◌, List, Option, Some, None, length}
use Rattle.ot_logic.specs.Table.{IsInjective}
use Rattle.ot_logic.specs.Trees.{Variable}
use Rattle.ot_logic.specs.Interned.{trees_of, IsSound}
use Rattle.ot_shape.specs.Shape.{Shape, Hole, Constant, Apply, Bind}
use Rattle.ot_lists.specs.Variables.{numbered}
use Rattle.ot_lists.specs.Maps.{map_at}
use Rattle.ot_lists.specs.declared.joining.Joined.{Joined}
use Rattle.ot_class.specs.Class.{shape_at}
use Rattle.ot_class.specs.Joins.{AreJoins}
use Rattle.ot_class.specs.declared.node.ShapeNode.{ShapeNode}
use Rattle.ot_class.specs.declared.node.ShapeNode.TheVariants as node
use Rattle.ot_class.specs.declared.node.Pair.{Pair}

-- the shape of a node
abbrev pub shape_of : List (List (Option ℕ)) → List (Shape ℕ) → ShapeNode → Shape ℕ
shape_of ms ss node.Var = Hole
shape_of ms ss (node.Const n t) = Constant n (numbered t)
shape_of ms ss (node.App f x m) = Apply (shape_at ss f) (shape_at ss x) (map_at ms m)
shape_of ms ss (node.Abs t k b) = Bind (numbered t) (Some k) (shape_at ss b)
shape_of ms ss (node.Unused t b) = Bind (numbered t) None (shape_at ss b)

-- the node's numbers are of the tables
abbrev pub AreBelow : ℕ → ℕ → ShapeNode → Type 0
AreBelow maps k node.Var = Unit {0}
AreBelow maps k (node.Const n t) = Unit {0}
AreBelow maps k (node.App f x m) = (f < k) × (x < k) × (m < maps)
AreBelow maps k (node.Abs t j b) = b < k
AreBelow maps k (node.Unused t b) = b < k

-- nothing stands beside a node
abbrev pub Describes : Shape ℕ → Unit {0} → Type 0
Describes s b = Unit {0}

abbrev pub IsBeside : List (Shape ℕ) → ShapeNode → Unit {0} → Type 0
IsBeside ss n b = Unit {0}

-- the shapes of the entries
abbrev pub shapes_of : List (List (Option ℕ)) → List (ShapeNode × Unit {0}) → List (Shape ℕ)
shapes_of ms es = trees_of (shape_of ms) es

-- what the fields keep
pub record IsClassSound (ls : List (List (Variable ℕ))) (ms : List (List (Option ℕ))) (js : List (Pair × Joined))
    (es : List (ShapeNode × Unit {0})) : Type 0 where
  pub nodes : IsSound (shape_of ms) (AreBelow (length ms)) IsBeside es (shapes_of ms es)
  pub joins : AreJoins ls ms js
  pub lists : IsInjective ls
  pub maps : IsInjective ms
