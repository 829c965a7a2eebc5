-- The table of types: each number stands for a tree.
use Rattle.std.specs.Prelude.{◌≡◌, ◌&&◌, ℕ, ◌<◌, ◌≤◌, Bool, true, false, List}
use Rattle.std.specs.Prelude.{[], ◌∷◌, slice_get, slice_index_or, Some, map}
use Rattle.std.specs.List.{All}
use Rattle.ot_logic.specs.Trees.{Ty, Tys, TyVar, TyOp, NoTys, MoreTys}
use Rattle.ot_logic.specs.Hol.{depth_ty, depth_limit}
use Rattle.ot_logic.specs.Naming.{numbers}
use Rattle.ot_logic.specs.Table.{IsInjective}
use Rattle.ot_logic.specs.Interned.{trees_of, IsSound}
use Rattle.ot_type.specs.declared.table.NodeInfo.{NodeInfo}
use Rattle.ot_type.specs.declared.node.TypeNode.{TypeNode}
use Rattle.ot_type.specs.declared.node.TypeNode.TheVariants.{Var, Op}

-- the tree of a number of the table
abbrev pub type_at : List (Ty ℕ) → ℕ → Ty ℕ
type_at ts i = slice_index_or ts i (TyVar 0)

-- the trees of the numbers, one after another
abbrev pub types_at : List (Ty ℕ) → List ℕ → Tys ℕ
types_at ts [] = NoTys
types_at ts (i ∷ is) = MoreTys (type_at ts i) (types_at ts is)

-- the tree of a node whose numbers are of the table
abbrev pub tree_of : List (Ty ℕ) → TypeNode → Ty ℕ
tree_of ts (Var n) = TyVar n
tree_of ts (Op n args) = TyOp n (types_at ts args.items)

-- the names of a substitution, each with the tree of its number
abbrev pub images : List (Ty ℕ) → List (ℕ × ℕ) → List (ℕ × Ty ℕ)
images ts s = map (λ p. (p.0, type_at ts p.1)) s

-- the node's numbers are below
abbrev pub ArgsBelow : ℕ → TypeNode → Type 0
ArgsBelow k (Var n) = Unit {0}
ArgsBelow k (Op n args) = All (λ i. i < k) args.items

-- what holds of the trees of each table
pub record IsTypeTable (ts : List (Ty ℕ)) : Type 0 where
  pub injective : IsInjective ts
  pub shallow : (i : ℕ) (t : Ty ℕ) → slice_get ts i ≡ Some t → depth_ty numbers t ≤ depth_limit

-- no type variable stands in the type
abbrev mutual
  pub is_ground : Ty ℕ → Bool
  is_ground (TyVar n) = false
  is_ground (TyOp n ts) = are_ground ts

  pub are_ground : Tys ℕ → Bool
  are_ground NoTys = true
  are_ground (MoreTys t ts) = is_ground t && are_ground ts

-- what stands beside a node is of its tree
pub record Describes (t : Ty ℕ) (b : NodeInfo) : Type 0 where
  pub depth : b.depth ≡ depth_ty numbers t
  pub shallow : b.depth ≤ depth_limit
  pub ground : b.ground ≡ is_ground t

abbrev pub IsBeside : List (Ty ℕ) → TypeNode → NodeInfo → Type 0
IsBeside ts n b = Describes (tree_of ts n) b

-- the trees of the entries
abbrev pub type_trees : List (TypeNode × NodeInfo) → List (Ty ℕ)
type_trees es = trees_of tree_of es

-- what the fields keep, with what callers may know of the trees
pub record IsTypeSound (es : List (TypeNode × NodeInfo)) (ts : List (Ty ℕ)) : Type 0 where
  pub nodes : IsSound tree_of ArgsBelow IsBeside es ts
  pub table : IsTypeTable ts
