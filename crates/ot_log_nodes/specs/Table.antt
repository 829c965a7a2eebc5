-- The table: each number stands for a name or a tree, by its node.
use Rattle.std.specs.Prelude.{◌≡◌, List}
use Rattle.std.specs.List.{All}
use Rattle.ot_logic.specs.Names.{Name}
use Rattle.ot_logic.specs.Naming.{names}
use Rattle.ot_logic.specs.Trees.{Ty, TyVar, TyOp, Tm, Free, Con, Bound, App, Abs}
use Rattle.ot_logic.specs.Hol.{depth_ty, depth_tm}
use Rattle.ot_logic.specs.Table.{Extends}
use Rattle.ot_logic.specs.Interned.{trees_of, IsSound}
use Rattle.ot_log_format.specs.Walks.{loose, has_free}
use Rattle.ot_log_nodes.specs.Items.{Item, NameItem, TypeItem, TermItem, name_at, type_at}
use Rattle.ot_log_nodes.specs.Items.{types_at, term_at, HasName, HasType, HasTerm, first_items}
use Rattle.ot_log_nodes.specs.Below.{AreBelow}
use Rattle.ot_log_nodes.specs.declared.node.TypeNode.{TypeNode}
use Rattle.ot_log_nodes.specs.declared.node.TypeNode.TheVariants as ty
use Rattle.ot_log_nodes.specs.declared.node.TermNode.{TermNode}
use Rattle.ot_log_nodes.specs.declared.node.TermNode.TheVariants as tm
use Rattle.ot_log_nodes.specs.declared.node.Node.{Node}
use Rattle.ot_log_nodes.specs.declared.node.Node.TheVariants as node
use Rattle.ot_log_nodes.specs.declared.table.NodeInfo.{NodeInfo}

-- the tree of a node
abbrev pub type_tree : List Item → TypeNode → Ty Name
type_tree ts (ty.Var n) = TyVar (name_at ts n)
type_tree ts (ty.Op n args) = TyOp (name_at ts n) (types_at ts args.items)

abbrev pub term_tree : List Item → TermNode → Tm Name
term_tree ts (tm.Free v) = Free (record { name = name_at ts v.name; ty = type_at ts v.ty })
term_tree ts (tm.Const n t) = Con (name_at ts n) (type_at ts t)
term_tree ts (tm.Bound k) = Bound k
term_tree ts (tm.App f x) = App (term_at ts f) (term_at ts x)
term_tree ts (tm.Abs t b) = Abs (type_at ts t) (term_at ts b)

abbrev pub tree_of : List Item → Node → Item
tree_of ts (node.Name n) = NameItem n
tree_of ts (node.Ty n) = TypeItem (type_tree ts n)
tree_of ts (node.Tm n) = TermItem (term_tree ts n)

-- the node's numbers are of names, types and terms
abbrev pub HasTypeParts : List Item → TypeNode → Type 0
HasTypeParts ts (ty.Var n) = HasName ts n
HasTypeParts ts (ty.Op n args) = HasName ts n × All (HasType ts) args.items

abbrev pub HasTermParts : List Item → TermNode → Type 0
HasTermParts ts (tm.Free v) = HasName ts v.name × HasType ts v.ty
HasTermParts ts (tm.Const n t) = HasName ts n × HasType ts t
HasTermParts ts (tm.Bound k) = Unit {0}
HasTermParts ts (tm.App f x) = HasTerm ts f × HasTerm ts x
HasTermParts ts (tm.Abs t b) = HasType ts t × HasTerm ts b

abbrev pub HasParts : List Item → Node → Type 0
HasParts ts (node.Name n) = Unit {0}
HasParts ts (node.Ty n) = HasTypeParts ts n
HasParts ts (node.Tm n) = HasTermParts ts n

-- what stands beside a term says how deep it is, how many abstractions it needs, and whether a variable is free
pub record IsTermBeside (t : Tm Name) (b : NodeInfo) : Type 0 where
  pub deep : b.depth ≡ depth_tm names t
  pub needs : b.loose ≡ loose t
  pub frees : b.free ≡ has_free t

-- and beside a type how deep it is
abbrev pub IsBeside : Item → NodeInfo → Type 0
IsBeside (NameItem n) b = Unit {0}
IsBeside (TypeItem t) b = b.depth ≡ depth_ty names t
IsBeside (TermItem t) b = IsTermBeside t b

-- what stands beside a node fits it
abbrev pub Fits : List Item → Node → NodeInfo → Type 0
Fits ts n b = HasParts ts n × IsBeside (tree_of ts n) b

-- the items of the entries
abbrev pub items_of : List (Node × NodeInfo) → List Item
items_of es = trees_of tree_of es

-- what the entries keep
pub record IsTable (es : List (Node × NodeInfo)) (ts : List Item) : Type 0 where
  pub nodes : IsSound tree_of AreBelow Fits es ts
  pub first : Extends first_items ts
