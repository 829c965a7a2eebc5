-- What a node is of; and nodes whose parts have lower numbers.
use Rattle.std.specs.Prelude.{ℕ, ◌<◌, Bool, true, false}
use Rattle.std.specs.List.{All}
use Rattle.ot_log_nodes.specs.declared.node.TypeNode.{TypeNode}
use Rattle.ot_log_nodes.specs.declared.node.TypeNode.TheVariants as ty
use Rattle.ot_log_nodes.specs.declared.node.TermNode.{TermNode}
use Rattle.ot_log_nodes.specs.declared.node.TermNode.TheVariants as tm
use Rattle.ot_log_nodes.specs.declared.node.Node.{Node}
use Rattle.ot_log_nodes.specs.declared.node.Node.TheVariants as node

abbrev pub AreTypesBelow : ℕ → TypeNode → Type 0
AreTypesBelow k (ty.Var n) = n < k
AreTypesBelow k (ty.Op n args) = (n < k) × All (λ i. i < k) args.items

abbrev pub AreTermsBelow : ℕ → TermNode → Type 0
AreTermsBelow k (tm.Free v) = (v.name < k) × (v.ty < k)
AreTermsBelow k (tm.Const n t) = (n < k) × (t < k)
AreTermsBelow k (tm.Bound j) = Unit {0}
AreTermsBelow k (tm.App f x) = (f < k) × (x < k)
AreTermsBelow k (tm.Abs t b) = (t < k) × (b < k)

abbrev pub AreBelow : ℕ → Node → Type 0
AreBelow k (node.Name n) = Unit {0}
AreBelow k (node.Ty n) = AreTypesBelow k n
AreBelow k (node.Tm n) = AreTermsBelow k n

-- whether a node is that of a name, a type, a term
abbrev pub is_name_node : Node → Bool
is_name_node (node.Name n) = true
is_name_node _ = false

abbrev pub is_type_node : Node → Bool
is_type_node (node.Ty n) = true
is_type_node _ = false

abbrev pub is_term_node : Node → Bool
is_term_node (node.Tm n) = true
is_term_node _ = false
