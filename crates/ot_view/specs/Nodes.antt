-- What the nodes of a kernel's types and terms stand for.
use Rattle.std.specs.Prelude.{◌<◌, ℕ, length, List}
use Rattle.std.specs.List.{All}
use Rattle.ot_logic.specs.Names.{Name}
use Rattle.ot_logic.specs.Trees.{Ty, TyVar, TyOp, Named, NVar, NConst, NApp, NAbs}
use Rattle.ot_type.specs.declared.node.TypeNode.{TypeNode}
use Rattle.ot_type.specs.declared.node.TypeNode.TheVariants as types
use Rattle.ot_term.specs.declared.term.VarKey.{VarKey}
use Rattle.ot_term.specs.declared.term.TermNode.{TermNode}
use Rattle.ot_term.specs.declared.term.TermNode.TheVariants as terms
use Rattle.ot_kernel.specs.State.{State, name_at, type_at, types_at, variable_at, named_at}

-- the type of a node
abbrev pub type_tree : State → TypeNode → Ty Name
type_tree s (types.Var n) = TyVar (name_at s n)
type_tree s (types.Op n args) = TyOp (name_at s n) (types_at s args.items)

-- the node's name is of the state, and its arguments are below
abbrev pub IsTypeNode : State → ℕ → TypeNode → Type 0
IsTypeNode s id (types.Var n) = n < length s.names
IsTypeNode s id (types.Op n args) = (n < length s.names) × All (λ i. i < id) args.items

-- the name and the type are of the state
abbrev pub IsKey : State → VarKey → Type 0
IsKey s v = (v.name < length s.names) × (v.ty < length s.types)

-- that holds of each
abbrev pub AreKeysIn : State → List VarKey → Type 0
AreKeysIn s vs = All (IsKey s) vs

-- the term of a node
abbrev pub term_tree : State → TermNode → Named Name
term_tree s (terms.Var v) = NVar (variable_at s v)
term_tree s (terms.Const n t) = NConst (name_at s n) (type_at s t)
term_tree s (terms.App f x) = NApp (named_at s.terms f) (named_at s.terms x)
term_tree s (terms.Abs v b) = NAbs (variable_at s v) (named_at s.terms b)

-- the node's names and types are of the state, and its terms are below
abbrev pub IsTermNode : State → ℕ → TermNode → Type 0
IsTermNode s id (terms.Var v) = IsKey s v
IsTermNode s id (terms.Const n t) = (n < length s.names) × (t < length s.types)
IsTermNode s id (terms.App f x) = (f < id) × (x < id)
IsTermNode s id (terms.Abs v b) = IsKey s v × (b < id)

-- the term is no application
abbrev pub IsNoApplication : Named Name → Type 0
IsNoApplication (NApp f x) = ⊥
IsNoApplication t = Unit {0}

-- the term is no abstraction
abbrev pub IsNoAbstraction : Named Name → Type 0
IsNoAbstraction (NAbs v b) = ⊥
IsNoAbstraction t = Unit {0}
