-- The greatest number that a node refers to, by which the table looks for it.
use Rattle.std.proofs.Common.{◌≡◌, ℕ, max, true, Option, Some, None, ap}
use Rattle.ot_term.specs.NodeHash.{same_node}
use Rattle.ot_term.specs.declared.term.TermNode.{TermNode}
use Rattle.ot_term.specs.declared.term.TermNode.TheVariants.{Var, Const, App, Abs}
use Rattle.ot_term.specs.contracts.term.TermNodePartialEq.TheImpl as derived

-- of the parts of a node
abbrev pub greatest_part : TermNode → Option ℕ
greatest_part (Var v) = None
greatest_part (Const n t) = None
greatest_part (App f x) = Some (max f x)
greatest_part (Abs v b) = Some b

-- nodes that pass the derived test have one
pub greatest_part-alike : (m n : TermNode) → derived.ghosts.eq m n ≡ true → greatest_part m ≡ greatest_part n
greatest_part-alike m n p = ap greatest_part (same_node m n p)
