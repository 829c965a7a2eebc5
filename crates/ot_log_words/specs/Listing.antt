-- What a record names, by number.
use Rattle.std.specs.Prelude.{ℕ, List, [], ◌∷◌}
use Rattle.ot_log_nodes.specs.declared.node.VariableNode.{VariableNode}
use Rattle.ot_log_page.specs.declared.operand.Operand.{Operand}
use Rattle.ot_log_page.specs.declared.operand.Operand.TheVariants as operand

-- a name with its type, a variable with its term
abbrev pub type_operands : ℕ × ℕ → List Operand
type_operands p = operand.Name p.0 ∷ operand.Type p.1 ∷ []

abbrev pub term_operands : VariableNode × ℕ → List Operand
term_operands p = operand.Name p.0.name ∷ operand.Type p.0.ty ∷ operand.Term p.1 ∷ []

-- a constant with the variable that it stands for
abbrev pub constant_operands : ℕ × VariableNode → List Operand
constant_operands p = operand.Name p.0 ∷ operand.Name p.1.name ∷ operand.Type p.1.ty ∷ []
