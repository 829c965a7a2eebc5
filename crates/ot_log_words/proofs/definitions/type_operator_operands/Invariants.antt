use Rattle.std.proofs.Common.{◌≡◌, [], ◌∷◌, ◌++◌, length, map, take}
use Rattle.ot_log_page.specs.declared.operand.Operand.TheVariants as operand
use Rattle.ot_log_words.proofs.definitions.type_operator_operands.Given as goal

abbrev pub invariant-loop-var : goal.invariant-loop-var
invariant-loop-var l = l.operands.items ≡ (operand.Name l.fn.n ∷ operand.Name l.fn.abs ∷ operand.Name l.fn.rep
    ∷ operand.Count (length l.vars) ∷ []) ++ map operand.Name (take l.var-index l.vars)
