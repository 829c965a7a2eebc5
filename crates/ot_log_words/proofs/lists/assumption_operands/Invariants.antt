use Rattle.std.proofs.Common.{◌≡◌, [], ◌∷◌, ◌++◌, length, map, take}
use Rattle.ot_log_page.specs.declared.operand.Operand.TheVariants as operand
use Rattle.ot_log_words.proofs.lists.assumption_operands.Given as goal

abbrev pub invariant-loop-hyp : goal.invariant-loop-hyp
invariant-loop-hyp l = l.operands.items ≡ (operand.Term l.fn.concl ∷ operand.Count (length l.hyps) ∷ [])
    ++ map operand.Term (take l.hyp-index l.hyps)
