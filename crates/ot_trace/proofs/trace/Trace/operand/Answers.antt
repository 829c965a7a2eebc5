use Rattle.std.proofs.Common.{◌∙◌, refl, ap, slice_index_or}
use Rattle.ot_trace.specs.Trace.{operand_numbers}
use Rattle.ot_trace.proofs.OperandLemmas.{operand-is}
use Rattle.ot_trace.proofs.trace.Trace.operand.Goals as goal

pub returns-clause-operand : goal.returns-clause-operand
returns-clause-operand c =
    operand-is c.args.self.now c.args.id c.step.result.now c.step.ensures.origin (operand_numbers c.step.result.now)
    refl c.args.place c.operand_or.result
    (c.operand_or.ensures ∙ ap (λ l. slice_index_or l c.args.place c.args.id) c.operands.ensures)
