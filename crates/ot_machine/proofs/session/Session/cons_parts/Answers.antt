use Rattle.std.proofs.Common.{length, ap, sym, ◌∙◌}
use Rattle.ot_machine.proofs.RenamedLists.{both-of, parts-read, end-read}
use Rattle.ot_machine.proofs.session.Session.cons_parts.Goals as goal

pub returns-then-operands-eq2-clause-some : goal.returns-then-operands-eq2-clause-some
returns-then-operands-eq2-clause-some c =
    let head = c.index-operands-0 in
    let tail = c.index-operands-1 in
    parts-read c.args.self.now.trace c.args.list c.step.result.now c.step.ensures.origin head.result tail.result
    (sym c.cons_operands-operands.ensures
    ∙ both-of c.cons_operands-operands.result.now head.result tail.result c.if-operands-eq2.true head.is tail.is)

pub returns-else-operands-eq2-clause-none : goal.returns-else-operands-eq2-clause-none
returns-else-operands-eq2-clause-none c = end-read c.args.self.now.trace c.args.list c.step.result.now
    c.step.ensures.origin (λ e. c.if-operands-eq2.false (ap length c.cons_operands-operands.ensures ∙ e))
