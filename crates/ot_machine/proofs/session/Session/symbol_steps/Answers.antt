use Rattle.std.proofs.Common.{ap, ◌∙◌}
use Rattle.ot_trace.specs.Origins.{make_one}
use Rattle.ot_machine.proofs.Traced.{traces-on, number-later}
use Rattle.ot_machine.proofs.session.Session.symbol_steps.Goals as goal

pub returns-clause-name : goal.returns-clause-name
returns-clause-name c =
    number-later c.name_step.new.self c.made_of.new.self c.in_ok-symbol.ensures.kept
    c.in_ok-operand.operand c.in_ok-operand.ensures.inside ∙ c.in_ok-operand.ensures.number

pub returns-clause-symbol : goal.returns-clause-symbol
returns-clause-symbol c = c.in_ok-symbol.ensures.number ∙ ap (make_one c.args.word) c.in_ok-operand.ensures.number

pub returns-clause-kept : goal.returns-clause-kept
returns-clause-kept c = traces-on c.args.self.now c.name_step.new.self c.made_of.new.self
    c.in_ok-operand.ensures.kept c.in_ok-symbol.ensures.kept
