use Rattle.std.specs.Prelude.{pos}
use Rattle.std.proofs.lemmas.Option.{get_or_from_slice_get}
use Rattle.ot_trace.specs.Origins.{Number, Make}
use Rattle.ot_trace.specs.Trace.{origins_at}
use Rattle.ot_machine.proofs.Traced.{traces-made, origin-made}
use Rattle.ot_machine.proofs.session.Session.made_of.Goals as goal

pub returns-clause-kept : goal.returns-clause-kept
returns-clause-kept c = traces-made c.args.self.now c.args.word c.args.operands.now c.make.new.self
    c.requires.run c.requires.inside c.in_ok-make.ensures.grown

pub returns-clause-number : goal.returns-clause-number
returns-clause-number c = get_or_from_slice_get c.make.new.self c.in_ok-make.field-0
    (Make c.args.word (origins_at c.args.self.now.trace c.args.operands.now)) (Number (pos 0)) c.in_ok-make.ensures.ok

pub returns-clause-made : goal.returns-clause-made
returns-clause-made c = origin-made c.args.self.now c.args.word c.args.operands.now c.make.new.self
    c.in_ok-make.field-0 c.in_ok-make.ensures.ok
