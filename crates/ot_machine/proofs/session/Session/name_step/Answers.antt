use Rattle.std.specs.Prelude.{pos}
use Rattle.std.proofs.lemmas.Option.{get_or_from_slice_get}
use Rattle.ot_trace.specs.Origins.{Number, Named}
use Rattle.ot_machine.proofs.Traced.{traces-added, origin-added}
use Rattle.ot_machine.proofs.session.Session.name_step.Goals as goal

pub returns-clause-kept : goal.returns-clause-kept
returns-clause-kept c = traces-added c.args.self.now (Named c.args.name) c.add.new.self
    c.requires.run c.requires.inside c.in_ok-add.ensures.grown

pub returns-clause-number : goal.returns-clause-number
returns-clause-number c = get_or_from_slice_get c.add.new.self c.in_ok-add.field-0 (Named c.args.name)
    (Number (pos 0)) c.in_ok-add.ensures.ok

pub returns-clause-made : goal.returns-clause-made
returns-clause-made c = origin-added c.args.self.now (Named c.args.name) c.add.new.self
    c.in_ok-add.field-0 c.in_ok-add.ensures.ok
