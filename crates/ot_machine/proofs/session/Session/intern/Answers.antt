use Rattle.ot_machine.proofs.Stated.{is_run-kept, run-kept}
use Rattle.ot_machine.proofs.session.Session.intern.Goals as goal

pub returns-clause-run : goal.returns-clause-run
returns-clause-run c = run-kept c.args.self.now c.intern.new.self c.requires c.intern.ensures.keeps
    c.intern.ensures.same.basis

pub returns-clause-is_run : goal.returns-clause-is_run
returns-clause-is_run c = is_run-kept c.args.self.now c.intern.new.self c.requires c.intern.ensures.keeps
    c.intern.ensures.same.basis
