use Rattle.ot_machine.proofs.Kept.{traces-grow}
use Rattle.ot_machine.proofs.Traced.{traces-on}
use Rattle.ot_machine.proofs.Canonical.{types-later, terms-later}
use Rattle.ot_machine.proofs.Occurrences.{occurrences-later}
use Rattle.ot_machine.proofs.session.Session.variable_origin.Goals as goal

pub returns-in_ok-variable_step-in-None-clause-known : goal.returns-in_ok-variable_step-in-None-clause-known
returns-in_ok-variable_step-in-None-clause-known c =
    let s = c.args.self.now in
    let t1 = c.type_origin.new.self in
    let t2 = c.variable_step.new.self in
    let one = c.in_ok-ty-in-None.ensures.kept in
    let two = c.in_ok-variable_step-in-None.ensures.kept in
    record {
      types = types-later t1 t2 (traces-grow t1 t2 two) one.is_run c.type_origin.new.known.entries
          c.in_ok-ty-in-None.ensures.known;
      terms = terms-later s t2 (traces-grow s t2 (traces-on s t1 t2 one two)) c.requires.run
          c.args.known.now.terms.entries c.requires.known.terms;
      free = occurrences-later s.kernel t2.kernel (traces-grow s t2 (traces-on s t1 t2 one two)).kernel
          c.args.known.now.free.entries c.requires.known.free;
    }
