use Rattle.std.proofs.Common.{length}
use Rattle.ot_machine.proofs.session.Session.term_entry.Goals as goal

pub returns-clause-inside : goal.returns-clause-inside
returns-clause-inside c =
    c.in_ok-term.ensures.inside (length c.args.machine.now.cells.items) c.in_ok-entry.ensures.inside.object
