use Rattle.ot_program.proofs.RunLemmas.{is_proved}
use Rattle.ot_program.proofs.report.proved.Goals as goal

pub returns-clause-proved : goal.returns-clause-proved
returns-clause-proved c =
    is_proved c.args.session.now c.args.exports.now c.requires.session (rw c.kernel.ensures at c.sound.ensures)
    c.requires.exports
