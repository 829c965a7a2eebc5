use Rattle.std.proofs.Common.{◌≡◌, ap}
use Rattle.ot_logic.specs.Limits.{summary_limit}
use Rattle.ot_program.specs.RunInput.{uses}
use Rattle.ot_program.specs.Texts.{large_line}
use Rattle.ot_program.specs.Endings.{ran_from}
use Rattle.ot_program.proofs.LimitLemmas.{text_printed}
use Rattle.ot_program.proofs.RunLemmas.{are_supported}
use Rattle.ot_program.proofs.report.uses.Goals as goal

pub returns-in-Ok-clause-ends : goal.returns-in-Ok-clause-ends
returns-in-Ok-clause-ends c =
    let limit : c.standard-limit.result.summary_bytes ≡ summary_limit =
    ap (λ l. l.summary_bytes) c.standard-limit.ensures in
    text_printed (uses (ran_from c.args.session.now c.args.exports.now)) (large_line c.args.path.now)
    c.standard-limit.result.summary_bytes c.new-text.result.items _ limit c.new-text.ensures.items
    c.accepted.ensures.status_is
    (rw c.accepted.ensures.text_is c.in-Ok.ensures.ok)

pub returns-in-Ok-clause-supported : goal.returns-in-Ok-clause-supported
returns-in-Ok-clause-supported c =
    are_supported c.args.session.now c.args.exports.now c.uses_law.ensures.written c.requires.lawful

pub returns-in-Err-TooLarge-clause-supported : goal.returns-in-Err-TooLarge-clause-supported
returns-in-Err-TooLarge-clause-supported c =
    are_supported c.args.session.now c.args.exports.now c.uses_law.ensures.written c.requires.lawful
