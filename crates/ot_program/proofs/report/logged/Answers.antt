use Rattle.std.proofs.Common.{◌≡◌, ap}
use Rattle.ot_logic.specs.Limits.{written_limit}
use Rattle.ot_program.specs.Endings.{ran_from}
use Rattle.ot_program.proofs.LimitLemmas.{log_written}
use Rattle.ot_program.proofs.report.logged.Goals as goal

pub returns-in-Ok-clause-ends : goal.returns-in-Ok-clause-ends
returns-in-Ok-clause-ends c =
    let limit : c.standard-limit.result.written_bytes ≡ written_limit =
    ap (λ l. l.written_bytes) c.standard-limit.ensures in
    log_written c.args.path.now (ran_from c.args.session.now c.args.exports.now) c.standard-limit.result.written_bytes
    c.new-text.result.items _ limit c.new-text.ensures.items c.accepted.ensures.status_is
    (rw c.accepted.ensures.text_is c.in-Ok.ensures.writes)
