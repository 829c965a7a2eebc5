use Rattle.std.proofs.Common.{◌≡◌, ap, Err}
use Rattle.ot_logic.specs.Limits.{summary_limit}
use Rattle.ot_verify.specs.Verifying.{proved_text}
use Rattle.ot_program.specs.Texts.{large_line}
use Rattle.ot_program.proofs.LimitLemmas.{text_printed, text_too_large}
use Rattle.ot_program.proofs.log.log_summary.Goals as goal

pub returns-in-Ok : goal.returns-in-Ok
returns-in-Ok c =
    let limit : c.standard-max.result.summary_bytes ≡ summary_limit =
    ap (λ l. l.summary_bytes) c.standard-max.ensures in
    text_printed (proved_text c.args.verified.now) (large_line c.args.path.now) c.standard-max.result.summary_bytes
    c.new-text.result.items _ limit c.new-text.ensures.items c.accepted.ensures.status_is
    (rw c.accepted.ensures.text_is c.in-Ok.ensures.ok)

pub returns-in-Err-TooLarge : goal.returns-in-Err-TooLarge
returns-in-Err-TooLarge c =
    let limit : c.standard-max.result.summary_bytes ≡ summary_limit =
    ap (λ l. l.summary_bytes) c.standard-max.ensures in
    text_too_large (proved_text c.args.verified.now) (large_line c.args.path.now) c.standard-max.result.summary_bytes
    c.too_large.result limit (c.in-Err-TooLarge.ensures.too_large (ap Err c.in-Err-TooLarge.field-0-is))
    c.too_large.ensures
