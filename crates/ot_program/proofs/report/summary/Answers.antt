use Rattle.std.proofs.Common.{◌≡◌, ◌∙◌, ap, map, Err}
use Rattle.ot_logic.specs.Limits.{summary_limit}
use Rattle.ot_program.proofs.RunLemmas.{exported_within, summary_printed, summary_too_large}
use Rattle.ot_program.proofs.report.summary.Goals as goal

pub summary_text-requires : goal.summary_text-requires
summary_text-requires c =
    let are : c.deref.result.now ≡ map (λ e. e.th) c.args.exports.now = c.deref.ensures.value
    ∙ c.in_ok-theorems.ensures in
    rw c.kernel.ensures
    (exported_within c.args.session.now c.args.exports.now c.deref.result.now are c.requires.exports)

pub returns-in-Ok : goal.returns-in-Ok
returns-in-Ok c =
    let are : c.deref.result.now ≡ map (λ e. e.th) c.args.exports.now = c.deref.ensures.value
    ∙ c.in_ok-theorems.ensures in
    let limit : c.standard-limit.result.summary_bytes ≡ summary_limit =
    ap (λ l. l.summary_bytes) c.standard-limit.ensures in
    summary_printed c.args.path.now c.args.sections c.args.session.now c.kernel.result.now
    c.args.exports.now c.deref.result.now c.standard-limit.result.summary_bytes c.new-text.result.items _
    c.requires.session c.kernel.ensures are limit c.new-text.ensures.items c.accepted.ensures.status_is
    (rw c.accepted.ensures.text_is c.in-Ok.ensures.ok)

pub returns-in-Err-TooLarge : goal.returns-in-Err-TooLarge
returns-in-Err-TooLarge c =
    let are : c.deref.result.now ≡ map (λ e. e.th) c.args.exports.now = c.deref.ensures.value
    ∙ c.in_ok-theorems.ensures in
    let limit : c.standard-limit.result.summary_bytes ≡ summary_limit =
    ap (λ l. l.summary_bytes) c.standard-limit.ensures in
    summary_too_large c.args.path.now c.args.sections c.args.session.now c.kernel.result.now c.args.exports.now
    c.deref.result.now c.standard-limit.result.summary_bytes c.too_large.result c.requires.session c.kernel.ensures
    are limit (c.in-Err-TooLarge.ensures.too_large (ap Err c.in-Err-TooLarge.field-0-is)) c.too_large.ensures
