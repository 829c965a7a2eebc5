use Rattle.std.specs.Prelude.{true, nat_le, IfOk, OnOk}
use Rattle.std.proofs.Common.{◌≡◌, ◌∙◌, ap, subst, List, length, map, Err}
use Rattle.ot_logic.specs.Names.{Name}
use Rattle.ot_logic.specs.Limits.{summary_limit}
use Rattle.ot_program.specs.ShowReadable.{readable, AreReadBack}
use Rattle.ot_program.specs.Endings.{noted_from}
use Rattle.ot_program.specs.Texts.{large_line}
use Rattle.ot_program.specs.Verdicts.{IsPrinted}
use Rattle.ot_program.proofs.RunLemmas.{exported_within}
use Rattle.ot_program.proofs.NotedLemmas.{read_back, printed, refused, unpromised}
use Rattle.ot_program.proofs.readable.summary.Goals as goal

pub readable_summary-requires : goal.readable_summary-requires
readable_summary-requires c =
    let are : c.deref-3.result.now ≡ map (λ e. e.th) c.args.run.now.exports.items =
    c.deref-3.ensures.value ∙ c.in_ok-theorems.ensures ∙ ap (map (λ e. e.th)) c.deref.ensures.value in
    rw c.kernel.ensures (exported_within c.args.session.now
    c.args.run.now.exports.items c.deref-3.result.now are c.requires.exports)

pub returns-in-Ok-clause-ends : goal.returns-in-Ok-clause-ends
returns-in-Ok-clause-ends c =
    let are : c.deref-3.result.now ≡ map (λ e. e.th) c.args.run.now.exports.items =
    c.deref-3.ensures.value ∙ c.in_ok-theorems.ensures ∙ ap (map (λ e. e.th)) c.deref.ensures.value in
    let limit : c.standard-limit.result.summary_bytes ≡ summary_limit =
    ap (λ l. l.summary_bytes) c.standard-limit.ensures in
    subst (λ (ns : List Name). IsPrinted summary_limit
    (readable (noted_from ns c.args.session.now c.args.run.now.exports.items)) (large_line c.args.path.now)
    c.accepted.result)
    c.deref-2.ensures.value
    (printed c.deref-2.result.now c.args.session.now c.kernel.result.now
    c.args.run.now.exports.items c.deref-3.result.now c.requires.session c.kernel.ensures are
    c.args.path.now c.standard-limit.result.summary_bytes c.new-text.result.items
    c.accepted.result limit c.new-text.ensures.items c.accepted.ensures.status_is
    (rw c.accepted.ensures.text_is c.in-Ok.ensures.ok))

pub returns-in-Ok-clause-read_back : goal.returns-in-Ok-clause-read_back
returns-in-Ok-clause-read_back c =
    let are : c.deref-3.result.now ≡ map (λ e. e.th) c.args.run.now.exports.items =
    c.deref-3.ensures.value ∙ c.in_ok-theorems.ensures ∙ ap (map (λ e. e.th)) c.deref.ensures.value in
    λ fit. subst (λ (ns : List Name). AreReadBack (noted_from ns c.args.session.now c.args.run.now.exports.items))
    c.deref-2.ensures.value
    (read_back c.deref-2.result.now c.args.session.now c.kernel.result.now c.args.run.now.exports.items
    c.deref-3.result.now c.requires.session c.kernel.ensures are c.in-Ok.ensures.reads_back)

pub returns-in-Err-TooLarge-clause-ends : goal.returns-in-Err-TooLarge-clause-ends
returns-in-Err-TooLarge-clause-ends c =
    let are : c.deref-3.result.now ≡ map (λ e. e.th) c.args.run.now.exports.items =
    c.deref-3.ensures.value ∙ c.in_ok-theorems.ensures ∙ ap (map (λ e. e.th)) c.deref.ensures.value in
    let limit : c.standard-limit.result.summary_bytes ≡ summary_limit =
    ap (λ l. l.summary_bytes) c.standard-limit.ensures in
    subst (λ (ns : List Name). IfOk c.too_large.result (IsPrinted summary_limit
    (readable (noted_from ns c.args.session.now c.args.run.now.exports.items)) (large_line c.args.path.now)))
    c.deref-2.ensures.value
    (refused c.deref-2.result.now c.args.session.now c.kernel.result.now
    c.args.run.now.exports.items c.deref-3.result.now c.requires.session c.kernel.ensures are
    c.args.path.now c.standard-limit.result.summary_bytes c.too_large.result limit
    (c.in-Err-TooLarge.ensures.too_large (ap Err c.in-Err-TooLarge.field-0-is)) c.too_large.ensures)

pub returns-in-Err-TooLarge-clause-read_back : goal.returns-in-Err-TooLarge-clause-read_back
returns-in-Err-TooLarge-clause-read_back c =
    let are : c.deref-3.result.now ≡ map (λ e. e.th) c.args.run.now.exports.items =
    c.deref-3.ensures.value ∙ c.in_ok-theorems.ensures ∙ ap (map (λ e. e.th)) c.deref.ensures.value in
    let limit : c.standard-limit.result.summary_bytes ≡ summary_limit =
    ap (λ l. l.summary_bytes) c.standard-limit.ensures in
    let P : List Name → Type 0 =
    λ ns. nat_le (length (readable (noted_from ns c.args.session.now c.args.run.now.exports.items))) summary_limit
    ≡ true
    → AreReadBack (noted_from ns c.args.session.now c.args.run.now.exports.items) in
    subst (λ (ns : List Name). OnOk c.too_large.result (P ns)) c.deref-2.ensures.value
    (unpromised c.deref-2.result.now c.args.session.now c.kernel.result.now
    c.args.run.now.exports.items c.deref-3.result.now c.requires.session c.kernel.ensures are
    c.standard-limit.result.summary_bytes c.too_large.result limit
    (c.in-Err-TooLarge.ensures.too_large (ap Err c.in-Err-TooLarge.field-0-is)))
