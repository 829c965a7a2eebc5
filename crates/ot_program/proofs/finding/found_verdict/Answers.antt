use Rattle.std.proofs.Common.{ap}
use Rattle.std.specs.Prelude.{Err}
use Rattle.ot_find.specs.Texts.{find_text}
use Rattle.ot_program.specs.Texts.{large_line}
use Rattle.ot_program.proofs.LimitLemmas.{text_printed, text_too_large}
use Rattle.ot_program.proofs.finding.found_verdict.Goals as goal

pub returns-in-Ok-clause-ends : goal.returns-in-Ok-clause-ends
returns-in-Ok-clause-ends c = λ fs h.
    text_printed (find_text fs) (large_line c.args.path.now) c.args.search.max c.new-text.result.items
    c.accepted.result h.max_is c.new-text.ensures.items c.accepted.ensures.status_is
    (rw c.accepted.ensures.text_is (c.in-Ok.ensures.ok fs h.has))

pub returns-in-Err-TooLarge-clause-ends : goal.returns-in-Err-TooLarge-clause-ends
returns-in-Err-TooLarge-clause-ends c = λ fs h.
    text_too_large (find_text fs) (large_line c.args.path.now) c.args.search.max c.too_large.result h.max_is
    (c.in-Err-TooLarge.ensures.too_large fs h.has (ap Err c.in-Err-TooLarge.field-0-is)) c.too_large.ensures
