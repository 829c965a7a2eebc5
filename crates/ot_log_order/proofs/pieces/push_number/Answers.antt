use Rattle.std.proofs.Common.{◌∙◌, sym}
use Rattle.ot_text.proofs.Decimals.{number-decimal}
use Rattle.ot_log_order.proofs.Pushing.{on-ok, reads}
use Rattle.ot_log_order.proofs.pieces.push_number.Goals as goal

pub returns : goal.returns
returns c = λ ts.
    let text = c.as_bytes.ensures.value ∙ c.format.ensures.text
    ∙ sym (number-decimal c.args.number c.ranges.number.fits) in
    on-ok c.push_bytes.result (reads text) (c.push_bytes.ensures.puts ts)
