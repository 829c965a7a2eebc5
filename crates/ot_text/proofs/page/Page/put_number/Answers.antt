use Rattle.std.proofs.Common.{◌∙◌, sym}
use Rattle.ot_text.proofs.Putting.{same-text}
use Rattle.ot_text.proofs.Decimals.{number-decimal}
use Rattle.ot_text.proofs.page.Page.put_number.Goals as goal

pub returns : goal.returns
returns c =
    same-text (c.as_bytes.ensures.value ∙ c.format.ensures.text
    ∙ sym (number-decimal c.args.number c.ranges.number.fits)) c.put.ensures
