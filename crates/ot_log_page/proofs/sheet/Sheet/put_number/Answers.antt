use Rattle.std.proofs.Common.{refl}
use Rattle.ot_log_format.specs.Tokens.{Number}
use Rattle.ot_text.proofs.Putting.{then}
use Rattle.ot_log_page.proofs.Showing.{shows-token}
use Rattle.ot_log_page.proofs.sheet.Sheet.put_number.Goals as goal

pub returns : goal.returns
returns c = record {
  moves = λ ts max x s. shows-token ts max _ _ x (Number c.args.number)
      (then c.put_number.ensures c.put.ensures) refl refl refl s;
}
