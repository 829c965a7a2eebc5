use Rattle.std.proofs.Common.{refl}
use Rattle.ot_log_format.specs.Tokens.{Word, spelling}
use Rattle.ot_text.proofs.Putting.{then, same-text}
use Rattle.ot_log_page.proofs.Showing.{shows-token}
use Rattle.ot_log_page.proofs.sheet.Sheet.put_word.Goals as goal

pub returns : goal.returns
returns c = record {
  moves = λ ts max x s. shows-token ts max _ _ x (Word (spelling c.args.word))
      (then (same-text c.text.ensures c.put.ensures) c.put-2.ensures) refl refl refl s;
}
