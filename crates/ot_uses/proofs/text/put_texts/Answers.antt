use Rattle.std.proofs.Common.{sym, ◌∙◌}
use Rattle.std.proofs.lemmas.List.{length-map}
use Rattle.ot_text.proofs.Putting.{then, same-text}
use Rattle.ot_uses.proofs.Lines.{counted-pieces}
use Rattle.ot_uses.proofs.text.put_texts.Goals as goal

pub returns : goal.returns
returns c =
    same-text (counted-pieces _ _ _ (c.len.ensures.len ∙ sym (length-map c.args.texts.now.keys (λ t. t.items))))
    (then c.put_count.ensures c.put_indented.ensures)
