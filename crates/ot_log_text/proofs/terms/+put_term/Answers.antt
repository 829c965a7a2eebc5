use Rattle.std.proofs.Common.{sym, ap}
use Rattle.ot_log_nodes.specs.Items.{type_at, term_at}
use Rattle.ot_text.specs.Texts.{tm_text}
use Rattle.ot_text.proofs.Putting.{then, same-text}
use Rattle.ot_log_text.proofs.Pieces.{equation-pieces, application-pieces}
use Rattle.ot_log_text.proofs.terms.+put_term.Goals as goal

pub returns-in-Some : goal.returns-in-Some
returns-in-Some t c =
    let ts = c.args.nodes.now in
    let sides = c.in-Some.sides in
    same-text (equation-pieces (term_at ts c.args.id) (term_at ts sides.left) (term_at ts sides.right)
    (type_at ts sides.ty) c.in-Some.ensures.is)
    (then (then (then (then c.put.ensures c.put_term.ensures) c.put-in-Some.ensures) c.put_term-in-Some.ensures)
    c.put-in-Some-2.ensures)

pub returns-in-App : goal.returns-in-App
returns-in-App t c =
    same-text (application-pieces _ _ _ (rw c.in-App.is at c.term_node.ensures.tree) c.in_default.ensures)
    (then (then (then (then c.put-in-App.ensures c.put_term-in-App.ensures) c.put-in-App-2.ensures)
    c.put_term-in-App-2.ensures) c.put-in-App-3.ensures)

pub returns-in-Abs : goal.returns-in-Abs
returns-in-Abs t c =
    same-text (ap tm_text (sym (rw c.in-Abs.is at c.term_node.ensures.tree)))
    (then (then (then (then c.put-in-Abs.ensures c.put_type.ensures) c.put-in-Abs-2.ensures)
    c.put_term-in-Abs.ensures) c.put-in-Abs-3.ensures)
