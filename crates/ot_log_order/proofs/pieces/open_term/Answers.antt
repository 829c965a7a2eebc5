use Rattle.std.proofs.Common.{arith, ap, sym}
use Rattle.ot_log_nodes.specs.Items.{type_at, term_at}
use Rattle.ot_text.specs.Texts.{tm_text}
use Rattle.ot_log_text.proofs.Pieces.{equation-pieces}
use Rattle.ot_log_order.proofs.Pushing.{on-ok, opens-as, last, puts}
use Rattle.ot_log_order.proofs.pieces.open_term.Goals as goal

pub returns-in-Some : goal.returns-in-Some
returns-in-Some c =
    let ts = c.args.nodes.now in
    let sides = c.in-Some.sides in
    on-ok c.push_two.result
    (opens-as (equation-pieces (term_at ts c.args.id) (term_at ts sides.left)
    (term_at ts sides.right) (type_at ts sides.ty) c.in-Some.ensures.is))
    (c.push_two.ensures ts c.in-Some.ensures.left c.in-Some.ensures.right (omega arith))

pub returns-in_ok-push_typed-in-Const : goal.returns-in_ok-push_typed-in-Const
returns-in_ok-push_typed-in-Const c =
    on-ok c.push_bytes.result (λ p. opens-as (ap tm_text (sym c.in-Const.ensures.tree))
    (last (puts c.in_ok-push_typed-in-Const.ensures) p))
    (c.push_bytes.ensures.opens c.args.nodes.now (omega arith))

pub returns-in_ok-push_number-in-Bound : goal.returns-in_ok-push_number-in-Bound
returns-in_ok-push_number-in-Bound c =
    let ts = c.args.nodes.now in
    on-ok c.push_bytes-in-Bound.result (λ p. opens-as (ap tm_text (sym c.in-Bound.ensures.tree))
    (last (c.in_ok-push_number-in-Bound.ensures ts) p))
    (c.push_bytes-in-Bound.ensures.opens ts (omega arith))
