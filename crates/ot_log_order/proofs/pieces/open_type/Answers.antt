use Rattle.std.specs.List.{All}
use Rattle.std.proofs.Common.{arith, ap, sym, subst}
use Rattle.std.proofs.lemmas.Bool.Decides.{nat_tests}
use Rattle.ot_log_nodes.specs.Items.{HasType, type_at}
use Rattle.ot_log_nodes.specs.Table.{HasTypeParts}
use Rattle.ot_text.specs.Texts.{ty_text}
use Rattle.ot_log_text.proofs.Pieces.{function-pieces}
use Rattle.ot_log_order.proofs.Pushing.{on-ok, opens-as, then, last, puts}
use Rattle.ot_log_order.proofs.Parts.{operator-parts}
use Rattle.ot_log_order.proofs.pieces.open_type.Goals as goal

pub returns-in-Some : goal.returns-in-Some
returns-in-Some c =
    let ts = c.args.nodes.now in
    on-ok c.push_two.result
    (opens-as (function-pieces (type_at ts c.args.id) _ _ c.in-Some.ensures.is))
    (c.push_two.ensures ts c.in-Some.ensures.from c.in-Some.ensures.to (omega arith))

pub returns-in_ok-push_name-in-Var : goal.returns-in_ok-push_name-in-Var
returns-in_ok-push_name-in-Var c =
    on-ok c.push_bytes.result
    (λ p. opens-as (ap ty_text (sym (rw c.in-Var.is at c.type_node.ensures.tree)))
    (last (puts c.in_ok-push_name-in-Var.ensures) p))
    (c.push_bytes.ensures.opens c.args.nodes.now (omega arith))

pub returns-in_ok-push_name-in-Op-2 : goal.returns-in_ok-push_name-in-Op-2
returns-in_ok-push_name-in-Op-2 c =
    let ts = c.args.nodes.now in
    let parts = subst (HasTypeParts ts) c.in-Op-2.is c.type_node.ensures.parts in
    let spaced = rw c.as_slice.ensures at (c.in_ok-push_spaced-in-Op-2.ensures
    ts (subst (All (HasType ts)) (sym c.as_slice.ensures) parts.1)) in
    let text =
    operator-parts ts _ _ c.in-Op-2.args.items (rw c.in-Op-2.is at c.type_node.ensures.tree) c.in_default.ensures
    (grind (arith, nat_tests, c.is_empty.ensures, c.if-is_empty.false)) in
    on-ok c.push_bytes-in-Op-2-2.result
    (λ p. opens-as text (last
    (then (then (c.in_ok-push_bytes-in-Op-2.ensures.puts ts) spaced) (puts c.in_ok-push_name-in-Op-2.ensures)) p))
    (c.push_bytes-in-Op-2-2.ensures.opens ts (omega arith))
