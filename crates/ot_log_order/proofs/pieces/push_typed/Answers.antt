use Rattle.std.specs.Prelude.{codes}
use Rattle.std.proofs.Common.{sym, append_assoc}
use Rattle.ot_log_nodes.specs.Items.{name_at, type_at}
use Rattle.ot_text.specs.Texts.{name_text, ty_text}
use Rattle.ot_log_order.proofs.Pushing.{on-ok, opens-as, then, last}
use Rattle.ot_log_order.proofs.pieces.push_typed.Goals as goal

pub returns : goal.returns
returns c =
    let ts = c.args.nodes.now in
    on-ok c.push_name.result
    (λ p. opens-as
    (sym (append_assoc (name_text (name_at ts c.args.name)) (codes ":") (ty_text (type_at ts c.args.ty))))
    (last (then (c.in_ok-push.ensures ts c.requires.ty) (c.in_ok-push_bytes.ensures.puts ts)) p))
    c.push_name.ensures
