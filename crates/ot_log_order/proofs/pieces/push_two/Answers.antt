use Rattle.std.specs.Prelude.{codes}
use Rattle.ot_log_order.specs.Pieces.{piece_text}
use Rattle.ot_log_order.proofs.Pushing.{on-ok, opens-as, then, last}
use Rattle.ot_log_order.proofs.Parts.{five}
use Rattle.ot_log_order.proofs.pieces.push_two.Goals as goal

pub returns : goal.returns
returns c = λ ts x y h.
    on-ok c.push_bytes-3.result
    (λ p. opens-as (five c.args.before.now (piece_text ts c.args.first)
    c.args.between.now (piece_text ts c.args.second) (codes ")"))
    (last
    (then (then (then (c.in_ok-push_bytes.ensures.puts ts) (c.in_ok-push.ensures ts y))
    (c.in_ok-push_bytes-2.ensures.puts ts))
    (c.in_ok-push-2.ensures ts x)) p))
    (c.push_bytes-3.ensures.opens ts h)
