use Rattle.std.proofs.Common.{arith}
use Rattle.ot_log_order.proofs.Pushing.{no-bytes, byte-back, all-bytes, bytes-put, bytes-open}
use Rattle.ot_log_order.proofs.pieces.push_bytes.Goals as goal

pub loop-i-init : goal.loop-i-init
loop-i-init c = λ ts. no-bytes ts c.args.bytes.now _ c.args.pieces.now.items (omega arith)

pub loop-i-preserved : goal.loop-i-preserved
loop-i-preserved c = λ ts.
    byte-back ts c.args.bytes.now c.loop-i.i c.args.pieces.now.items
    c.loop-i.pieces.items c.push.new.self.items c.loop-i-test.true c.loop-i.auto.i
    (c.loop-i.invariant ts) c.in_ok-push.ensures.items

pub returns-clause-puts : goal.returns-clause-puts
returns-clause-puts c = λ ts.
    bytes-put
    (all-bytes ts c.args.bytes.now c.loop-i.i c.args.pieces.now.items c.loop-i.pieces.items (omega arith)
    (c.loop-i.invariant ts))

pub returns-clause-opens : goal.returns-clause-opens
returns-clause-opens c = λ ts h.
    bytes-open h
    (all-bytes ts c.args.bytes.now c.loop-i.i c.args.pieces.now.items c.loop-i.pieces.items (omega arith)
    (c.loop-i.invariant ts))
