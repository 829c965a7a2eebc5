use Rattle.std.proofs.Common.{arith, sym, subst, ◌-◌}
use Rattle.ot_log_nodes.specs.Items.{HasType}
use Rattle.ot_log_order.proofs.Pushing.{nothing, reads, then}
use Rattle.ot_log_order.proofs.Parts.{no-types, spaced-back, all-types}
use Rattle.ot_log_order.proofs.pieces.push_spaced.Goals as goal

pub loop-i-init : goal.loop-i-init
loop-i-init c = λ ts all. reads (no-types ts c.args.types.now _ (omega arith)) (nothing ts c.args.pieces.now.items)

pub loop-i-preserved : goal.loop-i-preserved
loop-i-preserved c = λ ts all.
    let j = c.loop-i.i in
    let i = c.index-types-i.result in
    let has = subst (HasType ts) (sym c.index-types-i.is)
    (all (j - 1) i (omega (arith, c.loop-i-test.true, c.loop-i.auto.i))) in
    reads (spaced-back ts c.args.types.now j i c.loop-i-test.true c.loop-i.auto.i c.index-types-i.is)
    (then (then (c.loop-i.invariant ts all) (c.in_ok-push.ensures ts has)) (c.in_ok-push_bytes.ensures.puts ts))

pub returns : goal.returns
returns c = λ ts all. reads (all-types ts c.args.types.now c.loop-i.i (omega arith)) (c.loop-i.invariant ts all)
