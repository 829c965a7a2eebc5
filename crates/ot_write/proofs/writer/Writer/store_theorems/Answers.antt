use Rattle.std.proofs.Common.{◌≡◌, ◌-◌, ap, cond, arith}
use Rattle.ot_logic.specs.declared.command.Cmd.TheVariants as words
use Rattle.ot_trace.specs.Origins as o
use Rattle.ot_written.specs.Written as w
use Rattle.ot_trace.specs.Trace.{origin_at}
use Rattle.ot_write.specs.Emitting.{given, keep, used, same}
use Rattle.ot_write.proofs.Moving.{leads-step, leads-end, outcomes-next}
use Rattle.ot_write.proofs.writer.Writer.store_theorems.Goals as goal

pub loop-left-preserved : goal.loop-left-preserved
loop-left-preserved c = record {
  ready = c.in_ok-store_theorem.ensures.ready;
  so_far = λ ns.
      let g = given ns c.args.trace.now c.args.counts.now in
      let d = origin_at c.args.trace.now c.args.id in
      leads-step g c.args.self.now c.loop-left.self c.store_theorem.new.self
      (w.outcomes same (keep g) (used g) d c.loop-left.left)
      (λ t. w.put same (w.Order words.Pop)
      (cond (used g (o.Outcome c.loop-left.left d)) (w.store same (o.Outcome c.loop-left.left d) t) t))
      (w.outcomes same (keep g) (used g) d (c.loop-left.left - 1)) (w.outcomes same (keep g) (used g) d c.args.count)
      (c.loop-left.invariant.so_far ns) (c.in_ok-store_theorem.ensures.moves ns)
      (λ u. outcomes-next g d c.loop-left.left u c.loop-left-test.true);
}

pub returns-clause-moves : goal.returns-clause-moves
returns-clause-moves c =
    let none : c.loop-left.left ≡ 0 = omega (arith, c.loop-left-test.false) in
    λ ns.
    let g = given ns c.args.trace.now c.args.counts.now in
    let d = origin_at c.args.trace.now c.args.id in
    leads-end g c.args.self.now c.loop-left.self (w.outcomes same (keep g) (used g) d c.loop-left.left)
    (w.outcomes same (keep g) (used g) d c.args.count) (c.loop-left.invariant.so_far ns)
    (λ u. ap (λ k. w.outcomes same (keep g) (used g) d k u) none)
