use Rattle.std.proofs.Common.{◌≡◌, ◌-◌, ap, refl, arith}
use Rattle.ot_logic.specs.declared.command.Cmd.TheVariants as words
use Rattle.ot_written.specs.Written as w
use Rattle.ot_write.specs.Emitting.{keep, used, same}
use Rattle.ot_write.proofs.Moving.{leads-step, leads-end, shows-put, pops-next}
use Rattle.ot_write.proofs.writer.Writer.pops.Goals as goal

pub loop-left-preserved : goal.loop-left-preserved
loop-left-preserved c = record {
  keys = c.loop-left.invariant.keys;
  stored = c.loop-left.invariant.stored;
  so_far = λ g. leads-step g c.args.self.now c.loop-left.self _ (w.pops same (keep g) (used g) c.loop-left.left)
      (w.put same (w.Order words.Pop)) (w.pops same (keep g) (used g) (c.loop-left.left - 1))
      (w.pops same (keep g) (used g) c.args.count)
      (c.loop-left.invariant.so_far g) (shows-put g c.loop-left.self _ (w.Order words.Pop) c.in_ok-put_word.ensures
      refl) (λ u. pops-next g c.loop-left.left u c.loop-left-test.true);
}

pub returns-clause-moves : goal.returns-clause-moves
returns-clause-moves c =
    let none : c.loop-left.left ≡ 0 = omega (arith, c.loop-left-test.false) in
    λ g. leads-end g c.args.self.now c.loop-left.self (w.pops same (keep g) (used g) c.loop-left.left)
    (w.pops same (keep g) (used g) c.args.count) (c.loop-left.invariant.so_far g)
    (λ u. ap (λ k. w.pops same (keep g) (used g) k u) none)
