use Rattle.std.specs.BTreeSet.{contains}
use Rattle.std.specs.Ordering.{nat_cmp}
use Rattle.ot_kernel.proofs.Keying.{gathered-next}
use Rattle.ot_kernel.proofs.key.key_of.Goals as goal

pub loop-t-preserved : goal.loop-t-preserved
loop-t-preserved c = (
  λ q.
      gathered-next c.args.terms.now.classes c.args.hyps.now c.loop-t.t-index c.t-item.result c.class.result q
      (contains nat_cmp c.loop-t.classes q) (contains nat_cmp c.insert.new.self q) c.loop-t-test.true c.t-item.is
      c.class.ensures.class (c.in_ok-insert.ensures.updates.0 q) (c.loop-t.invariant.0 q),
  c.insert.ensures.ordered,
)
