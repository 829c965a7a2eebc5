use Rattle.ot_logic.specs.Naming.{numbers}
use Rattle.ot_interp.specs.Interpretation.{renamed}
use Rattle.ot_interp.proofs.Building.{next_is_new}
use Rattle.ot_interp.proofs.pairs.images.Goals as goal

pub add-requires : goal.add-requires
add-requires c = next_is_new (λ p. renamed numbers c.args.outer.now.entries p.1) c.loop-from.both.entries
    c.args.inner.now.entries c.loop-from.from-iterator c.next.new.self (c.in-Some.from.now, c.in-Some.to.now)
    c.in-Some.ensures.steps c.loop-from.invariant.pairs c.loop-from.invariant.distinct
