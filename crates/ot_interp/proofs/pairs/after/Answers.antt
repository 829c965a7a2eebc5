use Rattle.std.proofs.Common.{nat_eq, sym, subst, ◌∙◌}
use Rattle.std.specs.List.{IsDistinct}
use Rattle.std.specs.Map.{keys_of}
use Rattle.ot_logic.specs.Naming.{numbers}
use Rattle.ot_interp.specs.Interpretation.{renamed, after_pairs}
use Rattle.ot_interp.proofs.Building.{at_start, still_distinct, passed, put_in}
use Rattle.ot_interp.proofs.pairs.after.Goals as goal

pub loop-from-init : goal.loop-from-init
loop-from-init c =
    let all = c.into_iter-from-iterator.ensures.into_iter_gives in
    record {
      pairs = at_start (λ p. renamed numbers c.args.outer.now.entries p.1) c.args.inner.now.entries
          c.args.outer.now.entries c.in_ok-both.both.entries c.into_iter-from-iterator.result c.in_ok-both.ensures
          all.0;
      distinct = subst (λ ps. IsDistinct nat_eq (keys_of ps)) (sym all.0) all.4;
    }

pub loop-from-preserved-in-Continue-branch-2 : goal.loop-from-preserved-in-Continue-branch-2
loop-from-preserved-in-Continue-branch-2 c =
    let target = after_pairs numbers c.args.inner.now.entries c.args.outer.now.entries in
    record {
      pairs = put_in c.loop-from.both.entries target c.loop-from.from-iterator c.next.new.self
          (c.in-Some.from.now, c.in-Some.to.now) c.in-Some.ensures.steps c.loop-from.invariant.pairs
          c.loop-from.invariant.distinct (sym c.contains_key.ensures ∙ c.if-not-contains_key.true)
          c.add.new.pairs.entries c.in_ok-add.ensures.ok;
      distinct = still_distinct c.loop-from.both.entries target c.loop-from.from-iterator c.next.new.self
          (c.in-Some.from.now, c.in-Some.to.now) c.in-Some.ensures.steps c.loop-from.invariant.pairs
          c.loop-from.invariant.distinct;
    }

pub loop-from-preserved : goal.loop-from-preserved
loop-from-preserved c =
    let target = after_pairs numbers c.args.inner.now.entries c.args.outer.now.entries in
    record {
      pairs = passed c.loop-from.both.entries target c.loop-from.from-iterator c.next.new.self
          (c.in-Some.from.now, c.in-Some.to.now) c.in-Some.ensures.steps c.loop-from.invariant.pairs
          c.loop-from.invariant.distinct (sym c.contains_key.ensures ∙ c.if-not-contains_key.false);
      distinct = still_distinct c.loop-from.both.entries target c.loop-from.from-iterator c.next.new.self
          (c.in-Some.from.now, c.in-Some.to.now) c.in-Some.ensures.steps c.loop-from.invariant.pairs
          c.loop-from.invariant.distinct;
    }
