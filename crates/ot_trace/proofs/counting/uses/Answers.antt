use Rattle.std.proofs.Common.{◌≡◌, ◌∙◌, ◌≤◌, [], length, sym, subst, arith}
use Rattle.std.proofs.lemmas.List.{take_all}
use Rattle.ot_trace.specs.Tally.{IsTallied}
use Rattle.ot_trace.proofs.TraceLemmas.{IsBelow-mono}
use Rattle.ot_trace.proofs.TallyLemmas.{Tallies, used_so_far, tally-start, tallies-roots}
use Rattle.ot_trace.proofs.TallyLemmas.{tallies-more, counts-end, operands-below}
use Rattle.ot_trace.proofs.counting.uses.Goals as goal

pub loop-index-init : goal.loop-index-init
loop-index-init c =
    let zeros = c.in_ok-counts.ensures.items_if_clones_equal (λ y e. e) in
    let long : length c.in_ok-counts.counts.items ≡ length c.args.trace.now =
    omega (arith, c.in_ok-counts.ensures.len, c.count.ensures.count, c.in_ok-counts.counts.ok.0) in
    tallies-roots c.args.trace.now c.args.roots.now c.tally_all.new.counts.items (c.tally_all.ensures.length ∙ long)
    c.requires.roots
    (c.tally_all.ensures.tally [] (subst (IsTallied []) (sym zeros) (tally-start c.count.result)))

pub tally_where-requires : goal.tally_where-requires
tally_where-requires c =
    let low : c.loop-index.index ≤ length c.loop-index.counts.items =
    omega (arith, c.loop-index-test.true, c.requires.marks, c.loop-index.invariant.length_is) in
    operands-below (length c.loop-index.counts.items) c.step_at.result.now
    (IsBelow-mono c.loop-index.index (length c.loop-index.counts.items) low c.step_at.result.now
    c.step_at.ensures.below)

pub loop-index-preserved : goal.loop-index-preserved
loop-index-preserved c =
    let low : c.loop-index.index ≤ length c.args.trace.now =
    omega (arith, c.loop-index-test.true, c.requires.marks) in
    tallies-more c.args.trace.now c.args.roots.now c.args.marks.now c.loop-index.index c.step_at.result.now
    c.loop-index.counts.items c.tally_where.new.counts.items c.loop-index-test.true c.step_at.ensures.origin
    (IsBelow-mono c.loop-index.index (length c.args.trace.now) low c.step_at.result.now c.step_at.ensures.below)
    c.tally_where.ensures.length c.tally_where.ensures.tally c.loop-index.invariant

pub returns : goal.returns
returns c =
    counts-end c.args.trace.now c.count.ensures.table.injective c.args.roots.now c.args.marks.now
    c.loop-index.counts.items
    (subst (λ marks. Tallies c.args.trace.now (used_so_far c.args.trace.now c.args.roots.now marks)
    c.loop-index.counts.items) (take_all c.loop-index.index c.args.marks.now c.loop-index-test.false)
    c.loop-index.invariant)
