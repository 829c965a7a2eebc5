use Rattle.std.proofs.Common.{◌<◌, length, subst, arith, rules}
use Rattle.ot_trace.proofs.TraceLemmas.{IsBelow-mono}
use Rattle.ot_leads.proofs.MeetLemmas.{IsWalk, walk-first, walk-step, walk-less, walk-end, waiting-below}
use Rattle.ot_leads.proofs.MeetLemmas.{empty-from, met-parts}
use Rattle.ot_leads.proofs.meeting.with_parts.Goals as goal
use Rattle.ot_leads.proofs.meeting.with_parts.Goals.{In-Some}

pub loop-id-init : goal.loop-id-init
loop-id-init c = walk-first c.args.trace.now c.args.roots.now c.args.definitions.now _ _ _ _ _ c.count.result _
    (c.in_ok-vec.ensures.items_if_clones_equal (λ y h. search rules)) c.new.ensures.items c.count.ensures.count
    c.in_ok-meet_all.ensures c.in_ok-meet_all-2.ensures

-- the number of a step that waits
inside : (c : In-Some) → c.in-Some.id < length c.args.trace.now
inside c =
    waiting-below c.args.trace.now c.args.roots.now c.args.definitions.now c.loop-id.walk.met.items
    c.pop.new.self.items c.loop-id.walk.pending.items c.in-Some.id c.in-Some.ensures.items c.loop-id.invariant

pub step-requires : goal.step-requires
step-requires c = inside ((goal.at.step-requires c).In-Some)

pub meet_parts-requires : goal.meet_parts-requires
meet_parts-requires c =
    let long = c.loop-id.invariant.length_is in
    let here = inside ((goal.at.meet_parts-requires c).In-Some) in
    IsBelow-mono c.in-Some.id (length c.loop-id.walk.met.items) (omega (arith, long, here)) c.step.result.now
    c.step.ensures.below

pub loop-id-smaller : goal.loop-id-smaller
loop-id-smaller c =
    walk-less c.args.trace.now c.args.roots.now c.args.definitions.now c.loop-id.walk.met.items
    c.pop.new.self.items c.loop-id.walk.pending.items c.in-Some.id c.meet_parts.new.self.met.items
    c.meet_parts.new.self.pending.items c.in-Some.ensures.items
    (met-parts c.args.trace.now c.step.ensures.once c.in-Some.id c.step.result.now
    (inside ((goal.at.loop-id-smaller c).In-Some)) c.step.ensures.origin c.step.ensures.below _ _ _ _
    c.in_ok-meet_parts.ensures)

pub loop-id-preserved : goal.loop-id-preserved
loop-id-preserved c =
    walk-step c.args.trace.now c.args.roots.now c.args.definitions.now c.loop-id.walk.met.items c.pop.new.self.items
    c.in-Some.id c.meet_parts.new.self.met.items c.meet_parts.new.self.pending.items
    (subst (IsWalk c.args.trace.now c.args.roots.now c.args.definitions.now c.loop-id.walk.met.items)
    c.in-Some.ensures.items c.loop-id.invariant)
    (met-parts c.args.trace.now c.step.ensures.once c.in-Some.id c.step.result.now
    (inside ((goal.at.loop-id-preserved c).In-Some)) c.step.ensures.origin c.step.ensures.below _ _ _ _
    c.in_ok-meet_parts.ensures)

pub returns : goal.returns
returns c =
    walk-end c.args.trace.now c.args.roots.now c.args.definitions.now c.loop-id.walk.met.items
    (subst (IsWalk c.args.trace.now c.args.roots.now c.args.definitions.now c.loop-id.walk.met.items)
    (empty-from c.loop-id.walk.pending.items
    (omega (arith, c.in_default.ensures.cases, c.loop-id.walk.pending.ok.0))) c.loop-id.invariant)
