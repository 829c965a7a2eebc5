use Rattle.std.proofs.Common.{subst}
use Rattle.std.proofs.lemmas.List.{take_all}
use Rattle.ot_logic.specs.Lists.{IsMember}
use Rattle.ot_leads.specs.Meeting.{Meets}
use Rattle.ot_leads.proofs.MeetLemmas.{meets-first, meets-more}
use Rattle.ot_leads.proofs.meeting.Walk.meet_all.Goals as goal

pub loop-id-init : goal.loop-id-init
loop-id-init c = meets-first c.args.ids.now c.args.self.now.met.items c.args.self.now.pending.items

pub loop-id-preserved : goal.loop-id-preserved
loop-id-preserved c = meets-more c.args.ids.now c.loop-id.id-index c.id-item.result _ _ _ _ _ _ c.loop-id-test.true
    c.id-item.is c.loop-id.invariant c.in_ok-meet.ensures

pub returns : goal.returns
returns c =
    subst (λ ids. Meets (λ i. IsMember i ids) c.args.self.now.met.items c.args.self.now.pending.items
    c.loop-id.self.met.items c.loop-id.self.pending.items)
    (take_all c.loop-id.id-index c.args.ids.now c.loop-id-test.false) c.loop-id.invariant
