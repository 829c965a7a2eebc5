use Rattle.std.proofs.Common.{take}
use Rattle.ot_logic.specs.Lists.{IsMember}
use Rattle.ot_leads.specs.Meeting.{Meets}
use Rattle.ot_leads.proofs.meeting.Walk.meet_all.Given as goal

abbrev pub invariant-loop-id : goal.invariant-loop-id
invariant-loop-id l = Meets (λ i. IsMember i (take l.id-index l.ids)) l.initial.self.met.items
    l.initial.self.pending.items l.self.met.items l.self.pending.items
