use Rattle.std.proofs.Common.{◌+◌, length}
use Rattle.ot_leads.specs.Meeting.{unmet}
use Rattle.ot_leads.proofs.MeetLemmas.{IsWalk}
use Rattle.ot_leads.proofs.meeting.with_parts.Given as goal

abbrev pub invariant-loop-id : goal.invariant-loop-id
invariant-loop-id l = IsWalk l.trace l.roots l.definitions l.walk.met.items l.walk.pending.items

abbrev pub decreases-loop-id : goal.decreases-loop-id
decreases-loop-id l = unmet l.walk.met.items + length l.walk.pending.items
