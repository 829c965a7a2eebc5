use Rattle.std.proofs.Common.{◌-◌, length}
use Rattle.ot_leads.proofs.TakingLemmas.{IsClosing}
use Rattle.ot_leads.proofs.finding.Leads.close.Given as goal

abbrev pub invariant-loop-next : goal.invariant-loop-next
invariant-loop-next l = IsClosing l.fn.self l.definitions l.fn.root l.self l.found l.next

abbrev pub decreases-loop-next : goal.decreases-loop-next
decreases-loop-next l = length l.definitions - l.next
