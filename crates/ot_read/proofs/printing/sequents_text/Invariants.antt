use Rattle.std.proofs.Common.{◌≡◌, ◌≤◌, length}
use Rattle.ot_read.proofs.Filling.{lines_to}
use Rattle.ot_read.proofs.printing.sequents_text.Given as goal

abbrev pub invariant-loop-sequent : goal.invariant-loop-sequent
invariant-loop-sequent l = (l.text.items ≡ lines_to l.sequent-index l.sequents) × (length l.text.items ≤ l.max)
