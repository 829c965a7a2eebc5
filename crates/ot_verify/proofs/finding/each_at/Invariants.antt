use Rattle.std.proofs.Common.{take}
use Rattle.ot_verify.specs.Asking.{IsAt, AreEach}
use Rattle.ot_verify.proofs.finding.each_at.Given as goal

abbrev pub invariant-loop-place : goal.invariant-loop-place
invariant-loop-place g l = AreEach (IsAt l.items) (take l.place-index l.places) l.found.items
