use Rattle.std.proofs.Common.{◌≡◌, map, take}
use Rattle.ot_machine.proofs.session.Session.candidates_of.Given as goal

abbrev pub invariant-loop-given : goal.invariant-loop-given
invariant-loop-given l = l.candidates.items ≡ map (λ g. g.th) (take l.given-index l.theorems)
