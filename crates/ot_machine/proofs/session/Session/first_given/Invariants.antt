use Rattle.std.proofs.Common.{◌≡◌, drop, map}
use Rattle.ot_kernel.specs.State.{term_at}
use Rattle.ot_machine.specs.Contexts.{given_of}
use Rattle.ot_machine.specs.Discharge.{given_for}
use Rattle.ot_machine.proofs.Taken.{stated}
use Rattle.ot_machine.proofs.session.Session.first_given.Given as goal

abbrev pub invariant-loop-given : goal.invariant-loop-given
invariant-loop-given l =
    let q = stated (map (term_at l.self.kernel) l.hyps) (term_at l.self.kernel l.concl) in
    given_for q (map (given_of l.self) l.theorems)
    ≡ given_for q (map (given_of l.self) (drop l.given-index l.theorems))
