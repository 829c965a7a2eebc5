use Rattle.std.proofs.Common.{◌≡◌, drop, map}
use Rattle.ot_kernel.specs.State.{term_at}
use Rattle.ot_machine.specs.Meaning.{run_of, givens_of}
use Rattle.ot_machine.specs.Rows.{given_as}
use Rattle.ot_machine.proofs.Taken.{stated}
use Rattle.ot_machine.proofs.session.Session.assumed.Given as goal

abbrev pub invariant-loop-place : goal.invariant-loop-place
invariant-loop-place l =
    let q = stated (map (term_at l.self.kernel) l.hyps) (term_at l.self.kernel l.concl) in
    given_as q (run_of l.self).assumptions ≡ given_as q
    (givens_of l.self (drop l.place l.self.kernel.assumptions) (drop l.place l.self.assumption_steps.items))
