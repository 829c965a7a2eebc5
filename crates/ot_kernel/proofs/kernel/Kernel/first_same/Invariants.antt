use Rattle.std.proofs.Common.{◌≡◌, drop, map}
use Rattle.std.specs.Prelude.{find}
use Rattle.ot_logic.specs.Hol.{same_sequent}
use Rattle.ot_logic.specs.Naming.{names}
use Rattle.ot_kernel.specs.State.{theorem_at}
use Rattle.ot_kernel.specs.Spelled.{sequent_of}
use Rattle.ot_kernel.proofs.kernel.Kernel.first_same.Given as goal

abbrev pub invariant-loop-id : goal.invariant-loop-id
invariant-loop-id l =
    find (λ r. same_sequent names r (sequent_of l.self.terms l.theorem)) (map (theorem_at l.self) l.among)
    ≡ find (λ r. same_sequent names r (sequent_of l.self.terms l.theorem))
    (map (theorem_at l.self) (drop l.id-index l.among))
