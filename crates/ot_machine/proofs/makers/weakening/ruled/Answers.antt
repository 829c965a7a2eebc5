use Rattle.std.specs.Prelude.{Err}
use Rattle.std.proofs.Common.{subst}
use Rattle.ot_kernel.specs.Answers.{Concludes}
use Rattle.ot_machine.proofs.Refusals.{refuses-rule}
use Rattle.ot_machine.proofs.RuleRows.{concluded}
use Rattle.ot_machine.proofs.makers.weakening.ruled.Goals as goal

pub returns-in-Err-clause-made : goal.returns-in-Err-clause-made
returns-in-Err-clause-made c = λ k l stated h.
    let x : Concludes (Err c.in-Err.fault) stated k l = subst (λ r. Concludes r stated k l) c.in-Err.is h in
    rw c.from.ensures (refuses-rule l c.in-Err.fault stated x.1)

pub returns-in-Ok-clause-made : goal.returns-in-Ok-clause-made
returns-in-Ok-clause-made c =
    λ k l stated h. (concluded c.in-Ok.theorem stated k l (subst (λ r. Concludes r stated k l) c.in-Ok.is h)).0

pub returns-in-Ok-clause-inside : goal.returns-in-Ok-clause-inside
returns-in-Ok-clause-inside c =
    λ k l stated h. (concluded c.in-Ok.theorem stated k l (subst (λ r. Concludes r stated k l) c.in-Ok.is h)).1
