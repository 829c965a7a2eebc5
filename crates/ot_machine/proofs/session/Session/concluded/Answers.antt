use Rattle.std.specs.Prelude.{◌<◌, length, Ok}
use Rattle.std.proofs.Common.{rules, ap, sym, ◌∙◌, arith}
use Rattle.ot_kernel.specs.State.{theorem_at}
use Rattle.ot_machine.proofs.Refusals.{refused}
use Rattle.ot_machine.proofs.Staying.{stays-same, traces-stay}
use Rattle.ot_machine.proofs.session.Session.concluded.Goals as goal

pub returns-in_err-th-clause-made : goal.returns-in_err-th-clause-made
returns-in_err-th-clause-made c = λ k stated h.
    refused c.args.self.now.kernel _ _ c.in_err-th.field-0.0 stated (search rules)
    (c.in_err-th.ensures.made k c.args.self.now.kernel stated h)

pub returns-in_err-th-clause-stays : goal.returns-in_err-th-clause-stays
returns-in_err-th-clause-stays c = stays-same c.args.self.now c.requires.run

pub returns-in_err-step-clause-stays : goal.returns-in_err-step-clause-stays
returns-in_err-step-clause-stays c = traces-stay c.in_err-step.ensures.kept

pub returns-clause-made : goal.returns-clause-made
returns-clause-made c = λ k stated h.
    c.in_ok-th.ensures.made k c.args.self.now.kernel stated h
    ∙ ap (λ l. Ok (theorem_at l c.in_ok-th.th)) (sym c.in_ok-step.ensures.kept.kernel)

pub returns-clause-theorem : goal.returns-clause-theorem
returns-clause-theorem c = λ k stated h.
    let inside : c.in_ok-th.th < length c.args.self.now.kernel.theorems =
    c.in_ok-th.ensures.inside k c.args.self.now.kernel stated h in
    omega (arith, inside, (traces-stay c.in_ok-step.ensures.kept).grown.kernel.theorems.longer)

pub returns-clause-stays : goal.returns-clause-stays
returns-clause-stays c = traces-stay c.in_ok-step.ensures.kept
