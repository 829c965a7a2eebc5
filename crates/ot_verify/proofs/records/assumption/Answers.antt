use Rattle.std.proofs.Common.{refl, sym, subst}
use Rattle.ot_verify.specs.Asking.{IsAt, AreEach}
use Rattle.ot_verify.specs.Logged.{LogView}
use Rattle.ot_verify.proofs.Recording.{answered-then, answered-stop, made-settled}
use Rattle.ot_verify.proofs.records.assumption.Goals as goal

pub returns-clause-recorded : goal.returns-clause-recorded
returns-clause-recorded g c =
    rw c.settle.ensures
    (answered-then refl _ c.in_ok-concl.ensures.answered
    (λ x0 h0. answered-then refl _ c.in_ok-hyps.ensures.answered
    (λ x1 h1. made-settled c.in_ok-hyps.ensures.meets.state c.assumption-made.result (c.assumption-made.ensures x0 x1
    (subst (λ (v : LogView). IsAt v.state.terms c.in_ok-concl.concl x0) (sym (c.in_ok-hyps.ensures.unchanged refl))
    h0)
    (subst (λ is. AreEach (IsAt c.list.new.log.state.terms) is x1) (sym c.as_slice.ensures.value) h1)))))

pub returns-in_err-concl-clause-recorded : goal.returns-in_err-concl-clause-recorded
returns-in_err-concl-clause-recorded g c =
    answered-stop refl _ c.from_residual.result c.from_residual.ensures.1 c.in_err-concl.ensures.answered

pub returns-in_err-hyps-clause-recorded : goal.returns-in_err-hyps-clause-recorded
returns-in_err-hyps-clause-recorded g c =
    answered-then refl _ c.in_ok-concl.ensures.answered
    (λ x0 h0. answered-stop refl _ c.from_residual-in_err-hyps.result c.from_residual-in_err-hyps.ensures.1
    c.in_err-hyps.ensures.answered)
