use Rattle.std.proofs.Common.{refl, sym, subst}
use Rattle.ot_verify.specs.Asking.{AreEach}
use Rattle.ot_verify.specs.Logged.{IsConstantPair}
use Rattle.ot_verify.proofs.Recording.{answered-then, answered-stop, made-settled}
use Rattle.ot_verify.proofs.records.constants.Goals as goal

pub returns-clause-recorded : goal.returns-clause-recorded
returns-clause-recorded g c =
    rw c.settle.ensures
    (answered-then refl _ c.in_ok-pairs.ensures.answered
    (λ x0 h0. answered-then c.in_ok-pairs.ensures.meets.state _ c.in_ok-premise.ensures.answered
    (λ x1 h1. made-settled c.in_ok-pairs.ensures.meets.state c.define_constants-made.result
    (c.define_constants-made.ensures x0 x1
    (subst (λ is. AreEach (IsConstantPair c.list.new.log) is x0) (sym c.as_slice.ensures.value) h0) h1))))

pub returns-in_err-pairs-clause-recorded : goal.returns-in_err-pairs-clause-recorded
returns-in_err-pairs-clause-recorded g c =
    answered-stop refl _ c.from_residual.result c.from_residual.ensures.1 c.in_err-pairs.ensures.answered

pub returns-in_err-premise-clause-recorded : goal.returns-in_err-premise-clause-recorded
returns-in_err-premise-clause-recorded g c =
    answered-then refl _ c.in_ok-pairs.ensures.answered
    (λ x0 h0. answered-stop c.in_ok-pairs.ensures.meets.state _ c.from_residual-in_err-premise.result
    c.from_residual-in_err-premise.ensures.1 c.in_err-premise.ensures.answered)
