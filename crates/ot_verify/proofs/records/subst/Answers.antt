use Rattle.std.proofs.Common.{◌∙◌, refl, sym, subst}
use Rattle.ot_logic.specs.Names.{Name}
use Rattle.ot_log_format.specs.State.{LogState}
use Rattle.ot_verify.specs.Asking.{IsAt, AreEach}
use Rattle.ot_verify.specs.Logged.{IsTypePair, IsTermPair}
use Rattle.ot_verify.specs.Later.{type_pair-later}
use Rattle.ot_verify.proofs.Collecting.{each-more}
use Rattle.ot_verify.proofs.Recording.{answered-then, answered-stop, made-settled}
use Rattle.ot_verify.proofs.records.subst.Goals as goal

pub returns-clause-recorded : goal.returns-clause-recorded
returns-clause-recorded g c =
    let same_terms = c.in_ok-terms.ensures.meets.state ∙ c.in_ok-types.ensures.meets.state in
    rw c.settle.ensures
    (answered-then refl _ c.in_ok-sequent.ensures.answered
    (λ x0 h0. answered-then refl _ c.in_ok-types.ensures.answered
    (λ x1 h1. answered-then c.in_ok-types.ensures.meets.state _ c.in_ok-terms.ensures.answered
    (λ x2 h2. made-settled same_terms c.subst-made.result (c.subst-made.ensures x0 x1 x2
    (subst (λ (s : LogState Name). IsAt s.sequents c.in_ok-sequent.sequent x0)
    (sym same_terms) h0)
    (subst (λ is. AreEach (IsTypePair c.list-2.new.log) is x1) (sym c.as_slice.ensures.value)
    (each-more (IsTypePair c.list.new.log) (IsTypePair c.list-2.new.log)
    (λ x y. type_pair-later c.list.new.log c.list-2.new.log x y c.in_ok-terms.ensures.meets)
    c.in_ok-types.types.items x1 h1))
    (subst (λ is. AreEach (IsTermPair c.list-2.new.log) is x2) (sym c.as_slice-2.ensures.value) h2))))))

pub returns-in_err-sequent-clause-recorded : goal.returns-in_err-sequent-clause-recorded
returns-in_err-sequent-clause-recorded g c =
    answered-stop refl _ c.from_residual.result c.from_residual.ensures.1 c.in_err-sequent.ensures.answered

pub returns-in_err-types-clause-recorded : goal.returns-in_err-types-clause-recorded
returns-in_err-types-clause-recorded g c =
    answered-then refl _ c.in_ok-sequent.ensures.answered
    (λ x0 h0. answered-stop refl _ c.from_residual-in_err-types.result c.from_residual-in_err-types.ensures.1
    c.in_err-types.ensures.answered)

pub returns-in_err-terms-clause-recorded : goal.returns-in_err-terms-clause-recorded
returns-in_err-terms-clause-recorded g c =
    answered-then refl _ c.in_ok-sequent.ensures.answered
    (λ x0 h0. answered-then refl _ c.in_ok-types.ensures.answered
    (λ x1 h1. answered-stop c.in_ok-types.ensures.meets.state _ c.from_residual-in_err-terms.result
    c.from_residual-in_err-terms.ensures.1 c.in_err-terms.ensures.answered))
