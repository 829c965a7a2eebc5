use Rattle.std.proofs.Common.{◌∙◌, refl, sym, subst}
use Rattle.ot_verify.specs.Asking.{AreEach}
use Rattle.ot_verify.specs.Logged.{IsNamed}
use Rattle.ot_verify.specs.Later.{named-later}
use Rattle.ot_verify.proofs.Meeting.{meets-then}
use Rattle.ot_verify.proofs.Recording.{answered-then, answered-stop, made-settled}
use Rattle.ot_verify.proofs.records.type_operator.Goals as goal

pub returns-clause-recorded : goal.returns-clause-recorded
returns-clause-recorded g c =
    let same_abs = c.in_ok-abs.ensures.meets.state ∙ c.in_ok-name.ensures.meets.state in
    let same_rep = c.in_ok-rep.ensures.meets.state ∙ same_abs in
    let same_vars = c.in_ok-vars.ensures.meets.state ∙ same_rep in
    rw c.settle.ensures
    (answered-then refl _ c.in_ok-name.ensures.answered
    (λ x0 h0. answered-then c.in_ok-name.ensures.meets.state _ c.in_ok-abs.ensures.answered
    (λ x1 h1. answered-then same_abs _ c.in_ok-rep.ensures.answered
    (λ x2 h2. answered-then same_rep _ c.in_ok-vars.ensures.answered
    (λ x3 h3. answered-then same_vars _ c.in_ok-premise.ensures.answered
    (λ x4 h4. made-settled same_vars c.define_type-made.result (c.define_type-made.ensures x0 x1 x2 x3 x4
    (named-later c.name_number.new.log c.list.new.log c.in_ok-name.name x0
    (meets-then c.name_number.new.log c.name_number-3.new.log c.list.new.log
    (meets-then c.name_number.new.log c.name_number-2.new.log
    c.name_number-3.new.log c.in_ok-abs.ensures.meets c.in_ok-rep.ensures.meets)
    c.in_ok-vars.ensures.meets)
    h0)
    (named-later c.name_number-2.new.log c.list.new.log c.in_ok-abs.abs x1
    (meets-then c.name_number-2.new.log c.name_number-3.new.log
    c.list.new.log c.in_ok-rep.ensures.meets c.in_ok-vars.ensures.meets)
    h1)
    (named-later c.name_number-3.new.log c.list.new.log c.in_ok-rep.rep x2 c.in_ok-vars.ensures.meets h2)
    (subst (λ is. AreEach (IsNamed c.list.new.log) is x3) (sym c.as_slice.ensures.value) h3) h4)))))))

pub returns-in_err-name-clause-recorded : goal.returns-in_err-name-clause-recorded
returns-in_err-name-clause-recorded g c =
    answered-stop refl _ c.from_residual.result c.from_residual.ensures.1 c.in_err-name.ensures.answered

pub returns-in_err-abs-clause-recorded : goal.returns-in_err-abs-clause-recorded
returns-in_err-abs-clause-recorded g c =
    answered-then refl _ c.in_ok-name.ensures.answered
    (λ x0 h0. answered-stop c.in_ok-name.ensures.meets.state _ c.from_residual-in_err-abs.result
    c.from_residual-in_err-abs.ensures.1 c.in_err-abs.ensures.answered)

pub returns-in_err-rep-clause-recorded : goal.returns-in_err-rep-clause-recorded
returns-in_err-rep-clause-recorded g c =
    let same_abs = c.in_ok-abs.ensures.meets.state ∙ c.in_ok-name.ensures.meets.state in
    answered-then refl _ c.in_ok-name.ensures.answered
    (λ x0 h0. answered-then c.in_ok-name.ensures.meets.state _ c.in_ok-abs.ensures.answered
    (λ x1 h1. answered-stop same_abs _ c.from_residual-in_err-rep.result c.from_residual-in_err-rep.ensures.1
    c.in_err-rep.ensures.answered))

pub returns-in_err-vars-clause-recorded : goal.returns-in_err-vars-clause-recorded
returns-in_err-vars-clause-recorded g c =
    let same_abs = c.in_ok-abs.ensures.meets.state ∙ c.in_ok-name.ensures.meets.state in
    let same_rep = c.in_ok-rep.ensures.meets.state ∙ same_abs in
    answered-then refl _ c.in_ok-name.ensures.answered
    (λ x0 h0. answered-then c.in_ok-name.ensures.meets.state _ c.in_ok-abs.ensures.answered
    (λ x1 h1. answered-then same_abs _ c.in_ok-rep.ensures.answered
    (λ x2 h2. answered-stop same_rep _ c.from_residual-in_err-vars.result c.from_residual-in_err-vars.ensures.1
    c.in_err-vars.ensures.answered)))

pub returns-in_err-premise-clause-recorded : goal.returns-in_err-premise-clause-recorded
returns-in_err-premise-clause-recorded g c =
    let same_abs = c.in_ok-abs.ensures.meets.state ∙ c.in_ok-name.ensures.meets.state in
    let same_rep = c.in_ok-rep.ensures.meets.state ∙ same_abs in
    let same_vars = c.in_ok-vars.ensures.meets.state ∙ same_rep in
    answered-then refl _ c.in_ok-name.ensures.answered
    (λ x0 h0. answered-then c.in_ok-name.ensures.meets.state _ c.in_ok-abs.ensures.answered
    (λ x1 h1. answered-then same_abs _ c.in_ok-rep.ensures.answered
    (λ x2 h2. answered-then same_rep _ c.in_ok-vars.ensures.answered
    (λ x3 h3. answered-stop same_vars _ c.from_residual-in_err-premise.result
    c.from_residual-in_err-premise.ensures.1 c.in_err-premise.ensures.answered))))
