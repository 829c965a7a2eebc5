use Rattle.std.proofs.Common.{ap, sym, subst, ◌∙◌}
use Rattle.std.proofs.lemmas.Result.{on_ok_weaker}
use Rattle.ot_logic.specs.Lists.{IsMember}
use Rattle.ot_trace.specs.Walk.{IsPartNumber}
use Rattle.ot_leads.proofs.MeetLemmas.{meets-as}
use Rattle.ot_leads.proofs.meeting.Walk.meet_parts.Goals as goal

pub returns-in-Outcome : goal.returns-in-Outcome
returns-in-Outcome c =
    on_ok_weaker c.meet.result
    (λ v. meets-as _ _ _ _ _ _ (λ i a. rw c.in-Outcome.is a) (λ i a. subst (λ s. IsPartNumber s i) c.in-Outcome.is a)
    v) c.meet.ensures

pub returns-in-Make : goal.returns-in-Make
returns-in-Make c =
    on_ok_weaker c.meet_all.result
    (λ v. meets-as _ _ _ _ _ _ (λ i a. rw c.in-Make.is (subst (IsMember i) c.as_slice.ensures a))
    (λ i a. subst (IsMember i) (sym c.as_slice.ensures) (subst (λ s. IsPartNumber s i) c.in-Make.is a)) v)
    c.meet_all.ensures

pub returns-in-Define : goal.returns-in-Define
returns-in-Define c =
    let items = c.as_slice-in-Define.ensures.value ∙ ap (λ v. v.items) c.deref.ensures in
    on_ok_weaker c.meet_all-in-Define.result
    (λ v. meets-as _ _ _ _ _ _ (λ i a. rw c.in-Define.is (subst (IsMember i) items a))
    (λ i a. subst (IsMember i) (sym items) (subst (λ s. IsPartNumber s i) c.in-Define.is a)) v)
    c.meet_all-in-Define.ensures
