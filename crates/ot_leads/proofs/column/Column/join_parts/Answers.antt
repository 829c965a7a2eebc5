use Rattle.std.proofs.Common.{length, ap, sym, subst, ◌∙◌}
use Rattle.std.proofs.lemmas.Result.{on_ok_weaker}
use Rattle.ot_logic.specs.Lists.{IsMember}
use Rattle.ot_trace.specs.Walk.{IsPartNumber}
use Rattle.ot_leads.proofs.NotingLemmas.{parts-listed, part-only}
use Rattle.ot_leads.proofs.column.Column.join_parts.Goals as goal

pub returns-in-Outcome : goal.returns-in-Outcome
returns-in-Outcome c =
    on_ok_weaker c.join.result
    (λ v. part-only (length c.args.self.now.of.items) c.args.id c.args.step.now c.args.self.now c.join.new.self _ _
    c.in-Outcome.is v) c.join.ensures

pub returns-in-Make : goal.returns-in-Make
returns-in-Make c =
    on_ok_weaker c.join_all.result
    (λ v. parts-listed (length c.args.self.now.of.items) c.args.id c.args.step.now c.args.self.now
    c.join_all.new.self c.as_slice.result.now
    (λ j m. rw c.in-Make.is (subst (IsMember j) c.as_slice.ensures m))
    (λ j m. subst (IsMember j) (sym c.as_slice.ensures) (subst (λ s. IsPartNumber s j) c.in-Make.is m)) v)
    c.join_all.ensures

pub returns-in-Define : goal.returns-in-Define
returns-in-Define c =
    let items = c.as_slice-in-Define.ensures.value ∙ ap (λ v. v.items) c.deref.ensures in
    on_ok_weaker c.join_all-in-Define.result
    (λ v. parts-listed (length c.args.self.now.of.items) c.args.id c.args.step.now c.args.self.now
    c.join_all-in-Define.new.self c.as_slice-in-Define.result.now
    (λ j m. rw c.in-Define.is (subst (IsMember j) items m))
    (λ j m. subst (IsMember j) (sym items) (subst (λ s. IsPartNumber s j) c.in-Define.is m)) v)
    c.join_all-in-Define.ensures
