use Rattle.std.proofs.Common.{[], sym, ap, subst, ◌∙◌}
use Rattle.std.specs.List.{All}
use Rattle.std.proofs.lemmas.List.Elements.{All-tail}
use Rattle.ot_kernel.specs.State.{variable_at}
use Rattle.ot_machine.specs.Canonical.{variable_in, binders_at, IsBinderIn}
use Rattle.ot_machine.proofs.Canonical.{variable-skip}
use Rattle.ot_machine.proofs.session.Session.binder_of.Goals as goal

pub binders-preserved : goal.binders-preserved
binders-preserved c =
    let s = c.args.self.now in
    let split = c.in-Some.ensures.cases.0 in
    let v = variable_at s.kernel c.args.v.now in
    record {
      inside = All-tail (IsBinderIn s) c.in-Some.binder.now c.in-Some.others.now
          (subst (All (IsBinderIn s)) split c.binders.invariant.inside);
      same = sym
          (variable-skip s [] c.in-Some.others.now c.in-Some.binder.now v
          (sym c.same_variable.ensures ∙ c.if-same_variable.false))
          ∙ ap (λ bs. variable_in (binders_at s bs) v) (sym split) ∙ c.binders.invariant.same;
    }
