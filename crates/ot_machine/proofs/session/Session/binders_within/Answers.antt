use Rattle.std.proofs.Common.{◌∷◌, [], ◌++◌, sym, ap, subst, ◌∙◌}
use Rattle.std.specs.List.{All}
use Rattle.std.proofs.lemmas.List.{append_assoc, append-nil}
use Rattle.std.proofs.lemmas.List.Elements.{All-nil, All-cons, All-append, All-head, All-tail}
use Rattle.ot_kernel.specs.State.{named_at, variable_at}
use Rattle.ot_machine.specs.Canonical.{variable_in, binders_at, IsBinderIn}
use Rattle.ot_machine.proofs.Canonical.{variable-skip, other-variable, rest-empty}
use Rattle.ot_machine.proofs.session.Session.binders_within.Goals as goal

pub binders-init : goal.binders-init
binders-init c =
    let s = c.args.self.now in
    let empty = c.new-kept.ensures.items in
    record {
      here = subst (All (IsBinderIn s)) (sym empty) (All-nil (IsBinderIn s));
      left = c.requires.binders;
      known = c.requires.known;
      same = λ v p. ap (λ bs. variable_in (binders_at s (bs ++ c.args.binders.now)) v) empty;
    }

pub is_free-requires-clause-key : goal.is_free-requires-clause-key
is_free-requires-clause-key c =
    let s = c.args.self.now in
    (All-head (IsBinderIn s) c.in-Some.binder.now c.in-Some.others.now
    (subst (All (IsBinderIn s)) c.in-Some.ensures.cases.0 c.binders.invariant.left)).0

pub binders-preserved-in_ok-push : goal.binders-preserved-in_ok-push
binders-preserved-in_ok-push c =
    let s = c.args.self.now in
    let b = c.in-Some.binder.now in
    let others = c.in-Some.others.now in
    let split = c.in-Some.ensures.cases.0 in
    let left = subst (All (IsBinderIn s)) split c.binders.invariant.left in
    let pushed = c.in_ok-push.ensures.items in
    record {
      here = subst (All (IsBinderIn s)) (sym pushed)
          (All-append (IsBinderIn s) c.binders.kept.items (b ∷ []) c.binders.invariant.here
          (All-cons (IsBinderIn s) b [] (All-head (IsBinderIn s) b others left) (All-nil (IsBinderIn s))));
      left = All-tail (IsBinderIn s) b others left;
      known = c.in_ok-free.ensures.known;
      same = λ v p.
          ap (λ bs. variable_in (binders_at s (bs ++ others)) v) pushed
          ∙ ap (λ bs. variable_in (binders_at s bs) v) (append_assoc c.binders.kept.items (b ∷ []) others)
          ∙ ap (λ bs. variable_in (binders_at s (c.binders.kept.items ++ bs)) v) (sym split)
          ∙ c.binders.invariant.same v p;
    }

pub binders-preserved : goal.binders-preserved
binders-preserved c =
    let s = c.args.self.now in
    let b = c.in-Some.binder.now in
    let others = c.in-Some.others.now in
    let split = c.in-Some.ensures.cases.0 in
    record {
      here = c.binders.invariant.here;
      left = All-tail (IsBinderIn s) b others (subst (All (IsBinderIn s)) split c.binders.invariant.left);
      known = c.in_ok-free.ensures.known;
      same = λ v p.
          sym (variable-skip s c.binders.kept.items others b v
          (other-variable (named_at s.kernel.terms c.args.id) (variable_at s.kernel b.variable) v
          c.in_ok-free.free c.in_ok-free.ensures.free c.if-free.false p))
          ∙ ap (λ bs. variable_in (binders_at s (c.binders.kept.items ++ bs)) v) (sym split)
          ∙ c.binders.invariant.same v p;
    }

pub returns-clause-inside : goal.returns-clause-inside
returns-clause-inside c = c.binders.invariant.here

pub returns-clause-same : goal.returns-clause-same
returns-clause-same c = λ v p.
    ap (λ bs. variable_in (binders_at c.args.self.now bs) v) (sym (append-nil c.binders.kept.items)
    ∙ ap (λ bs. c.binders.kept.items ++ bs) (sym (rest-empty c.binders.rest.now c.in_default.ensures.cases)))
    ∙ c.binders.invariant.same v p
