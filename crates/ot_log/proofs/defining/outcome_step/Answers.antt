use Rattle.std.proofs.Common.{◌≢◌, ℕ, Some, subst}
use Rattle.std.specs.Prelude.{IfNone, slice_get}
use Rattle.ot_trace.specs.Trace.{origin_of as step_origin}
use Rattle.ot_trace.specs.declared.step.Step.TheVariants as step
use Rattle.ot_log.proofs.Outcomes.{if-none, no-step}
use Rattle.ot_log.proofs.defining.outcome_step.Goals as goal

pub returns-clause-none : goal.returns-clause-none
returns-clause-none c =
    let s = c.args.session.now in
    if-none c.find.result (λ n. no-step s c.requires.session c.args.place c.args.id c.requires.inside n)
    (subst (λ t. IfNone c.find.result
    ((i : ℕ) → slice_get t i ≢ Some (step_origin t (step.Outcome c.args.place c.args.id))))
    c.trace.ensures c.find.ensures.none)
