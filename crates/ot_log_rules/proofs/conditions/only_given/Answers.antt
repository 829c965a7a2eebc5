use Rattle.std.specs.Prelude.{IfSome}
use Rattle.std.proofs.Common.{Option, sym, subst, ap, ◌∙◌}
use Rattle.std.specs.Option.{option_map}
use Rattle.ot_log_nodes.specs.Changing.{variable_at}
use Rattle.ot_log_rules.specs.Conditions.{listed, IsGivenTerm, given_term}
use Rattle.ot_log_rules.specs.declared.conditions.Given.{Given}
use Rattle.ot_log_rules.proofs.Giving.{given-first, given-none, given-twice}
use Rattle.ot_log_rules.proofs.conditions.only_given.Goals as goal
use Rattle.ot_log_rules.proofs.conditions.only_given.Goals.{in-Some+else-is_some, in_default}

pub returns-then-is_some-clause-given : goal.returns-then-is_some-clause-given
returns-then-is_some-clause-given c =
    let ts = c.args.nodes.now in
    sym (given-twice ts (variable_at ts c.args.variable.now) c.args.hyps.now c.loop-hyp.hyp-index c.hyp-item.result
    c.loop-hyp-test.true c.hyp-item.is c.loop-hyp.found (given_term ts c.in-Some.term)
    (sym c.is_some.ensures ∙ c.if-is_some.true) c.loop-hyp.invariant.given c.in-Some.ensures.given)

pub loop-hyp-preserved : goal.loop-hyp-preserved
loop-hyp-preserved c =
    let ts = c.args.nodes.now in
    let v = variable_at ts c.args.variable.now in
    elim c.match-given_by.branch [
      | in-Some+else-is_some w ↦ record {
        given =
            given-first ts v c.args.hyps.now c.loop-hyp.hyp-index c.hyp-item.result c.loop-hyp-test.true c.hyp-item.is
            c.loop-hyp.found (given_term ts w.in-Some.term) (sym w.is_some.ensures ∙ w.if-is_some.false)
            c.loop-hyp.invariant.given w.in-Some.ensures.given
            ∙ ap (λ (o : Option Given). listed (option_map (given_term ts) o)) (sym w.found-is);
        typed = subst (λ (o : Option Given). IfSome o (IsGivenTerm ts)) (sym w.found-is) w.in-Some.ensures.typed;
      }
      | in_default w ↦ record {
        given =
            given-none ts v c.args.hyps.now c.loop-hyp.hyp-index c.hyp-item.result c.loop-hyp-test.true c.hyp-item.is
            c.loop-hyp.found c.loop-hyp.invariant.given w.in_default.ensures.given
            ∙ ap (λ (o : Option Given). listed (option_map (given_term ts) o)) (sym w.found-is);
        typed = subst (λ (o : Option Given). IfSome o (IsGivenTerm ts)) (sym w.found-is) c.loop-hyp.invariant.typed;
      }
    ]
