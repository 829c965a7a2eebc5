use Rattle.std.proofs.Common.{if◌then◌else◌, [], ◌∷◌, ap, ◌∙◌}
use Rattle.ot_logic.specs.Naming.{names}
use Rattle.ot_laws.specs.Conditions.{given_by}
use Rattle.ot_log_nodes.specs.Items.{term_at}
use Rattle.ot_log_nodes.specs.Changing.{variable_at}
use Rattle.ot_log_rules.proofs.Giving.{gives-right, right-typed}
use Rattle.ot_log_rules.proofs.conditions.given_by.Goals as goal

pub returns-in_default-clause-given : goal.returns-in_default-clause-given
returns-in_default-clause-given c =
    ap (given_by names (variable_at c.args.nodes.now c.args.variable.now)) c.in_default.ensures

pub returns-then-is_variable : goal.returns-then-is_variable
returns-then-is_variable c =
    let ts = c.args.nodes.now in
    record {
      given = gives-right ts (variable_at ts c.args.variable.now) c.args.hyp c.in-Some.equation c.is_variable.result
          c.in-Some.ensures c.is_variable.ensures
          ∙ ap (λ b. if b then term_at ts c.in-Some.equation.right ∷ [] else []) c.if-is_variable.true;
      typed = record {
        term = c.in-Some.ensures.right;
        ty = c.in-Some.ensures.ty;
        typed = right-typed ts c.args.hyp c.in-Some.equation c.requires.hyp c.in-Some.ensures;
      };
    }

pub returns-else-is_variable-clause-given : goal.returns-else-is_variable-clause-given
returns-else-is_variable-clause-given c =
    let ts = c.args.nodes.now in
    gives-right ts (variable_at ts c.args.variable.now) c.args.hyp c.in-Some.equation c.is_variable.result
    c.in-Some.ensures c.is_variable.ensures ∙ ap (λ b. if b then term_at ts c.in-Some.equation.right ∷ [] else [])
    c.if-is_variable.false
