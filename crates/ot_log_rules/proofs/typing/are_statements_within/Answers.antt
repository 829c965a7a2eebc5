use Rattle.std.specs.Prelude.{◌&&◌}
use Rattle.std.specs.List.{list_all}
use Rattle.std.proofs.Common.{◌+◌, map, drop, sym, ap, ◌∙◌, subst}
use Rattle.ot_logic.specs.Naming.{names}
use Rattle.ot_logic.proofs.TableLemmas.{Extends-trans}
use Rattle.ot_log_format.specs.Steps.{is_sequent_within}
use Rattle.ot_log_rules.specs.Limits.{AreWellTyped}
use Rattle.ot_log_rules.specs.Statements.{sequent_at, HasStatement}
use Rattle.ot_log_rules.proofs.Numbers.{all-next_map}
use Rattle.ot_log_rules.proofs.Staying.{sequent-stays, still-statement}
use Rattle.ot_log_rules.proofs.typing.are_statements_within.Goals as goal

pub is_statement_within-requires-clause-has : goal.is_statement_within-requires-clause-has
is_statement_within-requires-clause-has c =
    let ts = c.args.nodes.now in
    still-statement ts c.loop-statement.nodes c.loop-statement.invariant.extends c.statement-item.result
    (subst (HasStatement ts) (sym c.statement-item.is)
    (c.requires.has c.loop-statement.statement-index c.statement-item.result c.loop-statement-test.true))

pub is_statement_within-requires-clause-typed : goal.is_statement_within-requires-clause-typed
is_statement_within-requires-clause-typed c =
    let ts = c.args.nodes.now in
    let here = subst (HasStatement ts) (sym c.statement-item.is)
    (c.requires.has c.loop-statement.statement-index c.statement-item.result c.loop-statement-test.true) in
    let typed = subst (λ q. AreWellTyped (sequent_at ts q)) (sym c.statement-item.is)
    (c.requires.typed c.loop-statement.statement-index c.statement-item.result c.loop-statement-test.true) in
    subst AreWellTyped
    (sym (sequent-stays ts c.loop-statement.nodes c.loop-statement.invariant.extends c.statement-item.result
    here)) typed

pub returns-then-not-within-clause-ok : goal.returns-then-not-within-clause-ok
returns-then-not-within-clause-ok c =
    let ts = c.args.nodes.now in
    let here = subst (HasStatement ts) (sym c.statement-item.is)
    (c.requires.has c.loop-statement.statement-index c.statement-item.result c.loop-statement-test.true) in
    let test = c.in_ok-within.ensures.ok ∙ ap (is_sequent_within names)
    (sequent-stays ts c.loop-statement.nodes c.loop-statement.invariant.extends c.statement-item.result here) in
    let rest = list_all (is_sequent_within names)
    (map (sequent_at ts) (drop (c.loop-statement.statement-index + 1) c.args.statements.now)) in
    sym (c.loop-statement.invariant.all ∙ all-next_map (is_sequent_within names) (sequent_at ts) c.args.statements.now
    c.loop-statement.statement-index c.statement-item.result c.in_ok-within.within c.loop-statement-test.true
    c.statement-item.is test ∙ ap (λ b. b && rest) c.if-not-within.true)

pub loop-statement-preserved : goal.loop-statement-preserved
loop-statement-preserved c =
    let ts = c.args.nodes.now in
    let here = subst (HasStatement ts) (sym c.statement-item.is)
    (c.requires.has c.loop-statement.statement-index c.statement-item.result c.loop-statement-test.true) in
    let test = c.in_ok-within.ensures.ok ∙ ap (is_sequent_within names)
    (sequent-stays ts c.loop-statement.nodes c.loop-statement.invariant.extends c.statement-item.result here) in
    let rest = list_all (is_sequent_within names)
    (map (sequent_at ts) (drop (c.loop-statement.statement-index + 1) c.args.statements.now)) in
    record {
      extends = Extends-trans c.loop-statement.invariant.extends c.in_ok-within.ensures.extends;
      known = c.in_ok-within.ensures.known;
      all = c.loop-statement.invariant.all
          ∙ all-next_map (is_sequent_within names) (sequent_at ts) c.args.statements.now
          c.loop-statement.statement-index c.statement-item.result c.in_ok-within.within c.loop-statement-test.true
          c.statement-item.is test ∙ ap (λ b. b && rest) c.if-not-within.false;
    }
