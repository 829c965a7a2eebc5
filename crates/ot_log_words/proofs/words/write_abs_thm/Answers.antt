use Rattle.std.proofs.Common.{[], ◌∷◌}
use Rattle.ot_logic.specs.Naming.{names}
use Rattle.ot_logic.specs.Rules.{abs_thm_rule}
use Rattle.ot_logic.specs.declared.command.Cmd.TheVariants as words
use Rattle.ot_laws.proofs.Tests.{tells_names}
use Rattle.ot_log_format.specs.Steps.{abs_thm_step}
use Rattle.ot_log_records.proofs.Ruled.{abs_thm-ruled}
use Rattle.ot_log_nodes.specs.Changing.{variable_at}
use Rattle.ot_log_rules.specs.Statements.{sequent_at}
use Rattle.ot_machine.specs.Objects.{theorem, variable}
use Rattle.ot_log_words.proofs.Recorded.{gives-taken, made-records, result-of, stepped}
use Rattle.ot_log_words.proofs.words.write_abs_thm.Goals as goal

pub returns-clause-records : goal.returns-clause-records
returns-clause-records c =
    let ts = c.args.nodes.now in
    let v = variable_at ts c.args.v in
    let a = sequent_at ts c.args.a.now in
    let g = c.in_ok-statement.ensures.gives in
    made-records ts c.abs_thm.new.nodes c.args.sheet.now c.write_sequent.new.self c.in_ok-number.number
    c.in_ok-statement.statement c.in_ok-statement.ensures.extends
    words.AbsThm (variable v ∷ theorem a ∷ []) (c.args.i ∷ []) c.in_ok-number.ensures.adds g.0
    (stepped (abs_thm_rule names v a) (abs_thm_step names v a) _ (λ r. abs_thm-ruled names tells_names v a r) g.1)

pub returns-in_err-statement-clause-accepts : goal.returns-in_err-statement-clause-accepts
returns-in_err-statement-clause-accepts c = λ h.
    let ts = c.args.nodes.now in
    let v = variable_at ts c.args.v in
    let a = sequent_at ts c.args.a.now in
    let r = result-of (abs_thm_rule names v a) h in
    gives-taken c.from_residual-in_err-statement.result _ (abs_thm_step names v a) c.abs_thm.new.nodes r.0
    c.from_residual-in_err-statement.ensures.1
    c.in_err-statement.ensures.gives (abs_thm-ruled names tells_names v a r.0 r.1)
