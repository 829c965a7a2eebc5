use Rattle.std.proofs.Common.{[], ◌∷◌}
use Rattle.ot_logic.specs.Naming.{names}
use Rattle.ot_logic.specs.Rules.{app_thm_rule}
use Rattle.ot_logic.specs.declared.command.Cmd.TheVariants as words
use Rattle.ot_laws.proofs.Tests.{tells_names}
use Rattle.ot_log_format.specs.Steps.{app_thm_step}
use Rattle.ot_log_records.proofs.Ruled.{app_thm-ruled}
use Rattle.ot_log_rules.specs.Statements.{sequent_at}
use Rattle.ot_machine.specs.Objects.{theorem}
use Rattle.ot_log_words.proofs.Recorded.{gives-taken, made-records, result-of, stepped}
use Rattle.ot_log_words.proofs.words.write_app_thm.Goals as goal

pub returns-clause-records : goal.returns-clause-records
returns-clause-records c =
    let ts = c.args.nodes.now in
    let a = sequent_at ts c.args.a.now in
    let b = sequent_at ts c.args.b.now in
    let g = c.in_ok-statement.ensures.gives in
    made-records ts c.app_thm.new.nodes c.args.sheet.now c.write_of_two.new.sheet c.in_ok-number.number
    c.in_ok-statement.statement c.in_ok-statement.ensures.extends
    words.AppThm (theorem a ∷ theorem b ∷ []) (c.args.i ∷ c.args.j ∷ []) c.in_ok-number.ensures.adds g.0
    (stepped (app_thm_rule names a b) (app_thm_step names a b) _ (λ r. app_thm-ruled names tells_names a b r) g.1)

pub returns-in_err-statement-clause-accepts : goal.returns-in_err-statement-clause-accepts
returns-in_err-statement-clause-accepts c = λ h.
    let ts = c.args.nodes.now in
    let a = sequent_at ts c.args.a.now in
    let b = sequent_at ts c.args.b.now in
    let r = result-of (app_thm_rule names a b) h in
    gives-taken c.from_residual-in_err-statement.result _ (app_thm_step names a b) c.app_thm.new.nodes r.0
    c.from_residual-in_err-statement.ensures.1
    c.in_err-statement.ensures.gives (app_thm-ruled names tells_names a b r.0 r.1)
