use Rattle.std.proofs.Common.{[], ◌∷◌}
use Rattle.ot_logic.specs.declared.command.Cmd.TheVariants as words
use Rattle.ot_log_nodes.specs.Items.{term_at}
use Rattle.ot_machine.specs.Objects.{term}
use Rattle.ot_log_words.proofs.Recorded.{beta-value, gives-taken, made-records, result-of}
use Rattle.ot_logic.specs.Naming.{names}
use Rattle.ot_logic.specs.Rules.{beta_conv_rule}
use Rattle.ot_laws.proofs.Tests.{tells_names}
use Rattle.ot_log_format.specs.Steps.{beta_step}
use Rattle.ot_log_records.proofs.Ruled.{beta-ruled}
use Rattle.ot_log_words.proofs.words.write_beta_conv.Goals as goal

pub returns-clause-records : goal.returns-clause-records
returns-clause-records c =
    let ts = c.args.nodes.now in
    let g = c.in_ok-statement.ensures.gives in
    made-records ts c.beta_conv.new.nodes c.args.sheet.now c.write_of_term.new.sheet c.in_ok-number.number
    c.in_ok-statement.statement c.in_ok-statement.ensures.extends
    words.BetaConv (term (term_at ts c.args.t) ∷ []) [] c.in_ok-number.ensures.adds g.0
    (beta-value (term_at ts c.args.t) _ g.1)

pub returns-in_err-statement-clause-accepts : goal.returns-in_err-statement-clause-accepts
returns-in_err-statement-clause-accepts c = λ w h.
    let t = term_at c.args.nodes.now c.args.t in
    let r = result-of (beta_conv_rule names t) h in
    gives-taken c.from_residual-in_err-statement.result _ (beta_step names t) c.beta_conv.new.nodes r.0
    c.from_residual-in_err-statement.ensures.1
    c.in_err-statement.ensures.gives (beta-ruled names tells_names t r.0 w r.1)
