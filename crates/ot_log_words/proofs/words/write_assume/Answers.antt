use Rattle.std.proofs.Common.{[], ◌∷◌}
use Rattle.ot_logic.specs.Naming.{names}
use Rattle.ot_logic.specs.Rules.{assume_rule}
use Rattle.ot_logic.specs.declared.command.Cmd.TheVariants as words
use Rattle.ot_laws.proofs.Tests.{tells_names}
use Rattle.ot_log_format.specs.Steps.{assume_step}
use Rattle.ot_log_records.proofs.Ruled.{assume-ruled}
use Rattle.ot_log_nodes.specs.Items.{term_at}
use Rattle.ot_machine.specs.Objects.{term}
use Rattle.ot_log_words.proofs.Recorded.{gives-taken, made-records, result-of, stepped}
use Rattle.ot_log_words.proofs.words.write_assume.Goals as goal

pub returns-clause-records : goal.returns-clause-records
returns-clause-records c =
    let ts = c.args.nodes.now in
    let t = term_at ts c.args.p in
    let g = c.in_ok-statement.ensures.gives in
    made-records ts c.assume.new.nodes c.args.sheet.now c.write_of_term.new.sheet c.in_ok-number.number
    c.in_ok-statement.statement c.in_ok-statement.ensures.extends
    words.Assume (term t ∷ []) [] c.in_ok-number.ensures.adds g.0
    (stepped (assume_rule names t) (assume_step names t) _ (λ r. assume-ruled names tells_names t r) g.1)

pub returns-in_err-statement-clause-accepts : goal.returns-in_err-statement-clause-accepts
returns-in_err-statement-clause-accepts c = λ h.
    let t = term_at c.args.nodes.now c.args.p in
    let r = result-of (assume_rule names t) h in
    gives-taken c.from_residual-in_err-statement.result _ (assume_step names t) c.assume.new.nodes r.0
    c.from_residual-in_err-statement.ensures.1
    c.in_err-statement.ensures.gives (assume-ruled names tells_names t r.0 r.1)
