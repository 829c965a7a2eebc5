use Rattle.std.proofs.Common.{[], ◌∷◌, refl}
use Rattle.ot_logic.specs.Naming.{names}
use Rattle.ot_logic.specs.Rules.{deduct_antisym_rule}
use Rattle.ot_logic.specs.declared.command.Cmd.TheVariants as words
use Rattle.ot_laws.proofs.Tests.{tells_names}
use Rattle.ot_log_format.specs.Steps.{deduct_antisym_step}
use Rattle.ot_log_records.proofs.Ruled.{deduct_antisym-ruled}
use Rattle.ot_log_rules.specs.Statements.{sequent_at}
use Rattle.ot_machine.specs.Objects.{theorem}
use Rattle.ot_log_words.proofs.Recorded.{gives-taken, made-records, stepped}
use Rattle.ot_log_words.proofs.words.write_deduct_antisym.Goals as goal

pub returns-clause-records : goal.returns-clause-records
returns-clause-records c =
    let ts = c.args.nodes.now in
    let a = sequent_at ts c.args.a.now in
    let b = sequent_at ts c.args.b.now in
    let g = c.in_ok-statement.ensures.gives in
    made-records ts c.deduct_antisym.new.nodes c.args.sheet.now c.write_of_two.new.sheet c.in_ok-number.number
    c.in_ok-statement.statement c.in_ok-statement.ensures.extends
    words.DeductAntisym (theorem a ∷ theorem b ∷ []) (c.args.i ∷ c.args.j ∷ []) c.in_ok-number.ensures.adds g.0
    (stepped (deduct_antisym_rule names a b) (deduct_antisym_step names a b) _
    (λ r. deduct_antisym-ruled names tells_names a b r) g.1)

pub returns-in_err-statement-clause-accepts : goal.returns-in_err-statement-clause-accepts
returns-in_err-statement-clause-accepts c =
    let ts = c.args.nodes.now in
    gives-taken c.from_residual-in_err-statement.result _
    (deduct_antisym_step names (sequent_at ts c.args.a.now) (sequent_at ts c.args.b.now))
    c.deduct_antisym.new.nodes _ c.from_residual-in_err-statement.ensures.1 c.in_err-statement.ensures.gives refl
