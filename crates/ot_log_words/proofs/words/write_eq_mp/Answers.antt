use Rattle.ot_logic.specs.Naming.{names}
use Rattle.ot_logic.specs.Rules.{eq_mp_rule}
use Rattle.ot_laws.proofs.Tests.{tells_names}
use Rattle.ot_log_format.specs.Steps.{eq_mp_step}
use Rattle.ot_log_records.proofs.Ruled.{eq_mp-ruled}
use Rattle.ot_log_rules.specs.Statements.{sequent_at}
use Rattle.ot_log_words.proofs.Recorded.{gives-taken, result-of}
use Rattle.ot_log_words.proofs.words.write_eq_mp.Goals as goal

pub returns-in_err-statement-clause-accepts : goal.returns-in_err-statement-clause-accepts
returns-in_err-statement-clause-accepts c = λ h.
    let ts = c.args.nodes.now in
    let a = sequent_at ts c.args.a.now in
    let b = sequent_at ts c.args.b.now in
    let r = result-of (eq_mp_rule names a b) h in
    gives-taken c.from_residual-in_err-statement.result _ (eq_mp_step names a b) ts r.0
    c.from_residual-in_err-statement.ensures.1
    c.in_err-statement.ensures.gives (eq_mp-ruled names tells_names a b r.0 r.1)
