use Rattle.std.proofs.Common.{◌∙◌, Ok, subst}
use Rattle.ot_logic.specs.Naming.{names}
use Rattle.ot_logic.specs.Answers.{◌>>=◌}
use Rattle.ot_logic.specs.Rules.{subst_rule}
use Rattle.ot_laws.proofs.Tests.{tells_names}
use Rattle.ot_log_format.specs.Steps.{subst_step}
use Rattle.ot_log_records.proofs.Firsts.{subst-ruled}
use Rattle.ot_log_nodes.specs.Changing.{type_map, term_map}
use Rattle.ot_log_rules.specs.Statements.{sequent_at}
use Rattle.ot_machine.specs.Objects.{theorem}
use Rattle.ot_log_law.proofs.Read.{maps-typed}
use Rattle.ot_log_words.specs.Recording.{HasResult}
use Rattle.ot_log_words.proofs.Recorded.{gives-taken, result-of}
use Rattle.ot_log_words.proofs.Listed.{has-subst, subst-is, subst-records}
use Rattle.ot_log_words.proofs.lists.write_subst.Goals as goal

pub write_sequent-requires : goal.write_sequent-requires
write_sequent-requires c = record {
  operands =
      has-subst c.args.nodes.now c.args.i _ _ c.args.types.now c.args.terms.now c.deref.result.now
      (c.deref.ensures.value ∙ c.in_ok-operands.ensures) c.requires.types c.requires.terms;
}

pub returns-clause-records : goal.returns-clause-records
returns-clause-records c = λ os r.
    let ts = c.args.nodes.now in
    subst-records ts c.subst.new.nodes c.in_ok-statement.ensures.extends c.args.sheet.now c.write_sequent.new.self
    c.in_ok-number.number c.in_ok-statement.statement c.args.types.now c.args.terms.now c.args.a.now c.args.i
    c.deref.result.now os
    (subst-is ts c.args.i c.args.types.now c.args.terms.now c.deref.result.now
    (c.deref.ensures.value ∙ c.in_ok-operands.ensures))
    c.in_ok-number.ensures.adds c.in_ok-statement.ensures.gives r

pub returns-in_err-statement-clause-accepts : goal.returns-in_err-statement-clause-accepts
returns-in_err-statement-clause-accepts c = λ os r h.
    let ts = c.args.nodes.now in
    let s = type_map ts c.args.types.now in
    let m = term_map ts c.args.terms.now in
    let a = sequent_at ts c.args.a.now in
    let q = result-of (subst_rule names s m a)
    (subst (λ z. HasResult (z >>= λ maps. subst_rule names maps.0 maps.1 a >>= λ q. Ok (theorem q))) r h) in
    gives-taken c.from_residual-in_err-statement.result _ (subst_step names s m a) c.subst.new.nodes q.0
    c.from_residual-in_err-statement.ensures.1
    c.in_err-statement.ensures.gives (subst-ruled names tells_names s m a q.0 (maps-typed os (s, m) r) q.1)
