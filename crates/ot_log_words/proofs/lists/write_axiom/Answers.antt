use Rattle.std.specs.List.{All}
use Rattle.std.proofs.Common.{◌∙◌, map, Ok, ap, sym, subst}
use Rattle.ot_log_nodes.specs.Items.{HasTerm, term_at}
use Rattle.ot_log_words.proofs.Listed.{has-assumption, assumption-is, axiom-records}
use Rattle.ot_logic.specs.Naming.{names}
use Rattle.ot_logic.specs.Answers.{◌>>=◌}
use Rattle.ot_kernel.specs.Axioms.{axiom_rule}
use Rattle.ot_log_format.specs.Steps.{assumption_step}
use Rattle.ot_log_rules.specs.Statements.{terms_at}
use Rattle.ot_machine.specs.Objects.{theorem}
use Rattle.ot_log_words.specs.Recording.{HasResult}
use Rattle.ot_log_words.proofs.Recorded.{axiom-ruled, gives-taken, result-of}
use Rattle.ot_log_words.proofs.lists.write_axiom.Goals as goal

pub write_sequent-requires : goal.write_sequent-requires
write_sequent-requires c =
    let ts = c.args.nodes.now in
    record {
      operands = has-assumption ts c.args.concl _ c.deref.result.now c.deref-2.result.now
          (c.deref-2.ensures.value ∙ c.in_ok-operands.ensures) c.requires.concl
          (subst (All (HasTerm ts)) (sym c.deref.ensures.value) c.in_ok-sorted.ensures.has);
    }

pub returns-clause-records : goal.returns-clause-records
returns-clause-records c = λ os r.
    let ts = c.args.nodes.now in
    let sorted = ap (map (term_at ts)) c.deref.ensures.value ∙ c.in_ok-sorted.ensures.sorted in
    axiom-records ts c.assumption.new.nodes c.in_ok-statement.ensures.extends c.args.sheet.now
    c.write_sequent.new.self
    c.in_ok-number.number c.in_ok-statement.statement c.args.hyps.now c.args.concl c.deref-2.result.now os
    (assumption-is ts c.args.concl c.deref.result.now (map (term_at ts) c.args.hyps.now) c.deref-2.result.now
    (c.deref-2.ensures.value ∙ c.in_ok-operands.ensures) sorted) c.in_ok-number.ensures.adds
    c.in_ok-statement.ensures.gives r

pub returns-in_err-statement-clause-accepts : goal.returns-in_err-statement-clause-accepts
returns-in_err-statement-clause-accepts c = λ os r h.
    let ts = c.args.nodes.now in
    let hs = terms_at ts c.args.hyps.now in
    let t = term_at ts c.args.concl in
    let q = result-of (axiom_rule hs t)
    (subst (λ z. HasResult (z >>= λ hyps. axiom_rule hyps t >>= λ q. Ok (theorem q))) r h) in
    gives-taken c.from_residual-in_err-statement.result _ (assumption_step names hs t) c.assumption.new.nodes q.0
    c.from_residual-in_err-statement.ensures.1
    c.in_err-statement.ensures.gives (axiom-ruled hs t q.0 q.1)
