use Rattle.std.proofs.Common.{true, false, sym, ◌∙◌}
use Rattle.ot_log_rules.specs.Statements.{sequent_at}
use Rattle.ot_log_words.proofs.Recorded.{proved-records}
use Rattle.ot_log_words.proofs.words.write_proved.Goals as goal

pub returns-in_ok-statement-clause-records : goal.returns-in_ok-statement-clause-records
returns-in_ok-statement-clause-records c =
    let ts = c.args.nodes.now in
    proved-records ts c.args.sheet.now c.write_prove_hyp.new.sheet c.in_ok-number.number c.in_ok-statement.statement
    (sequent_at ts c.args.a.now) (sequent_at ts c.args.b.now) c.args.i c.args.j true
    (sym c.is_lower_lemma.ensures ∙ c.if-is_lower_lemma.true) c.in_ok-number.ensures.adds
    c.in_ok-statement.ensures.made

pub returns-in_ok-statement-2-clause-records : goal.returns-in_ok-statement-2-clause-records
returns-in_ok-statement-2-clause-records c =
    let ts = c.args.nodes.now in
    proved-records ts c.args.sheet.now c.write_prove_hyp-else-is_lower_lemma.new.sheet c.in_ok-number-2.number
    c.in_ok-statement-2.statement (sequent_at ts c.args.a.now) (sequent_at ts c.args.b.now) c.args.i c.args.j false
    (sym c.is_lower_lemma.ensures ∙ c.if-is_lower_lemma.false) c.in_ok-number-2.ensures.adds
    c.in_ok-statement-2.ensures.made
