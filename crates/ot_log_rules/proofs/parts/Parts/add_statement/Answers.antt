use Rattle.std.proofs.Common.{ℕ, List, ap, sym, ◌++◌}
use Rattle.ot_log_nodes.specs.Items.{term_at}
use Rattle.ot_log_rules.specs.Statements.{terms_at, sequent_at}
use Rattle.ot_log_rules.specs.Parts.{marks_tm, marks_each, marks_sequent}
use Rattle.ot_log_rules.proofs.Gathering.{gathers-on}
use Rattle.ot_log_rules.proofs.parts.Parts.add_statement.Goals as goal

pub returns : goal.returns
returns c =
    let ts = c.args.nodes.now in
    let q = c.args.statement.now in
    gathers-on ts c.args.self.now c.add_terms.new.self c.add_term.new.self (marks_sequent (sequent_at ts q))
    (marks_each (terms_at ts c.deref.result.now)) (marks_tm (term_at ts q.concl))
    (ap (λ (l : List ℕ). marks_each (terms_at ts l) ++ marks_tm (term_at ts q.concl)) (sym c.deref.ensures.value))
    c.add_term.result c.in_ok-add_terms.ensures c.add_term.ensures
