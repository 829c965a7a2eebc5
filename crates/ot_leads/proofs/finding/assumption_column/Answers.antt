use Rattle.std.proofs.Common.{◌<◌, length, sym, subst}
use Rattle.ot_leads.specs.Columns.{IsColumn}
use Rattle.ot_leads.specs.Leads.{IsGiven}
use Rattle.ot_leads.proofs.ColumnLemmas.{own-gains}
use Rattle.ot_leads.proofs.PassLemmas.{spread}
use Rattle.ot_leads.proofs.finding.assumption_column.Goals as goal

pub returns : goal.returns
returns c =
    let ts = c.args.trace.now in
    let column = c.in_ok-column.column in
    let empty = subst (λ n. IsColumn n column) c.count.ensures.count c.in_ok-column.ensures.0 in
    spread ts c.args.steps.now (IsGiven c.args.assumptions.now) column c.note_places.new.self c.pass_up.new.self
    (λ i p h. c.in_ok-column.ensures.1 i p (subst (λ n. i < n) (sym c.count.ensures.count) h))
    (own-gains (length ts) column c.note_places.new.self (IsGiven c.args.assumptions.now) empty
    c.in_ok-note_places.ensures) c.in_ok-pass_up.ensures
