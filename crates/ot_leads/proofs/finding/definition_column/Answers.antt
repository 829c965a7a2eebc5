use Rattle.std.proofs.Common.{◌<◌, length, slice_index, sym, subst}
use Rattle.std.specs.List.{All}
use Rattle.ot_logic.specs.Lists.{IsMember}
use Rattle.ot_logic.proofs.Members.{All-from_members}
use Rattle.ot_leads.specs.Columns.{Gains}
use Rattle.ot_leads.specs.Leads.{IsDefined, IsMade}
use Rattle.ot_leads.proofs.NotingLemmas.{made-all}
use Rattle.ot_leads.proofs.PassLemmas.{spread}
use Rattle.ot_leads.proofs.finding.definition_column.Goals as goal

pub note_definitions-requires-clause-places : goal.note_definitions-requires-clause-places
note_definitions-requires-clause-places c =
    let ds = c.args.definitions.now in
    subst (λ places. All (λ p. p < length ds) places) (sym c.deref.ensures.value)
    (All-from_members (λ p. p < length ds) c.in_ok-firsts.firsts.items (λ p m. ((c.in_ok-firsts.ensures p).0 m).0))

pub returns : goal.returns
returns c =
    let ts = c.args.trace.now in
    let ds = c.args.definitions.now in
    let column = c.in_ok-column.column in
    let noted = c.note_definitions.new.self in
    spread ts c.args.steps.now (IsMade ts ds) column noted c.pass_up.new.self
    (λ i p h. c.in_ok-column.ensures.1 i p (subst (λ n. i < n) (sym c.count.ensures.count) h))
    (made-all ts ds c.in_ok-firsts.firsts.items column noted c.in_ok-firsts.ensures
    (subst (λ places. Gains (length ts) column noted (λ i p. IsMember p places × IsDefined ts (slice_index ds p) i))
    c.deref.ensures.value c.in_ok-note_definitions.ensures)) c.in_ok-pass_up.ensures
