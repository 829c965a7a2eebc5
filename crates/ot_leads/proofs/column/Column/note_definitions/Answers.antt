use Rattle.std.proofs.Common.{◌≡◌, ◌<◌, ℕ, length, slice_index, sym, subst}
use Rattle.std.proofs.lemmas.List.{take_all}
use Rattle.ot_logic.specs.Lists.{IsMember}
use Rattle.ot_leads.specs.Columns.{Gains}
use Rattle.ot_leads.specs.Leads.{IsDefined}
use Rattle.ot_leads.proofs.NotingLemmas.{gains-begin, definition-more, definitions-all}
use Rattle.ot_leads.proofs.column.Column.note_definitions.Goals as goal

pub loop-place-init : goal.loop-place-init
loop-place-init c =
    gains-begin (length c.args.trace.now) c.args.places.now c.args.self.now
    (λ j i p. (p ≡ j) × IsDefined c.args.trace.now (slice_index c.args.definitions.now j) i) c.requires.column

pub note_definition-requires-clause-trace : goal.note_definition-requires-clause-trace
note_definition-requires-clause-trace c = c.loop-place.invariant.column.count

pub note_definition-requires-clause-column : goal.note_definition-requires-clause-column
note_definition-requires-clause-column c = c.loop-place.invariant.column

pub note_definition-requires-clause-definition : goal.note_definition-requires-clause-definition
note_definition-requires-clause-definition c =
    let place = slice_index c.args.places.now c.loop-place.place-index in
    let inside = c.requires.places c.loop-place.place-index 0 c.loop-place-test.true in
    subst (λ i. i < length c.args.trace.now) (sym c.index-definitions-place.is)
    (c.requires.definitions place c.index-definitions-place.result inside)

pub loop-place-preserved : goal.loop-place-preserved
loop-place-preserved c =
    definition-more c.args.trace.now c.args.definitions.now c.args.places.now c.loop-place.place-index
    c.index-definitions-place.result c.args.self.now c.loop-place.self c.note_definition.new.self
    c.loop-place-test.true (c.requires.places c.loop-place.place-index 0 c.loop-place-test.true)
    c.index-definitions-place.is c.loop-place.invariant c.in_ok-note_definition.ensures

pub returns : goal.returns
returns c =
    definitions-all c.args.trace.now c.args.definitions.now c.args.places.now c.args.self.now c.loop-place.self
    (subst (λ places. Gains (length c.args.trace.now) c.args.self.now c.loop-place.self
    (λ i p. (j : ℕ) × IsMember j places
    × ((p ≡ j) × IsDefined c.args.trace.now (slice_index c.args.definitions.now j) i)))
    (take_all c.loop-place.place-index c.args.places.now c.loop-place-test.false) c.loop-place.invariant)
