use Rattle.std.proofs.Common.{◌≡◌, length, arith}
use Rattle.ot_leads.proofs.ColumnLemmas.{own-column, own-gains, own-inside}
use Rattle.ot_leads.proofs.NotingLemmas.{given-begin, given-more, given-end}
use Rattle.ot_leads.proofs.column.Column.note_places.Goals as goal

pub loop-place-init : goal.loop-place-init
loop-place-init c =
    given-begin (length c.args.self.now.of.items) c.args.steps.now c.args.self.now c.requires.column

pub note-requires-clause-column : goal.note-requires-clause-column
note-requires-clause-column c =
    own-column (length c.args.self.now.of.items) c.loop-place.self c.loop-place.invariant.column

pub note-requires-clause-step : goal.note-requires-clause-step
note-requires-clause-step c =
    own-inside (length c.args.self.now.of.items) c.loop-place.self c.args.steps.now c.loop-place.place
    c.index-steps-place.result c.loop-place.invariant.column c.requires.steps c.loop-place-test.true
    c.index-steps-place.is

pub loop-place-preserved : goal.loop-place-preserved
loop-place-preserved c =
    let n = length c.args.self.now.of.items in
    given-more n c.args.steps.now c.loop-place.place c.index-steps-place.result c.args.self.now c.loop-place.self
    c.note.new.self c.index-steps-place.is c.loop-place-test.true c.loop-place.invariant
    (own-gains n c.loop-place.self c.note.new.self
    (λ i p. (i ≡ c.index-steps-place.result) × (p ≡ c.loop-place.place)) c.loop-place.invariant.column
    c.in_ok-note.ensures)

pub returns : goal.returns
returns c =
    let most = c.loop-place.auto.place-end in
    let least = c.loop-place-test.false in
    given-end (length c.args.self.now.of.items) c.args.steps.now c.loop-place.place c.args.self.now c.loop-place.self
    (omega (arith, most, least)) c.loop-place.invariant
