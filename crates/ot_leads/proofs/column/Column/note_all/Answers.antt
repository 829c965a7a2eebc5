use Rattle.std.proofs.Common.{◌≡◌, ℕ, length, subst}
use Rattle.std.proofs.lemmas.List.{take_all}
use Rattle.ot_logic.specs.Lists.{IsMember}
use Rattle.ot_leads.specs.Columns.{Gains}
use Rattle.ot_leads.proofs.ColumnLemmas.{gains-more, own-column, own-gains, own-inside}
use Rattle.ot_leads.proofs.NotingLemmas.{gains-begin, note-all}
use Rattle.ot_leads.proofs.column.Column.note_all.Goals as goal

pub loop-step-init : goal.loop-step-init
loop-step-init c =
    gains-begin (length c.args.self.now.of.items) c.args.steps.now c.args.self.now
    (λ j i p. (i ≡ j) × (p ≡ c.args.place)) c.requires.column

pub note-requires-clause-column : goal.note-requires-clause-column
note-requires-clause-column c =
    own-column (length c.args.self.now.of.items) c.loop-step.self c.loop-step.invariant.column

pub note-requires-clause-step : goal.note-requires-clause-step
note-requires-clause-step c =
    own-inside (length c.args.self.now.of.items) c.loop-step.self c.args.steps.now c.loop-step.step-index
    c.step-item.result c.loop-step.invariant.column c.requires.steps c.loop-step-test.true c.step-item.is

pub loop-step-preserved : goal.loop-step-preserved
loop-step-preserved c =
    let n = length c.args.self.now.of.items in
    gains-more n c.args.steps.now c.loop-step.step-index c.step-item.result c.args.self.now c.loop-step.self
    c.note.new.self (λ j i p. (i ≡ j) × (p ≡ c.args.place)) c.loop-step-test.true c.step-item.is
    c.loop-step.invariant
    (own-gains n c.loop-step.self c.note.new.self (λ i p. (i ≡ c.step-item.result) × (p ≡ c.args.place))
    c.loop-step.invariant.column c.in_ok-note.ensures)

pub returns : goal.returns
returns c =
    let n = length c.args.self.now.of.items in
    note-all n c.args.place c.args.steps.now c.args.self.now c.loop-step.self
    (subst (λ ids. Gains n c.args.self.now c.loop-step.self
    (λ i p. (j : ℕ) × IsMember j ids × ((i ≡ j) × (p ≡ c.args.place))))
    (take_all c.loop-step.step-index c.args.steps.now c.loop-step-test.false) c.loop-step.invariant)
