use Rattle.std.proofs.Common.{◌≡◌, ℕ, length, take}
use Rattle.ot_logic.specs.Lists.{IsMember}
use Rattle.ot_leads.specs.Columns.{Gains}
use Rattle.ot_leads.proofs.column.Column.note_all.Given as goal

abbrev pub invariant-loop-step : goal.invariant-loop-step
invariant-loop-step l =
    Gains (length l.initial.self.of.items) l.initial.self l.self
    (λ i p. (j : ℕ) × IsMember j (take l.step-index l.steps) × ((i ≡ j) × (p ≡ l.place)))
