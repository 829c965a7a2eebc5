use Rattle.std.proofs.Common.{◌≡◌, ℕ, length, take, slice_index}
use Rattle.ot_logic.specs.Lists.{IsMember}
use Rattle.ot_leads.specs.Columns.{Gains}
use Rattle.ot_leads.specs.Leads.{IsDefined}
use Rattle.ot_leads.proofs.column.Column.note_definitions.Given as goal

abbrev pub invariant-loop-place : goal.invariant-loop-place
invariant-loop-place l =
    Gains (length l.trace) l.initial.self l.self
    (λ i p. (j : ℕ) × IsMember j (take l.place-index l.places)
    × ((p ≡ j) × IsDefined l.trace (slice_index l.definitions j) i))
