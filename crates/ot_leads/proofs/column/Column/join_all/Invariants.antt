use Rattle.std.proofs.Common.{◌≡◌, ℕ, length, take}
use Rattle.ot_logic.specs.Lists.{IsMember}
use Rattle.ot_leads.specs.Columns.{Gains, HasPlace}
use Rattle.ot_leads.proofs.column.Column.join_all.Given as goal

abbrev pub invariant-loop-part : goal.invariant-loop-part
invariant-loop-part l =
    Gains (length l.initial.self.of.items) l.initial.self l.self
    (λ i p. (j : ℕ) × IsMember j (take l.part-index l.parts) × ((i ≡ l.id) × HasPlace l.initial.self j p))
