use Rattle.std.proofs.Common.{length}
use Rattle.ot_leads.specs.Columns.{Gains}
use Rattle.ot_leads.proofs.NotingLemmas.{IsGivenBelow}
use Rattle.ot_leads.proofs.column.Column.note_places.Given as goal

abbrev pub invariant-loop-place : goal.invariant-loop-place
invariant-loop-place l =
    Gains (length l.initial.self.of.items) l.initial.self l.self (IsGivenBelow l.steps l.place)
