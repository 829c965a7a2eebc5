use Rattle.ot_leads.proofs.PassLemmas.{IsPassing}
use Rattle.ot_leads.proofs.column.Column.pass_up.Given as goal

abbrev pub invariant-loop-step : goal.invariant-loop-step
invariant-loop-step l = IsPassing l.trace l.steps l.initial.self l.self l.step-index
