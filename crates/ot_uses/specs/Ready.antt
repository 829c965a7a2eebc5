-- What the steps of a session lead to is found. Only contracts of private functions speak of it.
use Rattle.std.specs.Prelude.{ℕ, List, map}
use Rattle.ot_leads.specs.Leads.{AreLeads}
use Rattle.ot_leads.specs.declared.finding.Leads.{Leads}
use Rattle.ot_machine.specs.declared.machine.Export.{Export}
use Rattle.ot_machine.specs.declared.session.Session.{Session}

-- the steps of the theorems
abbrev pub theorem_steps : List Export → List ℕ
theorem_steps = map (λ e. e.theorem)

-- for these roots, among the assumptions and the definitions of the session
abbrev pub IsReady : Session → List ℕ → Leads → Type 0
IsReady s roots leads = AreLeads s.trace roots s.assumption_steps.items s.definition_steps.items leads
