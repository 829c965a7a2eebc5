use Rattle.std.proofs.Common.{take}
use Rattle.ot_log_rules.specs.Parts.{marks_each, Gathers}
use Rattle.ot_log_rules.specs.Statements.{terms_at}
use Rattle.ot_log_rules.proofs.parts.Parts.add_terms.Given as goal

abbrev pub invariant-loop-id : goal.invariant-loop-id
invariant-loop-id l = Gathers l.nodes (marks_each (terms_at l.nodes (take l.id-index l.ids))) l.fn.self l.self
