use Rattle.std.proofs.Common.{map, take}
use Rattle.ot_log_rules.specs.Parts.{marks_sequents, Gathers}
use Rattle.ot_log_rules.specs.Statements.{sequent_at}
use Rattle.ot_log_rules.proofs.parts.Parts.add_statements.Given as goal

abbrev pub invariant-loop-statement : goal.invariant-loop-statement
invariant-loop-statement l =
    Gathers l.nodes (marks_sequents (map (sequent_at l.nodes) (take l.statement-index l.statements))) l.fn.self l.self
