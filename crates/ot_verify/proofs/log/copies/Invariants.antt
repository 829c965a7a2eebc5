use Rattle.std.specs.List.{All}
use Rattle.std.proofs.Common.{◌≡◌, map, take}
use Rattle.ot_log_rules.specs.Statements.{sequent_at, HasStatement}
use Rattle.ot_verify.proofs.log.copies.Given as goal

abbrev pub invariant-loop-statement : goal.invariant-loop-statement
invariant-loop-statement l = record {
  has : All (HasStatement l.nodes) l.made.items;
  same : map (sequent_at l.nodes) l.made.items ≡ map (sequent_at l.nodes) (take l.statement-index l.statements);
}
