use Rattle.std.proofs.Common.{map, ◌++◌}
use Rattle.ot_log_rules.specs.Definitions.{definition_at}
use Rattle.ot_log_rules.specs.Parts.{marks_premise, marks_sequents}
use Rattle.ot_log_rules.specs.Statements.{sequent_at}
use Rattle.ot_log_rules.proofs.Gathering.{gathered, gathers-then}
use Rattle.ot_log_rules.proofs.signature.occurring_in.Goals as goal

pub add_premise-requires-clause-gone : goal.add_premise-requires-clause-gone
add_premise-requires-clause-gone c = c.new-occurring.ensures.gone c.args.nodes.now

pub returns : goal.returns
returns c =
    let ts = c.args.nodes.now in
    let ms = marks_premise (definition_at ts c.args.definition.now) in
    let ns = marks_sequents (map (sequent_at ts) c.args.made.now) in
    gathered ts (ms ++ ns) c.new-occurring.result c.add_statements.new.self c.new-occurring.ensures.none
    (gathers-then ts ms ns c.new-occurring.result c.add_premise.new.parts c.add_statements.new.self
    c.in_ok-add_premise.ensures c.in_ok-add_statements.ensures)
