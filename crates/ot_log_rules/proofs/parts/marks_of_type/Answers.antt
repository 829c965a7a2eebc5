use Rattle.ot_log_rules.proofs.Gathering.{gathered}
use Rattle.ot_log_rules.proofs.parts.marks_of_type.Goals as goal

pub add_type-requires-clause-gone : goal.add_type-requires-clause-gone
add_type-requires-clause-gone c = c.new-parts.ensures.gone c.args.nodes.now

pub returns : goal.returns
returns c = gathered c.args.nodes.now _ c.new-parts.result c.add_type.new.self c.new-parts.ensures.none
    c.in_ok-add_type.ensures
