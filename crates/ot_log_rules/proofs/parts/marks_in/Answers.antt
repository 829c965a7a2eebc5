use Rattle.ot_log_rules.proofs.Gathering.{gathered}
use Rattle.ot_log_rules.proofs.parts.marks_in.Goals as goal

pub add_term-requires-clause-gone : goal.add_term-requires-clause-gone
add_term-requires-clause-gone c = c.new-parts.ensures.gone c.args.nodes.now

pub returns : goal.returns
returns c = gathered c.args.nodes.now _ c.new-parts.result c.add_term.new.self c.new-parts.ensures.none
    c.in_ok-add_term.ensures
