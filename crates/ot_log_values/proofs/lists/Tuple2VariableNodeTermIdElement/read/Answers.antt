use Rattle.ot_machine.specs.Places.{as_variable, as_term}
use Rattle.ot_logic.specs.Faults.{BadSubst}
use Rattle.ot_machine.specs.Substitutions.{term_pair}
use Rattle.ot_log_values.proofs.Taking.{pair-parts, is-pair, first-is, second-is}
use Rattle.ot_log_values.proofs.lists.Tuple2VariableNodeTermIdElement.read.Goals as goal

pub two_elements-requires-clause-pair : goal.two_elements-requires-clause-pair
two_elements-requires-clause-pair c =
    is-pair c.args.session.now as_variable as_term term_pair (pair-parts BadSubst as_variable as_term)
    c.args.step c.requires.value

pub variable-requires-clause-value : goal.variable-requires-clause-value
variable-requires-clause-value c =
    first-is c.args.session.now as_variable as_term term_pair (pair-parts BadSubst as_variable as_term)
    c.args.step c.requires.value c.in_ok-first.first c.in_ok-first.second c.in_ok-first.ensures.made

pub term-requires-clause-value : goal.term-requires-clause-value
term-requires-clause-value c =
    second-is c.args.session.now as_variable as_term term_pair (pair-parts BadSubst as_variable as_term)
    c.args.step c.requires.value c.in_ok-first.first c.in_ok-first.second c.in_ok-first.ensures.made
