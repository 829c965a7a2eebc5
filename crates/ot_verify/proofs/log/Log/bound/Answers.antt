use Rattle.ot_logic.specs.Trees.{Bound}
use Rattle.ot_log_nodes.proofs.ItemLemmas.{has-term, term-is}
use Rattle.ot_verify.proofs.Logging.{held_of, log-kept, state-then, made-term}
use Rattle.ot_log_nodes.specs.Items.{term_at}
use Rattle.ot_verify.specs.Held.{state_of}
use Rattle.ot_verify.proofs.log.Log.bound.Goals as goal

pub invariant_of-self : goal.invariant_of-self
invariant_of-self c = log-kept c.self.inside c.bound.new.self c.bound.ensures.extends c.self.invariant

pub invariant_of-self-2 : goal.invariant_of-self-2
invariant_of-self-2 c = log-kept c.self.inside c.bound.new.self c.in_ok-id.ensures.extends c.self.invariant

pub add_term-requires : goal.add_term-requires
add_term-requires c = has-term c.bound.new.self c.in_ok-id.id _ c.in_ok-id.ensures.ok

pub returns : goal.returns
returns c =
    let l = c.self.inside in
    let us = c.bound.new.self in
    made-term (Bound c.args.place) (term_at us c.in_ok-id.id) c.add_term.result c.args.self.now.state
    (state_of us (held_of l))
    c.add_term.new.self.state
    (state-then l us c.args.self.now c.self.view_is c.in_ok-id.ensures.extends c.self.invariant)
    (term-is us c.in_ok-id.id _ c.in_ok-id.ensures.ok) c.add_term.ensures
