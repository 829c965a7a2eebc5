use Rattle.std.proofs.Common.{◌∙◌, ap}
use Rattle.std.proofs.Common.{true≢false, sym}
use Rattle.ot_logic.specs.Trees.{TyVar}
use Rattle.ot_log_nodes.proofs.ItemLemmas.{has-name, name-is, has-type, type-is}
use Rattle.ot_verify.proofs.Logging.{held_of, log-kept, state-then, named-here, made-type}
use Rattle.ot_log_nodes.specs.Items.{type_at}
use Rattle.ot_verify.specs.Held.{state_of}
use Rattle.ot_verify.proofs.log.Log.type_var.Goals as goal

pub returns-then-not-has_name : goal.returns-then-not-has_name
returns-then-not-has_name c = λ n h.
    let l = c.self.inside in
    absurd (true≢false (sym (c.has_name.ensures.1 (has-name l.nodes c.args.name
    n (named-here l c.args.self.now c.self.view_is c.args.name n h)))
    ∙ c.if-not-has_name.true))

pub type_var-requires : goal.type_var-requires
type_var-requires c = c.has_name.ensures.0 c.if-not-has_name.false

pub invariant_of-self : goal.invariant_of-self
invariant_of-self c = log-kept c.self.inside c.type_var.new.self c.type_var.ensures.extends c.self.invariant

pub invariant_of-self-2 : goal.invariant_of-self-2
invariant_of-self-2 c = log-kept c.self.inside c.type_var.new.self c.in_ok-id.ensures.extends c.self.invariant

pub add_type-requires : goal.add_type-requires
add_type-requires c = has-type c.type_var.new.self c.in_ok-id.id _ c.in_ok-id.ensures.ok

pub returns : goal.returns
returns c = λ n h.
    let l = c.self.inside in
    let us = c.type_var.new.self in
    made-type (TyVar n) (type_at us c.in_ok-id.id) c.add_type.result c.args.self.now.state (state_of us (held_of l))
    c.add_type.new.self.state
    (state-then l us c.args.self.now c.self.view_is c.in_ok-id.ensures.extends c.self.invariant)
    (type-is us c.in_ok-id.id _ c.in_ok-id.ensures.ok ∙ ap TyVar
    (name-is l.nodes c.args.name n (named-here l c.args.self.now c.self.view_is c.args.name n h)))
    c.add_type.ensures
