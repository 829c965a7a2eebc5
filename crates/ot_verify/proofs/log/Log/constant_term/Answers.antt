use Rattle.std.proofs.Common.{◌∙◌}
use Rattle.std.proofs.Common.{true≢false, sym}
use Rattle.ot_logic.specs.Trees.{Con}
use Rattle.ot_log_nodes.proofs.ItemLemmas.{has-name, name-is, has-term, term-is}
use Rattle.ot_verify.proofs.Logging.{at-same, held_of, log-kept, state-then, named-here}
use Rattle.ot_verify.proofs.Logging.{type-here, typed-here, no-type, made-term}
use Rattle.ot_log_nodes.specs.Items.{term_at}
use Rattle.ot_verify.specs.Held.{state_of}
use Rattle.ot_verify.proofs.log.Log.constant_term.Goals as goal

pub returns-then-not-has_name : goal.returns-then-not-has_name
returns-then-not-has_name c = λ n t h k.
    let l = c.self.inside in
    absurd (true≢false (sym (c.has_name.ensures.1 (has-name l.nodes c.args.name
    n (named-here l c.args.self.now c.self.view_is c.args.name n h)))
    ∙ c.if-not-has_name.true))

pub returns-in_err-ty : goal.returns-in_err-ty
returns-in_err-ty c =
    λ n t h k. absurd (no-type c.self.inside c.args.self.now c.self.view_is
    c.args.ty t (at-same _ _ _ _ c.deref.ensures.value c.in_err-ty.ensures.1) k)

pub constant-requires-clause-name : goal.constant-requires-clause-name
constant-requires-clause-name c = c.has_name.ensures.0 c.if-not-has_name.false

pub constant-requires-clause-ty : goal.constant-requires-clause-ty
constant-requires-clause-ty c =
    typed-here c.self.inside c.self.invariant c.args.ty c.in_ok-ty.field-0.now
    (at-same _ _ _ _ c.deref.ensures.value c.in_ok-ty.ensures)

pub invariant_of-self : goal.invariant_of-self
invariant_of-self c = log-kept c.self.inside c.constant.new.self c.constant.ensures.extends c.self.invariant

pub invariant_of-self-2 : goal.invariant_of-self-2
invariant_of-self-2 c = log-kept c.self.inside c.constant.new.self c.in_ok-id.ensures.extends c.self.invariant

pub add_term-requires : goal.add_term-requires
add_term-requires c = has-term c.constant.new.self c.in_ok-id.id _ c.in_ok-id.ensures.ok

pub returns : goal.returns
returns c = λ n t h k.
    let l = c.self.inside in
    let us = c.constant.new.self in
    let name = name-is l.nodes c.args.name n (named-here l c.args.self.now c.self.view_is c.args.name n h) in
    let ty = type-here c.self.inside c.args.self.now c.self.view_is c.args.ty
    c.in_ok-ty.field-0.now t (at-same _ _ _ _ c.deref.ensures.value c.in_ok-ty.ensures) k in
    made-term (Con n t) (term_at us c.in_ok-id.id) c.add_term.result c.args.self.now.state (state_of us (held_of l))
    c.add_term.new.self.state
    (state-then l us c.args.self.now c.self.view_is c.in_ok-id.ensures.extends c.self.invariant)
    (term-is us c.in_ok-id.id _ c.in_ok-id.ensures.ok ∙ (λ i. Con (name i) (ty i))) c.add_term.ensures
