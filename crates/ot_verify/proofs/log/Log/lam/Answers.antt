use Rattle.std.proofs.Common.{◌∙◌}
use Rattle.ot_logic.specs.Trees.{Abs}
use Rattle.ot_log_nodes.proofs.ItemLemmas.{has-term, term-is}
use Rattle.ot_verify.proofs.Logging.{at-same, held_of, log-kept, state-then, type-here, typed-here}
use Rattle.ot_verify.proofs.Logging.{no-type, term-here, held-here, no-term, made-term}
use Rattle.ot_log_nodes.specs.Items.{term_at}
use Rattle.ot_verify.specs.Held.{state_of}
use Rattle.ot_verify.proofs.log.Log.lam.Goals as goal

pub returns-in_err-ty : goal.returns-in_err-ty
returns-in_err-ty c =
    λ t b h k. absurd (no-type c.self.inside c.args.self.now c.self.view_is
    c.args.ty t (at-same _ _ _ _ c.deref.ensures.value c.in_err-ty.ensures.1) h)

pub returns-in_err-body : goal.returns-in_err-body
returns-in_err-body c =
    λ t b h k. absurd (no-term c.self.inside c.args.self.now c.self.view_is
    c.args.body b (at-same _ _ _ _ c.deref-2.ensures.value c.in_err-body.ensures.1) k)

pub abs-requires-clause-ty : goal.abs-requires-clause-ty
abs-requires-clause-ty c =
    typed-here c.self.inside c.self.invariant c.args.ty c.in_ok-ty.field-0.now
    (at-same _ _ _ _ c.deref.ensures.value c.in_ok-ty.ensures)

pub abs-requires-clause-body : goal.abs-requires-clause-body
abs-requires-clause-body c =
    held-here c.self.inside c.self.invariant c.args.body c.in_ok-body.field-0.now
    (at-same _ _ _ _ c.deref-2.ensures.value c.in_ok-body.ensures)

pub invariant_of-self : goal.invariant_of-self
invariant_of-self c = log-kept c.self.inside c.abs.new.self c.abs.ensures.extends c.self.invariant

pub invariant_of-self-2 : goal.invariant_of-self-2
invariant_of-self-2 c = log-kept c.self.inside c.abs.new.self c.in_ok-id.ensures.extends c.self.invariant

pub add_term-requires : goal.add_term-requires
add_term-requires c = has-term c.abs.new.self c.in_ok-id.id _ c.in_ok-id.ensures.ok

pub returns : goal.returns
returns c = λ t b h k.
    let l = c.self.inside in
    let us = c.abs.new.self in
    let ty = type-here c.self.inside c.args.self.now c.self.view_is c.args.ty
    c.in_ok-ty.field-0.now t (at-same _ _ _ _ c.deref.ensures.value c.in_ok-ty.ensures) h in
    let body = term-here c.self.inside c.args.self.now c.self.view_is c.args.body
    c.in_ok-body.field-0.now b (at-same _ _ _ _ c.deref-2.ensures.value c.in_ok-body.ensures) k in
    made-term (Abs t b) (term_at us c.in_ok-id.id) c.add_term.result c.args.self.now.state (state_of us (held_of l))
    c.add_term.new.self.state
    (state-then l us c.args.self.now c.self.view_is c.in_ok-id.ensures.extends c.self.invariant)
    (term-is us c.in_ok-id.id _ c.in_ok-id.ensures.ok ∙ (λ i. Abs (ty i) (body i))) c.add_term.ensures
