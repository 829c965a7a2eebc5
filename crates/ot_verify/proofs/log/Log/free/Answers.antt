use Rattle.std.proofs.Common.{◌∙◌, ap, subst}
use Rattle.std.proofs.Common.{ℕ, List, sym}
use Rattle.ot_logic.specs.Trees.{Free}
use Rattle.ot_log_nodes.proofs.ItemLemmas.{has-term, term-is}
use Rattle.ot_verify.specs.Finding.{IsFoundVariable}
use Rattle.ot_verify.proofs.Found.{variable-found, variable-there, variable-held}
use Rattle.ot_verify.proofs.Logging.{held_of, log-kept, state-then, made-term}
use Rattle.ot_log_nodes.specs.Items.{term_at}
use Rattle.ot_verify.specs.Held.{state_of}
use Rattle.ot_verify.proofs.log.Log.free.Goals as goal

pub returns-in_default : goal.returns-in_default
returns-in_default c = λ w h.
    let l = c.self.inside in
    let (v, g) = variable-there l c.args.self.now c.self.view_is c.self.invariant c.args.v w h in
    absurd (c.in_default.ensures v
    (subst (λ (is : List ℕ). IsFoundVariable l.nodes is c.args.v v) (sym c.deref.ensures.value) g))

pub free-requires-clause-name : goal.free-requires-clause-name
free-requires-clause-name c =
    let l = c.self.inside in
    (variable-held l c.args.self.now c.self.view_is c.self.invariant c.args.v c.in-Some.v
    (subst (λ (is : List ℕ). IsFoundVariable l.nodes is c.args.v c.in-Some.v) c.deref.ensures.value
    c.in-Some.ensures)).0

pub free-requires-clause-ty : goal.free-requires-clause-ty
free-requires-clause-ty c =
    let l = c.self.inside in
    (variable-held l c.args.self.now c.self.view_is c.self.invariant c.args.v c.in-Some.v
    (subst (λ (is : List ℕ). IsFoundVariable l.nodes is c.args.v c.in-Some.v) c.deref.ensures.value
    c.in-Some.ensures)).1

pub invariant_of-self : goal.invariant_of-self
invariant_of-self c = log-kept c.self.inside c.free.new.self c.free.ensures.extends c.self.invariant

pub invariant_of-self-2 : goal.invariant_of-self-2
invariant_of-self-2 c = log-kept c.self.inside c.free.new.self c.in_ok-id.ensures.extends c.self.invariant

pub add_term-requires : goal.add_term-requires
add_term-requires c = has-term c.free.new.self c.in_ok-id.id _ c.in_ok-id.ensures.ok

pub returns : goal.returns
returns c = λ w h.
    let l = c.self.inside in
    let us = c.free.new.self in
    let g = subst (λ (is : List ℕ). IsFoundVariable l.nodes is c.args.v c.in-Some.v) c.deref.ensures.value
    c.in-Some.ensures in
    made-term (Free w) (term_at us c.in_ok-id.id) c.add_term.result c.args.self.now.state (state_of us (held_of l))
    c.add_term.new.self.state
    (state-then l us c.args.self.now c.self.view_is c.in_ok-id.ensures.extends c.self.invariant)
    (term-is us c.in_ok-id.id _ c.in_ok-id.ensures.ok ∙ ap Free
    (variable-found l c.args.self.now c.self.view_is c.self.invariant c.args.v c.in-Some.v w g h))
    c.add_term.ensures
