use Rattle.std.proofs.Common.{◌∙◌}
use Rattle.ot_logic.specs.Trees.{App}
use Rattle.ot_log_nodes.proofs.ItemLemmas.{has-term, term-is}
use Rattle.ot_verify.proofs.Logging.{at-same, held_of, log-kept, state-then, term-here, held-here, no-term, made-term}
use Rattle.ot_log_nodes.specs.Items.{term_at}
use Rattle.ot_verify.specs.Held.{state_of}
use Rattle.ot_verify.proofs.log.Log.app.Goals as goal

pub returns-in_err-f : goal.returns-in_err-f
returns-in_err-f c =
    λ t u h k. absurd (no-term c.self.inside c.args.self.now c.self.view_is
    c.args.f t (at-same _ _ _ _ c.deref.ensures.value c.in_err-f.ensures.1) h)

pub returns-in_err-x : goal.returns-in_err-x
returns-in_err-x c =
    λ t u h k. absurd (no-term c.self.inside c.args.self.now c.self.view_is
    c.args.x u (at-same _ _ _ _ c.deref-2.ensures.value c.in_err-x.ensures.1) k)

pub app-requires-clause-f : goal.app-requires-clause-f
app-requires-clause-f c =
    held-here c.self.inside c.self.invariant c.args.f c.in_ok-f.field-0.now
    (at-same _ _ _ _ c.deref.ensures.value c.in_ok-f.ensures)

pub app-requires-clause-x : goal.app-requires-clause-x
app-requires-clause-x c =
    held-here c.self.inside c.self.invariant c.args.x c.in_ok-x.field-0.now
    (at-same _ _ _ _ c.deref-2.ensures.value c.in_ok-x.ensures)

pub invariant_of-self : goal.invariant_of-self
invariant_of-self c = log-kept c.self.inside c.app.new.self c.app.ensures.extends c.self.invariant

pub invariant_of-self-2 : goal.invariant_of-self-2
invariant_of-self-2 c = log-kept c.self.inside c.app.new.self c.in_ok-id.ensures.extends c.self.invariant

pub add_term-requires : goal.add_term-requires
add_term-requires c = has-term c.app.new.self c.in_ok-id.id _ c.in_ok-id.ensures.ok

pub returns : goal.returns
returns c = λ t u h k.
    let l = c.self.inside in
    let us = c.app.new.self in
    let f = term-here c.self.inside c.args.self.now c.self.view_is c.args.f
    c.in_ok-f.field-0.now t (at-same _ _ _ _ c.deref.ensures.value c.in_ok-f.ensures) h in
    let x = term-here c.self.inside c.args.self.now c.self.view_is c.args.x
    c.in_ok-x.field-0.now u (at-same _ _ _ _ c.deref-2.ensures.value c.in_ok-x.ensures) k in
    made-term (App t u) (term_at us c.in_ok-id.id) c.add_term.result c.args.self.now.state (state_of us (held_of l))
    c.add_term.new.self.state
    (state-then l us c.args.self.now c.self.view_is c.in_ok-id.ensures.extends c.self.invariant)
    (term-is us c.in_ok-id.id _ c.in_ok-id.ensures.ok ∙ (λ i. App (f i) (x i))) c.add_term.ensures
