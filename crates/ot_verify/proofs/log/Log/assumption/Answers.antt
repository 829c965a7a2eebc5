use Rattle.std.specs.Prelude.{Err}
use Rattle.std.specs.List.{All}
use Rattle.std.proofs.Common.{◌∙◌, ℕ, List, sym, ap, subst}
use Rattle.ot_logic.specs.Naming.{names}
use Rattle.ot_log_format.specs.State.{makes_assumption}
use Rattle.ot_log_format.specs.Steps.{assumption_step}
use Rattle.ot_log_nodes.specs.Items.{HasTerm}
use Rattle.ot_log_nodes.proofs.ItemLemmas.{still-term, term-stays}
use Rattle.ot_log_rules.specs.Statements.{terms_at, Gives}
use Rattle.ot_log_rules.proofs.Staying.{terms-stay, still-terms}
use Rattle.ot_verify.specs.Asking.{IsAt, AreEach}
use Rattle.ot_verify.specs.Finding.{FindsEach}
use Rattle.ot_verify.specs.Held.{state_of}
use Rattle.ot_verify.specs.Logged.{MadeBy}
use Rattle.ot_verify.proofs.Places.{missed}
use Rattle.ot_verify.proofs.Found.{terms-found, terms-there, terms-held}
use Rattle.ot_verify.proofs.Logging.{at-same, held_of, log-kept, with-typings}
use Rattle.ot_verify.proofs.Logging.{state-then, term-here, held-here, no-term}
use Rattle.ot_verify.proofs.log.Log.assumption.Goals as goal

pub returns-in_err-concl : goal.returns-in_err-concl
returns-in_err-concl c =
    λ p hs h k. absurd (no-term c.self.inside c.args.self.now c.self.view_is
    c.args.concl p (at-same _ _ _ _ c.deref.ensures.value c.in_err-concl.ensures.1) h)

pub returns-in_err-hyps : goal.returns-in_err-hyps
returns-in_err-hyps c = λ p hs h k.
    let l = c.self.inside in
    missed (IsAt l.terms.items) c.in_err-hyps.field-0.0 c.args.hyps.now
    (makes_assumption names (assumption_step names hs p)) c.args.self.now.state _
    c.from_residual-in_err-hyps.result c.from_residual-in_err-hyps.ensures.1
    (subst (λ (is : List ℕ). FindsEach {Y = ℕ} (IsAt is) (Err c.in_err-hyps.field-0.0) c.args.hyps.now)
    c.deref-2.ensures.value c.in_err-hyps.ensures)
    (terms-there l c.args.self.now c.self.view_is c.self.invariant c.args.hyps.now hs k)

pub assumption-made-requires-clause-hyps : goal.assumption-made-requires-clause-hyps
assumption-made-requires-clause-hyps c =
    let l = c.self.inside in
    let found = subst (λ (is : List ℕ). AreEach (IsAt is) c.args.hyps.now c.in_ok-hyps.hyps.items)
    c.deref-2.ensures.value c.in_ok-hyps.ensures in
    subst (All (HasTerm l.nodes)) (sym c.deref-3.ensures.value)
    (terms-held l c.args.self.now c.self.view_is c.self.invariant c.args.hyps.now c.in_ok-hyps.hyps.items found)

pub assumption-made-requires-clause-concl : goal.assumption-made-requires-clause-concl
assumption-made-requires-clause-concl c =
    held-here c.self.inside c.self.invariant c.args.concl c.in_ok-concl.field-0.now
    (at-same _ _ _ _ c.deref.ensures.value c.in_ok-concl.ensures)

pub assumption-made-requires-clause-known : goal.assumption-made-requires-clause-known
assumption-made-requires-clause-known c = c.self.invariant.typings

pub invariant_of-self : goal.invariant_of-self
invariant_of-self c =
    with-typings c.self.inside c.assumption-made.new.nodes c.assumption-made.new.typings.known.entries
    (log-kept c.self.inside c.assumption-made.new.nodes c.assumption-made.ensures.extends c.self.invariant)
    c.assumption-made.ensures.known

pub add_assumed-requires-clause-hyps : goal.add_assumed-requires-clause-hyps
add_assumed-requires-clause-hyps c =
    let l = c.self.inside in
    let us = c.assumption-made.new.nodes in
    let found = subst (λ (is : List ℕ). AreEach (IsAt is) c.args.hyps.now c.in_ok-hyps.hyps.items)
    c.deref-2.ensures.value c.in_ok-hyps.ensures in
    subst (All (HasTerm us)) (sym c.deref-4.ensures.value)
    (still-terms l.nodes us c.assumption-made.ensures.extends c.in_ok-hyps.hyps.items
    (terms-held l c.args.self.now c.self.view_is c.self.invariant c.args.hyps.now c.in_ok-hyps.hyps.items found))

pub add_assumed-requires-clause-concl : goal.add_assumed-requires-clause-concl
add_assumed-requires-clause-concl c =
    let l = c.self.inside in
    still-term l.nodes c.assumption-made.new.nodes c.assumption-made.ensures.extends c.in_ok-concl.field-0.now
    (held-here l c.self.invariant c.args.concl c.in_ok-concl.field-0.now
    (at-same _ _ _ _ c.deref.ensures.value c.in_ok-concl.ensures))

pub add_assumed-requires-clause-gives : goal.add_assumed-requires-clause-gives
add_assumed-requires-clause-gives c =
    let l = c.self.inside in
    let us = c.assumption-made.new.nodes in
    let found = subst (λ (is : List ℕ). AreEach (IsAt is) c.args.hyps.now c.in_ok-hyps.hyps.items)
    c.deref-2.ensures.value c.in_ok-hyps.ensures in
    let held = terms-held l c.args.self.now c.self.view_is c.self.invariant c.args.hyps.now c.in_ok-hyps.hyps.items
    found in
    let one = held-here l c.self.invariant c.args.concl c.in_ok-concl.field-0.now
    (at-same _ _ _ _ c.deref.ensures.value c.in_ok-concl.ensures) in
    let hyps = ap (terms_at l.nodes) c.deref-3.ensures.value
    ∙ sym (terms-stay l.nodes us c.assumption-made.ensures.extends c.in_ok-hyps.hyps.items held)
    ∙ ap (terms_at us) (sym c.deref-4.ensures.value) in
    let concl = sym (term-stays l.nodes us c.assumption-made.ensures.extends c.in_ok-concl.field-0.now one) in
    subst (λ z. Gives c.assumption-made.result z us)
    (λ i. assumption_step names (hyps i) (concl i)) c.assumption-made.ensures.gives

pub returns : goal.returns
returns c = λ p hs h k.
    let l = c.self.inside in
    let us = c.assumption-made.new.nodes in
    let now = c.args.self.now in
    let e = c.assumption-made.ensures.extends in
    let found = subst (λ (is : List ℕ). AreEach (IsAt is) c.args.hyps.now c.in_ok-hyps.hyps.items)
    c.deref-2.ensures.value c.in_ok-hyps.ensures in
    let held = terms-held l now c.self.view_is c.self.invariant c.args.hyps.now c.in_ok-hyps.hyps.items found in
    let one = held-here l c.self.invariant c.args.concl c.in_ok-concl.field-0.now
    (at-same _ _ _ _ c.deref.ensures.value c.in_ok-concl.ensures) in
    let hyps = ap (terms_at us) c.deref-4.ensures.value
    ∙ terms-stay l.nodes us e c.in_ok-hyps.hyps.items held
    ∙ terms-found l now c.self.view_is c.self.invariant c.args.hyps.now c.in_ok-hyps.hyps.items hs found k in
    let concl = term-stays l.nodes us e c.in_ok-concl.field-0.now one
    ∙ term-here l now c.self.view_is c.args.concl c.in_ok-concl.field-0.now
    p (at-same _ _ _ _ c.deref.ensures.value c.in_ok-concl.ensures) h in
    subst (λ z. MadeBy c.add_assumed.result (makes_assumption names (assumption_step names hs p)) z
    c.add_assumed.new.self.state)
    (state-then l us now c.self.view_is e c.self.invariant)
    (subst (λ z. MadeBy c.add_assumed.result (makes_assumption names z) (state_of us (held_of l))
    c.add_assumed.new.self.state)
    (λ i. assumption_step names (hyps i) (concl i)) c.add_assumed.ensures)
