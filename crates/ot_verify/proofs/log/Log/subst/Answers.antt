use Rattle.std.specs.Prelude.{Err}
use Rattle.std.proofs.Common.{◌∙◌, ℕ, List, sym, ap, subst}
use Rattle.ot_logic.specs.Naming.{names}
use Rattle.ot_laws.proofs.Tests.{tells_names}
use Rattle.ot_log_format.specs.State.{makes_sequent}
use Rattle.ot_log_format.specs.Steps.{subst_step}
use Rattle.ot_log_format.proofs.StepSound.{subst-sound}
use Rattle.ot_log_nodes.specs.Changing.{type_map, term_map, HasTypes, HasTerms}
use Rattle.ot_log_nodes.specs.declared.node.VariableNode.{VariableNode}
use Rattle.ot_log_rules.specs.Statements.{sequent_at}
use Rattle.ot_verify.specs.Asking.{AreEach}
use Rattle.ot_verify.specs.Finding.{FindsEach, IsFoundTypePair, IsFoundTermPair}
use Rattle.ot_verify.specs.Held.{view_of}
use Rattle.ot_verify.proofs.Places.{missed}
use Rattle.ot_verify.proofs.Found.{type_pairs-found, type_pairs-there, type_pairs-held}
use Rattle.ot_verify.proofs.Found.{term_pairs-found, term_pairs-there, term_pairs-held}
use Rattle.ot_verify.proofs.Logging.{at-same, held_of, log-kept, with-typings, sequent-here}
use Rattle.ot_verify.proofs.Logging.{no-sequent, supported, theorem-here, statement-here}
use Rattle.ot_verify.proofs.Stepping.{stepped}
use Rattle.ot_verify.proofs.log.Log.subst.Goals as goal

pub returns-in_err-a : goal.returns-in_err-a
returns-in_err-a c =
    λ a s m h j k. absurd (no-sequent c.self.inside c.args.self.now c.self.view_is
    c.args.sequent a (at-same _ _ _ _ c.deref.ensures.value c.in_err-a.ensures.1) h)

pub returns-in_err-types : goal.returns-in_err-types
returns-in_err-types c = λ a s m h j k.
    let l = c.self.inside in
    missed (IsFoundTypePair l.nodes l.types.items) c.in_err-types.field-0.0 c.args.types.now
    (makes_sequent names (subst_step names s m a)) c.args.self.now.state _
    c.from_residual-in_err-types.result c.from_residual-in_err-types.ensures.1
    (subst (λ (is : List ℕ). FindsEach {Y = ℕ × ℕ} (IsFoundTypePair l.nodes is) (Err c.in_err-types.field-0.0)
    c.args.types.now)
    c.deref-2.ensures.value c.in_err-types.ensures)
    (type_pairs-there l c.args.self.now c.self.view_is c.self.invariant c.args.types.now s j)

pub returns-in_err-terms : goal.returns-in_err-terms
returns-in_err-terms c = λ a s m h j k.
    let l = c.self.inside in
    missed (IsFoundTermPair l.nodes l.types.items l.terms.items) c.in_err-terms.field-0.0
    c.args.terms.now (makes_sequent names (subst_step names s m a)) c.args.self.now.state _
    c.from_residual-in_err-terms.result c.from_residual-in_err-terms.ensures.1
    (subst (λ (is : List ℕ). FindsEach {Y = VariableNode × ℕ}
    (IsFoundTermPair l.nodes is l.terms.items) (Err c.in_err-terms.field-0.0) c.args.terms.now)
    c.deref-3.ensures.value
    (subst (λ (is : List ℕ). FindsEach {Y = VariableNode × ℕ}
    (IsFoundTermPair l.nodes c.deref-3.result.now is) (Err c.in_err-terms.field-0.0) c.args.terms.now)
    c.deref-4.ensures.value c.in_err-terms.ensures))
    (term_pairs-there l c.args.self.now c.self.view_is c.self.invariant c.args.terms.now m k)

pub subst-made-requires-clause-types : goal.subst-made-requires-clause-types
subst-made-requires-clause-types c =
    let l = c.self.inside in
    let found = subst
    (λ (is : List ℕ). AreEach (IsFoundTypePair l.nodes is) c.args.types.now c.in_ok-types.types.items)
    c.deref-2.ensures.value c.in_ok-types.ensures in
    subst (HasTypes l.nodes) (sym c.deref-5.ensures.value)
    (type_pairs-held l c.args.self.now c.self.view_is c.self.invariant c.args.types.now
    c.in_ok-types.types.items found)

pub subst-made-requires-clause-terms : goal.subst-made-requires-clause-terms
subst-made-requires-clause-terms c =
    let l = c.self.inside in
    let found = subst (λ (is : List ℕ). AreEach (IsFoundTermPair l.nodes is l.terms.items)
    c.args.terms.now c.in_ok-terms.terms.items)
    c.deref-3.ensures.value
    (subst (λ (is : List ℕ). AreEach (IsFoundTermPair l.nodes c.deref-3.result.now is)
    c.args.terms.now c.in_ok-terms.terms.items)
    c.deref-4.ensures.value c.in_ok-terms.ensures)
    in
    subst (HasTerms l.nodes) (sym c.deref-6.ensures.value)
    (term_pairs-held l c.args.self.now c.self.view_is c.self.invariant c.args.terms.now
    c.in_ok-terms.terms.items found)

pub subst-made-requires-clause-a : goal.subst-made-requires-clause-a
subst-made-requires-clause-a c =
    statement-here c.self.inside c.self.invariant c.args.sequent
    c.in_ok-a.a.now (at-same _ _ _ _ c.deref.ensures.value c.in_ok-a.ensures)

pub subst-made-requires-clause-known : goal.subst-made-requires-clause-known
subst-made-requires-clause-known c = c.self.invariant.typings

pub invariant_of-self : goal.invariant_of-self
invariant_of-self c =
    with-typings c.self.inside c.subst-made.new.nodes c.subst-made.new.typings.known.entries
    (log-kept c.self.inside c.subst-made.new.nodes c.subst-made.ensures.extends c.self.invariant)
    c.subst-made.ensures.known

pub add_sequent-requires : goal.add_sequent-requires
add_sequent-requires c =
    let l = c.self.inside in
    let us = c.subst-made.new.nodes in
    let mid = view_of us (held_of l) in
    let s = type_map l.nodes c.deref-5.result.now in
    let m = term_map l.nodes c.deref-6.result.now in
    let a = sequent_at l.nodes c.in_ok-a.a.now in
    let first = theorem-here l us c.subst-made.ensures.extends c.self.invariant c.args.sequent
    c.in_ok-a.a.now (at-same _ _ _ _ c.deref.ensures.value c.in_ok-a.ensures) in
    supported c.subst-made.result (subst_step names s m a) mid c.subst-made.ensures.gives
    (λ q h. subst-sound names tells_names mid.state.assumptions mid.state.definitions s m a q first h)

pub returns : goal.returns
returns c = λ a s m h j k.
    let l = c.self.inside in
    let us = c.subst-made.new.nodes in
    let now = c.args.self.now in
    let types = subst
    (λ (is : List ℕ). AreEach (IsFoundTypePair l.nodes is) c.args.types.now c.in_ok-types.types.items)
    c.deref-2.ensures.value c.in_ok-types.ensures in
    let terms = subst (λ (is : List ℕ). AreEach (IsFoundTermPair l.nodes is l.terms.items)
    c.args.terms.now c.in_ok-terms.terms.items)
    c.deref-3.ensures.value
    (subst (λ (is : List ℕ). AreEach (IsFoundTermPair l.nodes c.deref-3.result.now is)
    c.args.terms.now c.in_ok-terms.terms.items)
    c.deref-4.ensures.value c.in_ok-terms.ensures)
    in
    let is_s = ap (type_map l.nodes) c.deref-5.ensures.value
    ∙ type_pairs-found l now c.self.view_is c.self.invariant c.args.types.now c.in_ok-types.types.items s types j in
    let is_m = ap (term_map l.nodes) c.deref-6.ensures.value
    ∙ term_pairs-found l now c.self.view_is c.self.invariant c.args.terms.now c.in_ok-terms.terms.items m
    terms k in
    let is_a = sequent-here l now c.self.view_is c.args.sequent c.in_ok-a.a.now
    a (at-same _ _ _ _ c.deref.ensures.value c.in_ok-a.ensures) h in
    stepped l now c.self.view_is c.self.invariant us c.subst-made.ensures.extends c.subst-made.result
    (subst_step names (type_map l.nodes c.deref-5.result.now) (term_map l.nodes c.deref-6.result.now)
    (sequent_at l.nodes c.in_ok-a.a.now)) (subst_step names s m a)
    (λ i. subst_step names (is_s i) (is_m i) (is_a i)) c.subst-made.ensures.gives
    c.add_sequent.result c.add_sequent.new.self c.add_sequent.ensures
