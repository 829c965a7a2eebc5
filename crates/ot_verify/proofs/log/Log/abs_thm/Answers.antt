use Rattle.std.proofs.Common.{ℕ, List, sym, subst}
use Rattle.ot_logic.specs.Naming.{names}
use Rattle.ot_laws.proofs.Tests.{tells_names}
use Rattle.ot_log_format.specs.Steps.{abs_thm_step}
use Rattle.ot_log_format.proofs.StepSound.{abs_thm-sound}
use Rattle.ot_log_nodes.specs.Changing.{variable_at}
use Rattle.ot_log_rules.specs.Statements.{sequent_at}
use Rattle.ot_verify.specs.Finding.{IsFoundVariable}
use Rattle.ot_verify.specs.Held.{view_of}
use Rattle.ot_verify.proofs.Found.{variable-found, variable-there, variable-held}
use Rattle.ot_verify.proofs.Logging.{at-same, held_of, log-kept, sequent-here, no-sequent}
use Rattle.ot_verify.proofs.Logging.{supported, theorem-here, statement-here}
use Rattle.ot_verify.proofs.Stepping.{stepped}
use Rattle.ot_verify.proofs.log.Log.abs_thm.Goals as goal

pub returns-in_default : goal.returns-in_default
returns-in_default c = λ w a h k.
    let l = c.self.inside in
    let (v, g) = variable-there l c.args.self.now c.self.view_is c.self.invariant c.args.v w h in
    absurd (c.in_default.ensures v
    (subst (λ (is : List ℕ). IsFoundVariable l.nodes is c.args.v v) (sym c.deref.ensures.value) g))

pub returns-in_err-a : goal.returns-in_err-a
returns-in_err-a c =
    λ w a h k. absurd (no-sequent c.self.inside c.args.self.now c.self.view_is
    c.args.equation a (at-same _ _ _ _ c.deref-2.ensures.value c.in_err-a.ensures.1) k)

pub abs_thm-made-requires-clause-v : goal.abs_thm-made-requires-clause-v
abs_thm-made-requires-clause-v c =
    let l = c.self.inside in
    variable-held l c.args.self.now c.self.view_is c.self.invariant c.args.v c.in-Some.v
    (subst (λ (is : List ℕ). IsFoundVariable l.nodes is c.args.v c.in-Some.v) c.deref.ensures.value c.in-Some.ensures)

pub abs_thm-made-requires-clause-a : goal.abs_thm-made-requires-clause-a
abs_thm-made-requires-clause-a c =
    statement-here c.self.inside c.self.invariant c.args.equation
    c.in_ok-a.a.now (at-same _ _ _ _ c.deref-2.ensures.value c.in_ok-a.ensures)

pub invariant_of-self : goal.invariant_of-self
invariant_of-self c = log-kept c.self.inside c.abs_thm-made.new.nodes c.abs_thm-made.ensures.extends c.self.invariant

pub add_sequent-requires : goal.add_sequent-requires
add_sequent-requires c =
    let l = c.self.inside in
    let us = c.abs_thm-made.new.nodes in
    let mid = view_of us (held_of l) in
    let v = variable_at l.nodes c.in-Some.v in
    let a = sequent_at l.nodes c.in_ok-a.a.now in
    let first = theorem-here l us c.abs_thm-made.ensures.extends c.self.invariant c.args.equation
    c.in_ok-a.a.now (at-same _ _ _ _ c.deref-2.ensures.value c.in_ok-a.ensures) in
    supported c.abs_thm-made.result (abs_thm_step names v a) mid c.abs_thm-made.ensures.gives
    (λ q h. abs_thm-sound names tells_names mid.state.assumptions mid.state.definitions v a q first h)

pub returns : goal.returns
returns c = λ w s h k.
    let l = c.self.inside in
    let g = subst (λ (is : List ℕ). IsFoundVariable l.nodes is c.args.v c.in-Some.v) c.deref.ensures.value
    c.in-Some.ensures in
    let variable = variable-found l c.args.self.now c.self.view_is c.self.invariant c.args.v c.in-Some.v w g h in
    let sequent = sequent-here l c.args.self.now c.self.view_is c.args.equation
    c.in_ok-a.a.now s (at-same _ _ _ _ c.deref-2.ensures.value c.in_ok-a.ensures) k in
    stepped l c.args.self.now c.self.view_is c.self.invariant c.abs_thm-made.new.nodes
    c.abs_thm-made.ensures.extends c.abs_thm-made.result
    (abs_thm_step names (variable_at l.nodes c.in-Some.v) (sequent_at l.nodes c.in_ok-a.a.now))
    (abs_thm_step names w s) (λ i. abs_thm_step names (variable i) (sequent i)) c.abs_thm-made.ensures.gives
    c.add_sequent.result c.add_sequent.new.self c.add_sequent.ensures
