use Rattle.ot_logic.specs.Naming.{names}
use Rattle.ot_laws.proofs.Tests.{tells_names}
use Rattle.ot_log_format.specs.Steps.{beta_step}
use Rattle.ot_log_format.proofs.StepSound.{beta-sound}
use Rattle.ot_verify.proofs.Logging.{at-same, log-kept, with-typings, held-here, no-term}
use Rattle.ot_verify.proofs.Stepping.{term-follows, term-stepped}
use Rattle.ot_verify.proofs.log.Log.beta_conv.Goals as goal

pub returns-in_err-term : goal.returns-in_err-term
returns-in_err-term c =
    λ t h. absurd (no-term c.self.inside c.args.self.now c.self.view_is c.args.term
    t (at-same _ _ _ _ c.deref.ensures.value c.in_err-term.ensures.1) h)

pub beta_conv-made-requires-clause-t : goal.beta_conv-made-requires-clause-t
beta_conv-made-requires-clause-t c =
    held-here c.self.inside c.self.invariant c.args.term c.in_ok-term.field-0.now
    (at-same _ _ _ _ c.deref.ensures.value c.in_ok-term.ensures)

pub beta_conv-made-requires-clause-known : goal.beta_conv-made-requires-clause-known
beta_conv-made-requires-clause-known c = c.self.invariant.typings

pub invariant_of-self : goal.invariant_of-self
invariant_of-self c =
    with-typings c.self.inside c.beta_conv-made.new.nodes c.beta_conv-made.new.typings.known.entries
    (log-kept c.self.inside c.beta_conv-made.new.nodes c.beta_conv-made.ensures.extends c.self.invariant)
    c.beta_conv-made.ensures.known

pub add_sequent-requires : goal.add_sequent-requires
add_sequent-requires c =
    term-follows c.self.inside c.args.self.now c.self.view_is c.self.invariant c.beta_conv-made.new.nodes
    c.beta_conv-made.ensures.extends c.beta_conv-made.result (beta_step names) c.args.term c.in_ok-term.field-0.now
    (at-same _ _ _ _ c.deref.ensures.value c.in_ok-term.ensures) c.beta_conv-made.ensures.gives
    (beta-sound names tells_names)

pub returns : goal.returns
returns c = λ t h.
    term-stepped c.self.inside c.args.self.now c.self.view_is c.self.invariant c.beta_conv-made.new.nodes
    c.beta_conv-made.ensures.extends c.beta_conv-made.result (beta_step names) c.args.term c.in_ok-term.field-0.now
    (at-same _ _ _ _ c.deref.ensures.value c.in_ok-term.ensures) c.beta_conv-made.ensures.gives
    t h c.add_sequent.result c.add_sequent.new.self c.add_sequent.ensures
