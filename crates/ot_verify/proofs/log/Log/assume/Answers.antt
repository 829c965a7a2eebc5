use Rattle.ot_logic.specs.Naming.{names}
use Rattle.ot_laws.proofs.Tests.{tells_names}
use Rattle.ot_log_format.specs.Steps.{assume_step}
use Rattle.ot_log_format.proofs.StepSound.{assume-sound}
use Rattle.ot_verify.proofs.Logging.{at-same, log-kept, with-typings, held-here, no-term}
use Rattle.ot_verify.proofs.Stepping.{term-follows, term-stepped}
use Rattle.ot_verify.proofs.log.Log.assume.Goals as goal

pub returns-in_err-term : goal.returns-in_err-term
returns-in_err-term c =
    λ t h. absurd (no-term c.self.inside c.args.self.now c.self.view_is c.args.term
    t (at-same _ _ _ _ c.deref.ensures.value c.in_err-term.ensures.1) h)

pub assume-made-requires-clause-p : goal.assume-made-requires-clause-p
assume-made-requires-clause-p c =
    held-here c.self.inside c.self.invariant c.args.term c.in_ok-term.field-0.now
    (at-same _ _ _ _ c.deref.ensures.value c.in_ok-term.ensures)

pub assume-made-requires-clause-known : goal.assume-made-requires-clause-known
assume-made-requires-clause-known c = c.self.invariant.typings

pub invariant_of-self : goal.invariant_of-self
invariant_of-self c =
    with-typings c.self.inside c.assume-made.new.nodes c.assume-made.new.typings.known.entries
    (log-kept c.self.inside c.assume-made.new.nodes c.assume-made.ensures.extends c.self.invariant)
    c.assume-made.ensures.known

pub add_sequent-requires : goal.add_sequent-requires
add_sequent-requires c =
    term-follows c.self.inside c.args.self.now c.self.view_is c.self.invariant c.assume-made.new.nodes
    c.assume-made.ensures.extends c.assume-made.result (assume_step names) c.args.term c.in_ok-term.field-0.now
    (at-same _ _ _ _ c.deref.ensures.value c.in_ok-term.ensures) c.assume-made.ensures.gives
    (assume-sound names tells_names)

pub returns : goal.returns
returns c = λ t h.
    term-stepped c.self.inside c.args.self.now c.self.view_is c.self.invariant c.assume-made.new.nodes
    c.assume-made.ensures.extends c.assume-made.result (assume_step names) c.args.term c.in_ok-term.field-0.now
    (at-same _ _ _ _ c.deref.ensures.value c.in_ok-term.ensures) c.assume-made.ensures.gives
    t h c.add_sequent.result c.add_sequent.new.self c.add_sequent.ensures
