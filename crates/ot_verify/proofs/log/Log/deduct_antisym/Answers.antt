use Rattle.ot_logic.specs.Naming.{names}
use Rattle.ot_laws.proofs.Tests.{tells_names}
use Rattle.ot_log_format.specs.Steps.{deduct_antisym_step}
use Rattle.ot_log_format.proofs.StepSound.{deduct_antisym-sound}
use Rattle.ot_verify.proofs.Logging.{at-same, log-kept, no-sequent, statement-here}
use Rattle.ot_verify.proofs.Stepping.{sequents-follow, sequents-stepped}
use Rattle.ot_verify.proofs.log.Log.deduct_antisym.Goals as goal

pub returns-in_err-a : goal.returns-in_err-a
returns-in_err-a c =
    λ x y h k. absurd (no-sequent c.self.inside c.args.self.now c.self.view_is
    c.args.left x (at-same _ _ _ _ c.deref.ensures.value c.in_err-a.ensures.1) h)

pub returns-in_err-b : goal.returns-in_err-b
returns-in_err-b c =
    λ x y h k. absurd (no-sequent c.self.inside c.args.self.now c.self.view_is
    c.args.right y (at-same _ _ _ _ c.deref-2.ensures.value c.in_err-b.ensures.1) k)

pub deduct_antisym-made-requires-clause-a : goal.deduct_antisym-made-requires-clause-a
deduct_antisym-made-requires-clause-a c =
    statement-here c.self.inside c.self.invariant c.args.left c.in_ok-a.a.now
    (at-same _ _ _ _ c.deref.ensures.value c.in_ok-a.ensures)

pub deduct_antisym-made-requires-clause-b : goal.deduct_antisym-made-requires-clause-b
deduct_antisym-made-requires-clause-b c =
    statement-here c.self.inside c.self.invariant c.args.right c.in_ok-b.b.now
    (at-same _ _ _ _ c.deref-2.ensures.value c.in_ok-b.ensures)

pub invariant_of-self : goal.invariant_of-self
invariant_of-self c =
    log-kept c.self.inside c.deduct_antisym-made.new.nodes c.deduct_antisym-made.ensures.extends c.self.invariant

pub add_sequent-requires : goal.add_sequent-requires
add_sequent-requires c =
    sequents-follow c.self.inside c.args.self.now c.self.view_is c.self.invariant c.deduct_antisym-made.new.nodes
    c.deduct_antisym-made.ensures.extends c.deduct_antisym-made.result (deduct_antisym_step names)
    c.args.left c.args.right c.in_ok-a.a.now c.in_ok-b.b.now
    (at-same _ _ _ _ c.deref.ensures.value c.in_ok-a.ensures)
    (at-same _ _ _ _ c.deref-2.ensures.value c.in_ok-b.ensures) c.deduct_antisym-made.ensures.gives
    (deduct_antisym-sound names tells_names)

pub returns : goal.returns
returns c = λ x y h k.
    sequents-stepped c.self.inside c.args.self.now c.self.view_is c.self.invariant c.deduct_antisym-made.new.nodes
    c.deduct_antisym-made.ensures.extends c.deduct_antisym-made.result (deduct_antisym_step names)
    c.args.left c.args.right c.in_ok-a.a.now c.in_ok-b.b.now
    (at-same _ _ _ _ c.deref.ensures.value c.in_ok-a.ensures)
    (at-same _ _ _ _ c.deref-2.ensures.value c.in_ok-b.ensures) c.deduct_antisym-made.ensures.gives
    x y h k c.add_sequent.result c.add_sequent.new.self c.add_sequent.ensures
