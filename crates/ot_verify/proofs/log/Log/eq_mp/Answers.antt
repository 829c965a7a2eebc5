use Rattle.std.proofs.Common.{sym, subst}
use Rattle.ot_logic.specs.Naming.{names}
use Rattle.ot_logic.proofs.TableLemmas.{Extends-refl}
use Rattle.ot_laws.proofs.Tests.{tells_names}
use Rattle.ot_log_format.specs.Steps.{eq_mp_step}
use Rattle.ot_log_format.proofs.StepSound.{eq_mp-sound}
use Rattle.ot_verify.specs.Held.{Supports, AddsSequent}
use Rattle.ot_verify.specs.Logged.{LogView}
use Rattle.ot_verify.proofs.Logging.{at-same, no-sequent, statement-here}
use Rattle.ot_verify.proofs.Stepping.{sequents-follow, sequents-stepped}
use Rattle.ot_verify.proofs.log.Log.eq_mp.Goals as goal

pub returns-in_err-a : goal.returns-in_err-a
returns-in_err-a c =
    λ x y h k. absurd (no-sequent c.self.inside c.args.self.now c.self.view_is
    c.args.equation x (at-same _ _ _ _ c.deref.ensures.value c.in_err-a.ensures.1) h)

pub returns-in_err-b : goal.returns-in_err-b
returns-in_err-b c =
    λ x y h k. absurd (no-sequent c.self.inside c.args.self.now c.self.view_is
    c.args.other y (at-same _ _ _ _ c.deref-2.ensures.value c.in_err-b.ensures.1) k)

pub eq_mp-made-requires-clause-a : goal.eq_mp-made-requires-clause-a
eq_mp-made-requires-clause-a c =
    statement-here c.self.inside c.self.invariant c.args.equation
    c.in_ok-a.a.now (at-same _ _ _ _ c.deref.ensures.value c.in_ok-a.ensures)

pub eq_mp-made-requires-clause-b : goal.eq_mp-made-requires-clause-b
eq_mp-made-requires-clause-b c =
    statement-here c.self.inside c.self.invariant c.args.other c.in_ok-b.b.now
    (at-same _ _ _ _ c.deref-2.ensures.value c.in_ok-b.ensures)

pub add_sequent-requires : goal.add_sequent-requires
add_sequent-requires c =
    subst (λ (v : LogView). Supports v c.eq_mp-made.result) c.self.view_is
    (sequents-follow c.self.inside c.args.self.now c.self.view_is c.self.invariant c.self.inside.nodes
    (Extends-refl c.self.inside.nodes) c.eq_mp-made.result (eq_mp_step names)
    c.args.equation c.args.other c.in_ok-a.a.now c.in_ok-b.b.now
    (at-same _ _ _ _ c.deref.ensures.value c.in_ok-a.ensures)
    (at-same _ _ _ _ c.deref-2.ensures.value c.in_ok-b.ensures) c.eq_mp-made.ensures.gives
    (eq_mp-sound names tells_names))

pub returns : goal.returns
returns c = λ x y h k.
    sequents-stepped c.self.inside c.args.self.now c.self.view_is c.self.invariant c.self.inside.nodes
    (Extends-refl c.self.inside.nodes) c.eq_mp-made.result (eq_mp_step names)
    c.args.equation c.args.other c.in_ok-a.a.now c.in_ok-b.b.now
    (at-same _ _ _ _ c.deref.ensures.value c.in_ok-a.ensures)
    (at-same _ _ _ _ c.deref-2.ensures.value c.in_ok-b.ensures) c.eq_mp-made.ensures.gives
    x y h k c.add_sequent.result c.add_sequent.new.self
    (subst (λ (v : LogView). AddsSequent c.add_sequent.result c.eq_mp-made.result v c.add_sequent.new.self)
    (sym c.self.view_is) c.add_sequent.ensures)
