use Rattle.std.proofs.Common.{◌≡◌, Result, Err, refl, ap, arith}
use Rattle.ot_subst.proofs.Faults.{nesting-from}
use Rattle.ot_subst.specs.declared.fault.SubstFault.{SubstFault}
use Rattle.ot_subst.specs.declared.fault.SubstFault.TheVariants.{NotRedex, Nesting}
use Rattle.ot_subst.proofs.Growing.{IsLater-refl}
use Rattle.ot_subst.proofs.Redex.{one_pair, not-app, one_step, not-abs, two_steps}
use Rattle.ot_subst.proofs.Redex.{is_redex, same-redex, redex-subst, redex-steps}
use Rattle.ot_subst.proofs.applying.beta.Goals as goal
use Rattle.ot_logic.proofs.Results.{same_Err}

differ : {X : Type 0} → ◌≡◌ {A = Result X SubstFault} (Err NotRedex) (Err Nesting) → ⊥
differ e = cc

pub returns-in_default : goal.returns-in_default
returns-in_default g c = record {
  ok = tt;
  not_redex = λ _. not-app (g.N.Nodes.table c.args.terms.now) c.take.ensures.table c.args.t c.requires.inside
      c.take.result c.take.ensures.tree c.in_default.not-App;
  nesting = λ e. absurd (differ e);
  steps = λ _. one_step (g.N.Nodes.table c.args.terms.now) c.take.ensures.table c.args.t c.requires.inside
      c.args.steps.now c.take.new.steps (omega (arith, c.take.ensures.counted));
  later = IsLater-refl _ _ c.requires.below c.take.ensures.table;
  name_table = c.count-count.ensures.table;
}

pub returns-in_default-take : goal.returns-in_default-take
returns-in_default-take g c = record {
  ok = tt;
  not_redex = λ _. not-abs (g.N.Nodes.table c.args.terms.now) c.take.ensures.table c.args.t c.requires.inside
      c.in-App.f c.in-App.x c.in-App.ensures.below.0 c.in-App.ensures.tree c.take-2.result c.take-2.ensures.tree
      c.in_default-take.not-Abs;
  nesting = λ e. absurd (differ e);
  steps = λ _. two_steps (g.N.Nodes.table c.args.terms.now) c.take.ensures.table c.args.t c.requires.inside c.in-App.f
      c.in-App.x c.in-App.ensures.below.0 c.in-App.ensures.tree c.args.steps.now c.take-2.new.steps
      (omega (arith, c.take.ensures.counted, c.take-2.ensures.counted));
  later = IsLater-refl _ _ c.requires.below c.take.ensures.table;
  name_table = c.count-count.ensures.table;
}

pub returns-then-is_var-clause-ok : goal.returns-then-is_var-clause-ok
returns-then-is_var-clause-ok g c = (
  _,
  same-redex (g.N.Nodes.table c.args.terms.now) c.take.ensures.table c.args.t c.requires.inside c.in-App.f
      c.in-App.x c.in-App.ensures.below.0 c.in-App.ensures.tree c.in-Abs.v c.in-Abs.body
      (omega (arith, c.in-App.ensures.below.1, c.requires.inside)) c.in-Abs.ensures.below.0 c.in-Abs.ensures.below.1
      c.in-Abs.ensures.tree (c.is_var.ensures.0 c.if-is_var.true),
  record {
    within = omega (arith, c.in-Abs.ensures.below.1, c.in-App.ensures.below.0, c.requires.inside);
    form = refl;
  },
)

pub returns-then-is_var-clause-steps : goal.returns-then-is_var-clause-steps
returns-then-is_var-clause-steps g c h = two_steps (g.N.Nodes.table c.args.terms.now) c.take.ensures.table c.args.t
    c.requires.inside c.in-App.f c.in-App.x c.in-App.ensures.below.0 c.in-App.ensures.tree c.args.steps.now
    c.take-2.new.steps (omega (arith, c.take.ensures.counted, c.take-2.ensures.counted))

pub returns-in_err-insert-clause-steps : goal.returns-in_err-insert-clause-steps
returns-in_err-insert-clause-steps g c h = two_steps (g.N.Nodes.table c.args.terms.now) c.take.ensures.table c.args.t
    c.requires.inside c.in-App.f c.in-App.x c.in-App.ensures.below.0 c.in-App.ensures.tree c.args.steps.now
    c.take-2.new.steps (omega (arith, c.take.ensures.counted, c.take-2.ensures.counted))

pub substitute-requires-clause-subst : goal.substitute-requires-clause-subst
substitute-requires-clause-subst g c = redex-subst (g.N.Nodes.table c.args.terms.now) c.take.ensures.table c.args.t
    c.requires.inside c.in-App.f c.in-App.x c.in-App.ensures.below.0 c.in-App.ensures.tree c.in-Abs.v c.in-Abs.body
    (omega (arith, c.in-App.ensures.below.1, c.requires.inside)) c.in-Abs.ensures.below.0 c.in-Abs.ensures.below.1
    c.in-Abs.ensures.tree c.insert.new.self
    (one_pair c.insert.new.self c.new-s.result c.new.result c.in-Abs.v c.in-App.x c.in_ok-insert.ensures.ok
    c.new-s.ensures.pairs c.new.ensures)

pub returns-in_err-substitute-clause-nesting : goal.returns-in_err-substitute-clause-nesting
returns-in_err-substitute-clause-nesting g c p = (
  _,
  is_redex (g.N.Nodes.table c.args.terms.now) c.take.ensures.table c.args.t c.requires.inside c.in-App.f
      c.in-App.x c.in-App.ensures.below.0 c.in-App.ensures.tree c.in-Abs.v c.in-Abs.body
      (omega (arith, c.in-App.ensures.below.1, c.requires.inside)) c.in-Abs.ensures.below.0 c.in-Abs.ensures.below.1
      c.in-Abs.ensures.tree c.insert.new.self
      (one_pair c.insert.new.self c.new-s.result c.new.result c.in-Abs.v c.in-App.x c.in_ok-insert.ensures.ok
      c.new-s.ensures.pairs c.new.ensures),
  c.in_err-substitute.ensures.nesting
      (ap Err (nesting-from c.in_err-substitute.field-0.0
      (same_Err c.from_residual-in_err-substitute.result _ _ c.from_residual-in_err-substitute.ensures.1 p))),
)

pub returns-in_err-substitute-clause-steps : goal.returns-in_err-substitute-clause-steps
returns-in_err-substitute-clause-steps g c h =
    redex-steps (g.N.Nodes.table c.args.terms.now) c.take.ensures.table c.args.t c.requires.inside c.in-App.f
    c.in-App.x c.in-App.ensures.below.0 c.in-App.ensures.tree c.in-Abs.v c.in-Abs.body
    (omega (arith, c.in-App.ensures.below.1, c.requires.inside)) c.in-Abs.ensures.below.0 c.in-Abs.ensures.below.1
    c.in-Abs.ensures.tree c.insert.new.self c.args.steps.now c.take-2.new.steps c.substitute.new.steps
    (one_pair c.insert.new.self c.new-s.result c.new.result c.in-Abs.v c.in-App.x c.in_ok-insert.ensures.ok
    c.new-s.ensures.pairs c.new.ensures) (omega (arith, c.take.ensures.counted, c.take-2.ensures.counted))
    c.in_err-substitute.ensures.counted h

pub returns-clause-ok : goal.returns-clause-ok
returns-clause-ok g c = (
  _,
  is_redex (g.N.Nodes.table c.args.terms.now) c.take.ensures.table c.args.t c.requires.inside c.in-App.f
      c.in-App.x c.in-App.ensures.below.0 c.in-App.ensures.tree c.in-Abs.v c.in-Abs.body
      (omega (arith, c.in-App.ensures.below.1, c.requires.inside)) c.in-Abs.ensures.below.0 c.in-Abs.ensures.below.1
      c.in-Abs.ensures.tree c.insert.new.self
      (one_pair c.insert.new.self c.new-s.result c.new.result c.in-Abs.v c.in-App.x c.in_ok-insert.ensures.ok
      c.new-s.ensures.pairs c.new.ensures),
  c.in_ok-substitute.ensures.ok,
)

pub returns-clause-steps : goal.returns-clause-steps
returns-clause-steps g c h = redex-steps (g.N.Nodes.table c.args.terms.now) c.take.ensures.table c.args.t
    c.requires.inside c.in-App.f c.in-App.x c.in-App.ensures.below.0 c.in-App.ensures.tree c.in-Abs.v c.in-Abs.body
    (omega (arith, c.in-App.ensures.below.1, c.requires.inside)) c.in-Abs.ensures.below.0 c.in-Abs.ensures.below.1
    c.in-Abs.ensures.tree c.insert.new.self c.args.steps.now c.take-2.new.steps c.substitute.new.steps
    (one_pair c.insert.new.self c.new-s.result c.new.result c.in-Abs.v c.in-App.x c.in_ok-insert.ensures.ok
    c.new-s.ensures.pairs c.new.ensures) (omega (arith, c.take.ensures.counted, c.take-2.ensures.counted))
    c.in_ok-substitute.ensures.counted h
