use Rattle.std.specs.Prelude.{◌≡◌, Ok}
use Rattle.std.proofs.Common.{rules, ◌∷◌, [], sym, subst, ◌∙◌, arith}
use Rattle.ot_kernel.specs.State.{name_at, theorem_at}
use Rattle.ot_machine.specs.Objects.{theorem}
use Rattle.ot_machine.specs.Answers.{Refuses}
use Rattle.ot_machine.specs.Defining.{open_defined, stated, AreOperandsIn}
use Rattle.ot_machine.specs.OpenTypes.{first_origin, second_origin}
use Rattle.ot_machine.specs.Rows.{type_defining}
use Rattle.ot_machine.specs.Meaning.{article_of, origin_of, run_of}
use Rattle.ot_machine.specs.Stays.{Stays}
use Rattle.ot_machine.proofs.Kept.{origin-kept, grows-on}
use Rattle.ot_machine.proofs.Refusals.{refused}
use Rattle.ot_machine.proofs.Stated.{on-err, defining-is, operator-of}
use Rattle.ot_machine.proofs.Staying.{traces-stay, stays-on, stays-adds, adds-on}
use Rattle.ot_machine.proofs.OpenAccepted.{operands-later, stated-same, origin-same}
use Rattle.ot_machine.proofs.session.Session.open_type_definition.Goals as goal
use Rattle.ot_machine.proofs.session.Session.open_type_definition.Goals.{In_ok-steps, In_ok-abs_rep_step}

-- ---- the steps before the definition is accepted
stays : (c : In_ok-abs_rep_step) → Stays c.args.self.now c.open_steps.new.self
stays c = stays-on (traces-stay c.in_ok-steps.ensures.kept) c.in_ok-abs_rep_step.ensures.kept

operands : (c : In_ok-steps)
    → AreOperandsIn c.type_defining.new.self.kernel c.args.name c.args.abs c.args.rep c.args.variables.now
    c.args.premise
operands c = subst (λ k. AreOperandsIn k c.args.name c.args.abs c.args.rep c.args.variables.now c.args.premise)
    (sym c.in_ok-steps.ensures.kept.kernel) c.requires.operands

later : (c : In_ok-abs_rep_step) → origin_of c.open_steps.new.self c.in_ok-steps.steps.definition
    ≡ origin_of c.type_defining.new.self c.in_ok-steps.steps.definition
later c = origin-kept _ _ c.in_ok-steps.ensures.kept.is_run c.in_ok-abs_rep_step.ensures.kept.grown
    c.in_ok-steps.steps.definition c.in_ok-steps.ensures.made.definition_step

-- what is stated over them is what was stated at the start
same : (c : In_ok-abs_rep_step) → (let s = c.args.self.now in
    let t = c.open_steps.new.self in
    let a = c.args in
    stated open_defined t.kernel a.name a.abs a.rep a.variables.now a.premise
    (origin_of t c.in_ok-steps.steps.definition)
    (run_of t)
    ≡ stated open_defined s.kernel a.name a.abs a.rep a.variables.now a.premise
    (type_defining (name_at s.kernel a.name) (name_at s.kernel a.abs) (name_at s.kernel a.rep)
    (article_of s c.args.machine.now).stack) (run_of s))
same c =
    let s = c.args.self.now in
    let origin = later c ∙ defining-is _ _ _ _ _ _ _ c.in_ok-steps.steps c.in_ok-steps.ensures.made
    (article_of s c.args.machine.now).stack c.requires.list_origin c.requires.premise_origin in
    stated-same s c.open_steps.new.self (stays c).grown _ _ _ _ _ c.requires.operands open_defined _ _ origin
    (c.in_ok-abs_rep_step.ensures.kept.run ∙ c.in_ok-steps.ensures.kept.run)

-- ---- the theorems
pub returns-in_err-abs_rep-clause-made : goal.returns-in_err-abs_rep-clause-made
returns-in_err-abs_rep-clause-made c =
    let there = same (goal.at.returns-in_err-abs_rep-clause-made c).In_ok-abs_rep_step in
    let k = c.accept_open_type.new.self.kernel in
    refused k _ _ c.in_err-abs_rep.field-0.0 _ (search rules)
    (subst (Refuses k c.in_err-abs_rep.field-0.0) there c.in_err-abs_rep.ensures.made)

pub returns-clause-made : goal.returns-clause-made
returns-clause-made c =
    let at = (goal.at.returns-clause-made c).In_ok-abs_rep_step in
    let t = c.accept_open_type.new.self in
    let steps = c.in_ok-abs_rep_step.ensures in
    let origin = origin-same c.type_defining.new.self c.open_steps.new.self steps.kept.grown _ _ _ _ _
    (operands (goal.at.returns-clause-made c).In_ok-steps) in
    let kept = origin-kept c.open_steps.new.self t steps.kept.is_run c.in_ok-abs_rep.ensures.adds.grown in
    let first = kept c.in_ok-abs_rep_step.abs_rep_step steps.first_step ∙ steps.first
    ∙ sym (origin first_origin _ _ (later at)) in
    let second = kept c.in_ok-abs_rep_step.rep_abs_step steps.second_step ∙ steps.second
    ∙ sym (origin second_origin _ _ (later at)) in
    sym (same at) ∙ c.in_ok-abs_rep.ensures.made
    ∙ (λ i. Ok (
      record { object = theorem (theorem_at t.kernel c.in_ok-abs_rep.abs_rep); origin = sym first i }
          ∷ record { object = theorem (theorem_at t.kernel c.in_ok-abs_rep.rep_abs); origin = sym second i }
          ∷ [],
      run_of t,
    ))

pub returns-clause-operator : goal.returns-clause-operator
returns-clause-operator c =
    let there = c.in_ok-abs_rep.ensures in
    let steps = c.in_ok-abs_rep_step.ensures in
    operator-of _ _ _ _ _ _ _ c.in_ok-steps.steps c.in_ok-steps.ensures.made _ _ _ _ _
    c.in_ok-steps.ensures.kept.is_run (grows-on steps.kept.grown there.adds.grown) there.first
    (omega (arith, steps.first_step, there.adds.grown.trace.longer)) there.second
    (omega (arith, steps.second_step, there.adds.grown.trace.longer))

-- ---- what the calls ask
pub open_steps-requires-clause-operands : goal.open_steps-requires-clause-operands
open_steps-requires-clause-operands c = operands (goal.at.open_steps-requires-clause-operands c).In_ok-steps

pub accept_open_type-requires-clause-operands : goal.accept_open_type-requires-clause-operands
accept_open_type-requires-clause-operands c =
    operands-later _ _ (stays (goal.at.accept_open_type-requires-clause-operands c).In_ok-abs_rep_step).grown _ _ _ _
    _ c.requires.operands

-- ---- the session of each answer
pub returns-in_err-steps-clause-adds : goal.returns-in_err-steps-clause-adds
returns-in_err-steps-clause-adds c = stays-adds _ (traces-stay c.in_err-steps.ensures.kept)

pub returns-in_err-abs_rep_step-clause-adds : goal.returns-in_err-abs_rep_step-clause-adds
returns-in_err-abs_rep_step-clause-adds c =
    stays-adds _ (stays-on (traces-stay c.in_ok-steps.ensures.kept) c.in_err-abs_rep_step.ensures.kept)

pub returns-in_err-abs_rep-clause-adds : goal.returns-in_err-abs_rep-clause-adds
returns-in_err-abs_rep-clause-adds c =
    adds-on _ _ (stays (goal.at.returns-in_err-abs_rep-clause-adds c).In_ok-abs_rep_step) (on-err _)
    c.in_err-abs_rep.ensures.adds

pub returns-clause-adds : goal.returns-clause-adds
returns-clause-adds c = adds-on _ _ (stays (goal.at.returns-clause-adds c).In_ok-abs_rep_step) (λ e. tt)
    c.in_ok-abs_rep.ensures.adds
