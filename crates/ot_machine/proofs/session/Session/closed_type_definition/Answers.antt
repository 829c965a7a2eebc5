use Rattle.std.specs.Prelude.{◌≡◌, Ok}
use Rattle.std.proofs.Common.{rules, ◌∷◌, [], ap, sym, subst, ◌∙◌, arith}
use Rattle.ot_kernel.specs.State.{name_at, theorem_at}
use Rattle.ot_trace.specs.Origins.{Outcome}
use Rattle.ot_machine.specs.Objects.{theorem}
use Rattle.ot_machine.specs.Answers.{Refuses}
use Rattle.ot_machine.specs.Defining.{closed_defined, stated, AreOperandsIn}
use Rattle.ot_machine.specs.Rows.{type_defining}
use Rattle.ot_machine.specs.Meaning.{article_of, origin_of, run_of, Grows, Traces}
use Rattle.ot_machine.proofs.Kept.{origin-kept, traces-grow, grows-on}
use Rattle.ot_machine.proofs.Refusals.{refused}
use Rattle.ot_machine.proofs.Stated.{on-err, type-same, defining-is, operator-of}
use Rattle.ot_machine.proofs.Staying.{traces-stay, stays-adds, adds-on}
use Rattle.ot_machine.proofs.Traced.{traces-on, traced-origin}
use Rattle.ot_machine.proofs.session.Session.closed_type_definition.Goals as goal
use Rattle.ot_machine.proofs.session.Session.closed_type_definition.Goals.{In_ok-abs_rep_step}
use Rattle.ot_machine.proofs.session.Session.closed_type_definition.Goals.{In_ok-rep_abs_step, In_ok-abs_rep}

-- ---- the steps before the definition is accepted
traced_first : (c : In_ok-abs_rep_step) → Traces c.args.self.now c.outcome_step.new.self
traced_first c = traces-on _ _ _ c.in_ok-steps.ensures.kept c.in_ok-abs_rep_step.ensures.kept

traced : (c : In_ok-rep_abs_step) → Traces c.args.self.now c.outcome_step-2.new.self
traced c = traces-on _ _ _ (traced_first (goal.at.In_ok-rep_abs_step c).In_ok-abs_rep_step)
    c.in_ok-rep_abs_step.ensures.kept

later : (c : In_ok-rep_abs_step) → origin_of c.outcome_step-2.new.self c.in_ok-steps.steps.definition
    ≡ origin_of c.type_defining.new.self c.in_ok-steps.steps.definition
later c = traced-origin _ _ c.in_ok-steps.ensures.kept.is_run
    (traces-on _ _ _ c.in_ok-abs_rep_step.ensures.kept c.in_ok-rep_abs_step.ensures.kept)
    c.in_ok-steps.steps.definition c.in_ok-steps.ensures.made.definition_step

-- what is stated over them is what was stated at the start
same : (c : In_ok-rep_abs_step) → (let s = c.args.self.now in
    let t = c.outcome_step-2.new.self in
    let a = c.args in
    stated closed_defined t.kernel a.name a.abs a.rep a.variables.now a.premise
    (origin_of t c.in_ok-steps.steps.definition)
    (run_of t)
    ≡ stated closed_defined s.kernel a.name a.abs a.rep a.variables.now a.premise
    (type_defining (name_at s.kernel a.name) (name_at s.kernel a.abs) (name_at s.kernel a.rep)
    (article_of s c.args.machine.now).stack) (run_of s))
same c =
    let s = c.args.self.now in
    let t = c.outcome_step-2.new.self in
    let origin = later c ∙ defining-is _ _ _ _ _ _ _ c.in_ok-steps.steps c.in_ok-steps.ensures.made
    (article_of s c.args.machine.now).stack c.requires.list_origin c.requires.premise_origin in
    type-same t.kernel s.kernel _ _ (run_of t) (run_of s) (traced c).kernel origin (traced c).run closed_defined
    c.args.name c.args.abs c.args.rep c.args.variables.now c.args.premise

-- ---- what each step grew by until the end
from_first : (c : In_ok-abs_rep) → Grows c.outcome_step.new.self c.accept_type.new.self
from_first c = grows-on (traces-grow _ _ c.in_ok-rep_abs_step.ensures.kept) c.in_ok-abs_rep.ensures.adds.grown

-- ---- the theorems
pub returns-in_err-abs_rep-clause-made : goal.returns-in_err-abs_rep-clause-made
returns-in_err-abs_rep-clause-made c =
    let there = same (goal.at.returns-in_err-abs_rep-clause-made c).In_ok-rep_abs_step in
    let k = c.accept_type.new.self.kernel in
    refused k _ _ c.in_err-abs_rep.field-0.0 _ (search rules)
    (subst (Refuses k c.in_err-abs_rep.field-0.0) there c.in_err-abs_rep.ensures.made)

pub returns-clause-made : goal.returns-clause-made
returns-clause-made c =
    let at = goal.at.returns-clause-made c in
    let t = c.accept_type.new.self in
    let one = c.in_ok-steps.ensures in
    let two = c.in_ok-abs_rep_step.ensures in
    let three = c.in_ok-rep_abs_step.ensures in
    let there = later at.In_ok-rep_abs_step in
    let first = origin-kept _ t two.kept.is_run (from_first at.In_ok-abs_rep) c.in_ok-abs_rep_step.abs_rep_step
    two.inside ∙ two.made ∙ ap (Outcome 1) (sym there) in
    let second =
    origin-kept _ t three.kept.is_run c.in_ok-abs_rep.ensures.adds.grown c.in_ok-rep_abs_step.rep_abs_step
    three.inside ∙ three.made
    ∙ ap (Outcome 2)
    (traced-origin _ _ one.kept.is_run two.kept c.in_ok-steps.steps.definition one.made.definition_step ∙ sym there) in
    sym (same at.In_ok-rep_abs_step) ∙ c.in_ok-abs_rep.ensures.made
    ∙ (λ i. Ok (
      record { object = theorem (theorem_at t.kernel c.in_ok-abs_rep.abs_rep); origin = sym first i }
          ∷ record { object = theorem (theorem_at t.kernel c.in_ok-abs_rep.rep_abs); origin = sym second i }
          ∷ [],
      run_of t,
    ))

pub returns-clause-operator : goal.returns-clause-operator
returns-clause-operator c =
    let there = c.in_ok-abs_rep.ensures in
    let from2 = from_first (goal.at.returns-clause-operator c).In_ok-abs_rep in
    operator-of _ _ _ _ _ _ _ c.in_ok-steps.steps c.in_ok-steps.ensures.made _ _ _ _ _
    c.in_ok-steps.ensures.kept.is_run (grows-on (traces-grow _ _ c.in_ok-abs_rep_step.ensures.kept) from2)
    there.first
    (omega (arith, c.in_ok-abs_rep_step.ensures.inside, from2.trace.longer)) there.second
    (omega (arith, c.in_ok-rep_abs_step.ensures.inside, there.adds.grown.trace.longer))

-- ---- what the call asks
pub accept_type-requires-clause-operands : goal.accept_type-requires-clause-operands
accept_type-requires-clause-operands c =
    subst (λ k. AreOperandsIn k c.args.name c.args.abs c.args.rep c.args.variables.now c.args.premise)
    (sym (traced (goal.at.accept_type-requires-clause-operands c).In_ok-rep_abs_step).kernel) c.requires.operands

-- ---- the session of each answer
pub returns-in_err-steps-clause-adds : goal.returns-in_err-steps-clause-adds
returns-in_err-steps-clause-adds c = stays-adds _ (traces-stay c.in_err-steps.ensures.kept)

pub returns-in_err-abs_rep_step-clause-adds : goal.returns-in_err-abs_rep_step-clause-adds
returns-in_err-abs_rep_step-clause-adds c =
    stays-adds _ (traces-stay (traces-on _ _ _ c.in_ok-steps.ensures.kept c.in_err-abs_rep_step.ensures.kept))

pub returns-in_err-rep_abs_step-clause-adds : goal.returns-in_err-rep_abs_step-clause-adds
returns-in_err-rep_abs_step-clause-adds c =
    let two = traced_first (goal.at.returns-in_err-rep_abs_step-clause-adds c).In_ok-abs_rep_step in
    stays-adds _ (traces-stay (traces-on _ _ _ two c.in_err-rep_abs_step.ensures.kept))

pub returns-in_err-abs_rep-clause-adds : goal.returns-in_err-abs_rep-clause-adds
returns-in_err-abs_rep-clause-adds c =
    adds-on _ _ (traces-stay (traced (goal.at.returns-in_err-abs_rep-clause-adds c).In_ok-rep_abs_step)) (on-err _)
    c.in_err-abs_rep.ensures.adds

pub returns-clause-adds : goal.returns-clause-adds
returns-clause-adds c =
    adds-on _ _ (traces-stay (traced (goal.at.returns-clause-adds c).In_ok-rep_abs_step)) (λ e. tt)
    c.in_ok-abs_rep.ensures.adds
