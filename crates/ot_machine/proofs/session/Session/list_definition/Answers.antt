use Rattle.std.specs.Prelude.{Ok}
use Rattle.std.proofs.Common.{rules, ◌∷◌, [], ap, sym, subst, ◌∙◌}
use Rattle.ot_logic.specs.Naming.{names}
use Rattle.ot_logic.specs.declared.command.Cmd.TheVariants as words
use Rattle.ot_interp.specs.Interpretation.{renamed}
use Rattle.ot_kernel.specs.State.{theorem_at}
use Rattle.ot_trace.specs.Origins.{Define, Outcome, from_list, renamed_pairs}
use Rattle.ot_machine.specs.Objects.{theorem}
use Rattle.ot_machine.specs.Contexts.{context_of}
use Rattle.ot_machine.specs.Answers.{Refuses}
use Rattle.ot_machine.specs.Meaning.{run_of, Traces}
use Rattle.ot_machine.proofs.Kept.{origin-kept}
use Rattle.ot_machine.proofs.Refusals.{refused}
use Rattle.ot_machine.proofs.Stated.{on-err, list-same}
use Rattle.ot_machine.proofs.Traced.{traces-on, traced-origin}
use Rattle.ot_machine.proofs.Staying.{traces-stay, stays-adds, adds-on}
use Rattle.ot_machine.proofs.session.Session.list_definition.Goals as goal
use Rattle.ot_machine.proofs.session.Session.list_definition.Goals.{In_ok-step}

-- ---- the steps before the definition is accepted
traced : (c : In_ok-step) → Traces c.args.self.now c.outcome_step.new.self
traced c = traces-on _ _ _ c.in_ok-definition.ensures.kept c.in_ok-step.ensures.kept

-- ---- the session of each answer
pub returns-in_err-definition-clause-adds : goal.returns-in_err-definition-clause-adds
returns-in_err-definition-clause-adds c = stays-adds _ (traces-stay c.in_err-definition.ensures.kept)

pub returns-in_err-step-clause-adds : goal.returns-in_err-step-clause-adds
returns-in_err-step-clause-adds c =
    stays-adds _ (traces-stay (traces-on _ _ _ c.in_ok-definition.ensures.kept c.in_err-step.ensures.kept))

pub returns-in_err-theorem-clause-adds : goal.returns-in_err-theorem-clause-adds
returns-in_err-theorem-clause-adds c =
    adds-on _ _ (traces-stay (traced (goal.at.returns-in_err-theorem-clause-adds c).In_ok-step)) (on-err _)
    c.in_err-theorem.ensures.adds

pub returns-clause-adds : goal.returns-clause-adds
returns-clause-adds c = adds-on _ _ (traces-stay (traced (goal.at.returns-clause-adds c).In_ok-step)) (λ e. tt)
    c.in_ok-theorem.ensures.adds

-- ---- the theorem
pub returns-in_err-theorem-clause-made : goal.returns-in_err-theorem-clause-made
returns-in_err-theorem-clause-made c =
    let s = c.args.self.now in
    let t1 = c.list_defining.new.self in
    let t2 = c.outcome_step.new.self in
    let t = c.accept_list.new.self in
    let one = c.in_ok-definition.ensures.kept in
    let two = c.in_ok-step.ensures.kept in
    let traced = traces-on s t1 t2 one two in
    let j = c.in_ok-definition.definition in
    let read = renamed_pairs (renamed names (context_of s c.args.context.now).interpretation.constants) in
    let origin = traced-origin t1 t2 one.is_run two j c.in_ok-definition.ensures.inside
    ∙ c.in_ok-definition.ensures.made
    ∙ (λ i. Define words.DefineConstList
    (from_list (read (c.requires.list_origin i) ∷ c.requires.premise_origin i ∷ []))) in
    let same = list-same t2.kernel s.kernel _ _ (run_of t2) (run_of s) traced.kernel origin traced.run
    c.args.constants.now c.args.variables.now c.args.premise in
    refused t.kernel _ _ c.in_err-theorem.field-0.0 _ (search rules)
    (subst (Refuses t.kernel c.in_err-theorem.field-0.0) same c.in_err-theorem.ensures.made)

pub returns-clause-made : goal.returns-clause-made
returns-clause-made c =
    let s = c.args.self.now in
    let t1 = c.list_defining.new.self in
    let t2 = c.outcome_step.new.self in
    let t = c.accept_list.new.self in
    let one = c.in_ok-definition.ensures.kept in
    let two = c.in_ok-step.ensures.kept in
    let traced = traces-on s t1 t2 one two in
    let j = c.in_ok-definition.definition in
    let there = c.in_ok-theorem.ensures in
    let read = renamed_pairs (renamed names (context_of s c.args.context.now).interpretation.constants) in
    let later = traced-origin t1 t2 one.is_run two j c.in_ok-definition.ensures.inside in
    let origin = later ∙ c.in_ok-definition.ensures.made
    ∙ (λ i. Define words.DefineConstList
    (from_list (read (c.requires.list_origin i) ∷ c.requires.premise_origin i ∷ []))) in
    let same = list-same t2.kernel s.kernel _ _ (run_of t2) (run_of s) traced.kernel origin traced.run
    c.args.constants.now c.args.variables.now c.args.premise in
    let step = origin-kept t2 t two.is_run there.adds.grown c.in_ok-step.step c.in_ok-step.ensures.inside
    ∙ c.in_ok-step.ensures.made ∙ ap (Outcome 1) (sym later) in
    sym same ∙ there.made
    ∙ (λ i. Ok (
      record { object = theorem (theorem_at t.kernel c.in_ok-theorem.theorem); origin = sym step i }
          ∷ [],
      run_of t,
    ))
