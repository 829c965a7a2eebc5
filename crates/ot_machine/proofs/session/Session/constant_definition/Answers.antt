use Rattle.std.specs.Prelude.{Ok}
use Rattle.std.proofs.Common.{rules, ◌∷◌, [], ap, sym, subst, ◌∙◌}
use Rattle.ot_logic.specs.declared.command.Cmd.TheVariants as words
use Rattle.ot_kernel.specs.State.{name_at, theorem_at}
use Rattle.ot_trace.specs.Origins.{Named, Define, Outcome, from_list}
use Rattle.ot_machine.specs.Objects.{theorem}
use Rattle.ot_machine.specs.Answers.{Refuses}
use Rattle.ot_machine.specs.Meaning.{run_of, Traces}
use Rattle.ot_machine.proofs.Kept.{origin-kept, traces-grow, grows-on}
use Rattle.ot_machine.proofs.Refusals.{refused}
use Rattle.ot_machine.proofs.Stated.{on-err, const-same}
use Rattle.ot_machine.proofs.Traced.{traces-on, traced-origin}
use Rattle.ot_machine.proofs.Staying.{traces-stay, stays-adds, adds-on}
use Rattle.ot_machine.proofs.Turning.{name-kept}
use Rattle.ot_machine.proofs.session.Session.constant_definition.Goals as goal
use Rattle.ot_machine.proofs.session.Session.constant_definition.Goals.{In_ok-step}

-- ---- the steps before the definition is accepted
traced : (c : In_ok-step) → Traces c.args.self.now c.outcome_step.new.self
traced c = traces-on _ _ _ c.in_ok-symbol.ensures.kept c.in_ok-step.ensures.kept

-- ---- the session of each answer
pub returns-in_err-symbol-clause-adds : goal.returns-in_err-symbol-clause-adds
returns-in_err-symbol-clause-adds c = stays-adds _ (traces-stay c.in_err-symbol.ensures.kept)

pub returns-in_err-step-clause-adds : goal.returns-in_err-step-clause-adds
returns-in_err-step-clause-adds c =
    stays-adds _ (traces-stay (traces-on _ _ _ c.in_ok-symbol.ensures.kept c.in_err-step.ensures.kept))

pub returns-in_err-theorem-clause-adds : goal.returns-in_err-theorem-clause-adds
returns-in_err-theorem-clause-adds c =
    adds-on _ _ (traces-stay (traced (goal.at.returns-in_err-theorem-clause-adds c).In_ok-step)) (on-err _)
    c.in_err-theorem.ensures.adds

pub returns-clause-adds : goal.returns-clause-adds
returns-clause-adds c = adds-on _ _ (traces-stay (traced (goal.at.returns-clause-adds c).In_ok-step)) (λ e. tt)
    c.in_ok-theorem.ensures.adds

pub returns-in_err-theorem-clause-name : goal.returns-in_err-theorem-clause-name
returns-in_err-theorem-clause-name c =
    let one = traces-grow _ _ (traced (goal.at.returns-in_err-theorem-clause-name c).In_ok-step) in
    name-kept c.args.self.now.kernel c.accept_constant.new.self.kernel
    (grows-on one c.in_err-theorem.ensures.adds.grown).kernel c.args.name c.requires.name

pub returns-clause-name : goal.returns-clause-name
returns-clause-name c =
    let one = traces-grow _ _ (traced (goal.at.returns-clause-name c).In_ok-step) in
    name-kept c.args.self.now.kernel c.accept_constant.new.self.kernel
    (grows-on one c.in_ok-theorem.ensures.adds.grown).kernel c.args.name c.requires.name

-- the definition is stated of the session as it was
pub returns-in_err-theorem-clause-made : goal.returns-in_err-theorem-clause-made
returns-in_err-theorem-clause-made c =
    let s = c.args.self.now in
    let t1 = c.constant_defining.new.self in
    let t2 = c.outcome_step.new.self in
    let t = c.accept_constant.new.self in
    let one = c.in_ok-symbol.ensures.kept in
    let two = c.in_ok-step.ensures.kept in
    let traced = traces-on s t1 t2 one two in
    let j = c.in_ok-symbol.definition in
    let origin = traced-origin t1 t2 one.is_run two j c.in_ok-symbol.ensures.definition_step
    ∙ c.in_ok-symbol.ensures.definition
    ∙ ap (λ o. Define words.DefineConst (from_list (Named (name_at s.kernel c.args.name) ∷ o ∷ [])))
    c.requires.origin in
    let same = const-same t2.kernel s.kernel _ _ (run_of t2) (run_of s) traced.kernel origin traced.run c.args.name
    c.args.term in
    refused t.kernel _ _ c.in_err-theorem.field-0.0 _ (search rules)
    (subst (Refuses t.kernel c.in_err-theorem.field-0.0) same c.in_err-theorem.ensures.made)

pub returns-clause-made : goal.returns-clause-made
returns-clause-made c =
    let s = c.args.self.now in
    let t1 = c.constant_defining.new.self in
    let t2 = c.outcome_step.new.self in
    let t = c.accept_constant.new.self in
    let one = c.in_ok-symbol.ensures.kept in
    let two = c.in_ok-step.ensures.kept in
    let traced = traces-on s t1 t2 one two in
    let j = c.in_ok-symbol.definition in
    let there = c.in_ok-theorem.ensures in
    let later = traced-origin t1 t2 one.is_run two j c.in_ok-symbol.ensures.definition_step in
    let origin = later ∙ c.in_ok-symbol.ensures.definition
    ∙ ap (λ o. Define words.DefineConst (from_list (Named (name_at s.kernel c.args.name) ∷ o ∷ [])))
    c.requires.origin in
    let same = const-same t2.kernel s.kernel _ _ (run_of t2) (run_of s) traced.kernel origin traced.run c.args.name
    c.args.term in
    let step = origin-kept t2 t two.is_run there.adds.grown c.in_ok-step.step c.in_ok-step.ensures.inside
    ∙ c.in_ok-step.ensures.made ∙ ap (Outcome 1) (sym later) in
    sym same ∙ there.made
    ∙ (λ i. Ok (
      record { object = theorem (theorem_at t.kernel c.in_ok-theorem.theorem); origin = sym step i }
          ∷ [],
      run_of t,
    ))

pub returns-clause-symbol : goal.returns-clause-symbol
returns-clause-symbol c =
    let t1 = c.constant_defining.new.self in
    let t2 = c.outcome_step.new.self in
    let t = c.accept_constant.new.self in
    let one = c.in_ok-symbol.ensures.kept in
    let two = c.in_ok-step.ensures.kept in
    let all = grows-on (traces-grow t1 t2 two) c.in_ok-theorem.ensures.adds.grown in
    origin-kept t1 t one.is_run all c.in_ok-symbol.symbol c.in_ok-symbol.ensures.symbol_step
    ∙ c.in_ok-symbol.ensures.symbol
