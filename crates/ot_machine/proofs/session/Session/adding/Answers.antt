use Rattle.std.proofs.Common.{rules, ◌≡◌, ◌<◌, length, ap, sym, subst, ◌∙◌}
use Rattle.ot_logic.specs.Names.{Name}
use Rattle.ot_logic.specs.Naming.{names}
use Rattle.ot_logic.specs.Trees.{Sequent}
use Rattle.ot_logic.specs.Rules.{deduct_antisym_rule, eq_mp_rule}
use Rattle.ot_logic.specs.declared.command.Cmd.TheVariants as words
use Rattle.ot_kernel.specs.State.{term_at, theorem_at}
use Rattle.ot_trace.specs.Origins.{make_one, make_two}
use Rattle.ot_machine.specs.Answers.{Makes}
use Rattle.ot_machine.specs.Rows.{theorem_entry}
use Rattle.ot_machine.specs.Contexts.{given_of}
use Rattle.ot_machine.specs.Meaning.{origin_of}
use Rattle.ot_machine.specs.Stays.{Stays}
use Rattle.ot_machine.proofs.Kept.{kernel-stays, with_kernel}
use Rattle.ot_machine.proofs.Refusals.{refused}
use Rattle.ot_machine.proofs.Staying.{stays-on, stays-origin, stays-theorem}
use Rattle.ot_machine.proofs.Weakening.{as_proof, adding-first, adding-second, adding-third, with-origin}
use Rattle.ot_machine.proofs.session.Session.adding.Goals as goal
use Rattle.ot_machine.proofs.session.Session.adding.Goals.{Start, After-assume-answer, In_ok-assumed}
use Rattle.ot_machine.proofs.session.Session.adding.Goals.{After-deduct_antisym-answer}
use Rattle.ot_machine.proofs.session.Session.adding.Goals.{In_ok-equation, After-eq_mp-answer}

-- ---- all stays in the session after each rule, and after its step
one : (c : After-assume-answer)
    → Stays c.args.self.now (with_kernel c.args.self.now c.assume-answer.new.self)
one c = kernel-stays _ _ c.requires.run c.assume-answer.ensures.keeps c.assume-answer.ensures.same

two : (c : In_ok-assumed) → Stays c.args.self.now c.concluded.new.self
two c = stays-on (one (goal.at.In_ok-assumed c).After-assume-answer) c.in_ok-assumed.ensures.stays

three : (c : After-deduct_antisym-answer)
    → Stays c.concluded.new.self (with_kernel c.concluded.new.self c.deduct_antisym-answer.new.self)
three c = kernel-stays _ _ c.in_ok-assumed.ensures.stays.is_run c.deduct_antisym-answer.ensures.keeps
    c.deduct_antisym-answer.ensures.same

four : (c : In_ok-equation) → Stays c.concluded.new.self c.concluded-2.new.self
four c = stays-on (three (goal.at.In_ok-equation c).After-deduct_antisym-answer) c.in_ok-equation.ensures.stays

five : (c : After-eq_mp-answer)
    → Stays c.concluded-2.new.self (with_kernel c.concluded-2.new.self c.eq_mp-answer.new.self)
five c = kernel-stays _ _ c.in_ok-equation.ensures.stays.is_run c.eq_mp-answer.ensures.keeps c.eq_mp-answer.ensures.same

-- ---- what the rules make
abbrev Q : Start → Sequent Name
Q c = theorem_at c.args.self.now.kernel c.args.given.th

abbrev A : In_ok-assumed → Sequent Name
A c = theorem_at c.concluded.new.self.kernel c.in_ok-assumed.assumed.th

abbrev D : In_ok-equation → Sequent Name
D c = theorem_at c.concluded-2.new.self.kernel c.in_ok-equation.equation.th

antisym : (c : In_ok-assumed) → deduct_antisym_rule names (A c) (Q (goal.at.In_ok-assumed c).Start)
    ≡ deduct_antisym_rule names (A c) (theorem_at c.concluded.new.self.kernel c.args.given.th)
antisym c = ap (deduct_antisym_rule names (A c))
    (sym (stays-theorem _ _ c.requires.run (two c) c.args.given.th c.requires.theorem))

inside : (c : In_ok-assumed) → c.in_ok-assumed.assumed.th < length c.concluded.new.self.kernel.theorems
inside c = c.in_ok-assumed.ensures.theorem _ _ c.assume-answer.ensures.concludes

-- ---- refusals
pub returns-in_err-assumed-clause-made : goal.returns-in_err-assumed-clause-made
returns-in_err-assumed-clause-made c =
    let s = c.args.self.now in
    let there = c.in_err-assumed.ensures.made _ _ c.assume-answer.ensures.concludes in
    refused c.concluded.new.self.kernel _ _ c.in_err-assumed.field-0.0 _ (search rules) (
      there.0,
      λ f e. adding-first (Q (goal.at.returns-in_err-assumed-clause-made c).Start) (origin_of s c.args.given.step)
          (term_at s.kernel c.args.hyp) (origin_of s c.args.step) f (there.1 f e),
    )

pub returns-in_err-assumed-clause-stays : goal.returns-in_err-assumed-clause-stays
returns-in_err-assumed-clause-stays c =
    stays-on (one (goal.at.returns-in_err-assumed-clause-stays c).After-assume-answer) c.in_err-assumed.ensures.stays

pub returns-in_err-equation-clause-made : goal.returns-in_err-equation-clause-made
returns-in_err-equation-clause-made c =
    let at = goal.at.returns-in_err-equation-clause-made c in
    let s = c.args.self.now in
    let there = c.in_err-equation.ensures.made _ _ c.deduct_antisym-answer.ensures.concludes in
    refused c.concluded-2.new.self.kernel _ _ c.in_err-equation.field-0.0 _ (search rules) (
      there.0,
      λ f e. adding-second (Q at.Start) (origin_of s c.args.given.step) (term_at s.kernel c.args.hyp)
          (origin_of s c.args.step) (A at.In_ok-assumed)
          (c.in_ok-assumed.ensures.made _ _ c.assume-answer.ensures.concludes) f
          (antisym at.In_ok-assumed ∙ there.1 f e),
    )

pub returns-in_err-equation-clause-stays : goal.returns-in_err-equation-clause-stays
returns-in_err-equation-clause-stays c =
    let at = goal.at.returns-in_err-equation-clause-stays c in
    stays-on (stays-on (two at.In_ok-assumed) (three at.After-deduct_antisym-answer)) c.in_err-equation.ensures.stays

-- ---- in the end
pub returns-clause-made : goal.returns-clause-made
returns-clause-made c =
    let at = goal.at.returns-clause-made c in
    let s = c.args.self.now in
    let t = c.concluded-3.new.self in
    let here = three at.After-deduct_antisym-answer in
    let last = five at.After-eq_mp-answer in
    let of2 = c.in_ok-assumed.ensures.stays.is_run in
    let step = c.in_ok-assumed.assumed.step in
    let assumed = c.in_ok-assumed.ensures.origin
    ∙ ap (make_one words.Assume)
    (stays-origin _ _ c.requires.run (one at.After-assume-answer) c.args.step c.requires.step) in
    let first = stays-origin _ _ of2 here step c.in_ok-assumed.ensures.step ∙ assumed in
    let given = stays-origin _ _ c.requires.run (stays-on (two at.In_ok-assumed) here) c.args.given.step
    c.requires.given_step in
    let equation = stays-origin _ _ c.in_ok-equation.ensures.stays.is_run last c.in_ok-equation.equation.step
    c.in_ok-equation.ensures.step ∙ c.in_ok-equation.ensures.origin
    ∙ (λ i. make_two words.DeductAntisym (first i) (given i)) in
    let second = stays-origin _ _ of2 (stays-on (four at.In_ok-equation) last) step c.in_ok-assumed.ensures.step
    ∙ assumed in
    let kept = stays-theorem _ _ of2 (four at.In_ok-equation) c.in_ok-assumed.assumed.th
    (inside at.In_ok-assumed) in
    let rule = eq_mp_rule names (D at.In_ok-equation) (theorem_at c.concluded-2.new.self.kernel
    c.in_ok-assumed.assumed.th) in
    let whole = adding-third (Q at.Start) (origin_of s c.args.given.step) (term_at s.kernel c.args.hyp)
    (origin_of s c.args.step) (A at.In_ok-assumed)
    (c.in_ok-assumed.ensures.made _ _ c.assume-answer.ensures.concludes)
    (D at.In_ok-equation)
    (antisym at.In_ok-assumed ∙ c.in_ok-equation.ensures.made _ _ c.deduct_antisym-answer.ensures.concludes) rule
    (ap (eq_mp_rule names (D at.In_ok-equation)) (sym kept))
    ∙ (λ i. as_proof (make_two words.EqMp (sym equation i) (sym second i)) rule) in
    subst (Makes t.kernel (λ g. theorem_entry (given_of t g)) c.concluded-3.result) (sym whole)
    (with-origin t c.concluded-3.result rule _ (c.concluded-3.ensures.made _ _ c.eq_mp-answer.ensures.concludes)
    c.concluded-3.ensures.origin)

pub returns-clause-theorem : goal.returns-clause-theorem
returns-clause-theorem c = c.concluded-3.ensures.theorem _ _ c.eq_mp-answer.ensures.concludes

pub returns-clause-stays : goal.returns-clause-stays
returns-clause-stays c =
    let at = goal.at.returns-clause-stays c in
    stays-on (stays-on (stays-on (two at.In_ok-assumed) (four at.In_ok-equation)) (five at.After-eq_mp-answer))
    c.concluded-3.ensures.stays

-- ---- what the calls ask
pub concluded-requires-clause-run : goal.concluded-requires-clause-run
concluded-requires-clause-run c = (one (goal.at.concluded-requires-clause-run c).After-assume-answer).is_run

pub concluded-requires-2-clause-run : goal.concluded-requires-2-clause-run
concluded-requires-2-clause-run c = (three (goal.at.concluded-requires-2-clause-run c).After-deduct_antisym-answer).is_run

pub concluded-requires-3-clause-run : goal.concluded-requires-3-clause-run
concluded-requires-3-clause-run c = (five (goal.at.concluded-requires-3-clause-run c).After-eq_mp-answer).is_run
