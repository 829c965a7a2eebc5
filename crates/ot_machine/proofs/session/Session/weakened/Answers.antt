use Rattle.std.specs.Prelude.{Result, Ok, Err}
use Rattle.std.specs.List.{All}
use Rattle.std.proofs.Common.{rules, ◌≡◌, ◌<◌, ◌+◌, ◌∷◌, ℕ, List, drop, get_or}
use Rattle.std.proofs.Common.{length, map, refl, ap, sym, subst, ◌∙◌, arith}
use Rattle.std.proofs.lemmas.List.{drop_more, drop_all}
use Rattle.ot_logic.specs.Names.{Name}
use Rattle.ot_logic.specs.Faults.{Fault}
use Rattle.ot_logic.specs.Answers.{◌>>=◌}
use Rattle.ot_kernel.specs.State.{State, term_at}
use Rattle.ot_trace.specs.Origins.{operand}
use Rattle.ot_machine.specs.States.{Entry}
use Rattle.ot_machine.specs.Rows.{theorem_entry}
use Rattle.ot_machine.specs.Discharge.{weakened}
use Rattle.ot_machine.specs.Assumptions.{term_entries, supposing}
use Rattle.ot_machine.specs.Contexts.{given_of}
use Rattle.ot_machine.specs.Meaning.{origin_of}
use Rattle.ot_machine.proofs.Refusals.{refused}
use Rattle.ot_machine.proofs.Staying.{stays-same, stays-on, stays-term, stays-origin}
use Rattle.ot_machine.proofs.Weakening.{weakened-next, stated}
use Rattle.ot_machine.proofs.session.Session.weakened.Goals as goal
use Rattle.ot_machine.proofs.session.Session.weakened.Goals.{After-operand_of-step}

inside : (k : State) (is : List ℕ) (i j : ℕ) → i < length is → j ≡ get_or is i j → All (λ x. x < length k.terms) is
    → j < length k.terms
inside k is i j lt e all = subst (λ x. x < length k.terms) (sym e) (all i j lt)

-- what the next hypothesis makes of the theorem, before the others
next : (c : After-operand_of-step) (x : Result Entry (Fault Name)) → (let t = c.loop-hyp.self in
    let k = c.args.self.now.kernel in
    let o = origin_of t c.loop-hyp.rest in
    let e = theorem_entry (given_of t c.loop-hyp.weaker) in
    supposing (stated (term_at t.kernel c.hyp-item.result) (origin_of t c.operand_of-step.result)) e ≡ x
    → weakened (term_entries (map (term_at k) (drop c.loop-hyp.hyp-index c.args.hyps.now)) o) e
    ≡ (x >>= weakened
    (term_entries (map (term_at k) (drop (c.loop-hyp.hyp-index + 1) c.args.hyps.now)) (operand 1 o))))
next c x h =
    let s = c.args.self.now in
    let t = c.loop-hyp.self in
    let hyps = c.args.hyps.now in
    let hyp = c.hyp-item.result in
    let i = c.loop-hyp.hyp-index in
    let o = origin_of t c.loop-hyp.rest in
    let e = theorem_entry (given_of t c.loop-hyp.weaker) in
    let here = inside s.kernel hyps i hyp c.loop-hyp-test.true c.hyp-item.is c.requires.hyps in
    let kept = stays-term s t c.requires.run c.loop-hyp.invariant.stays hyp here in
    ap (λ l. weakened (term_entries (map (term_at s.kernel) l) o) e)
    (drop_more hyps i hyp c.loop-hyp-test.true ∙ ap (λ z. z ∷ drop (i + 1) hyps) (sym c.hyp-item.is))
    ∙ weakened-next (term_at s.kernel hyp) (map (term_at s.kernel) (drop (i + 1) hyps)) o e x
    ((λ j. supposing (stated (sym kept j) (sym c.operand_of-step.ensures.operand j)) e) ∙ h)

pub loop-hyp-init : goal.loop-hyp-init
loop-hyp-init c = record {
  stays = stays-same c.args.self.now c.requires.run;
  theorem = c.requires.theorem;
  step = c.requires.step;
  rest = c.requires.list_step;
  so_far = refl;
}

pub with_hypothesis-requires-clause-hyp : goal.with_hypothesis-requires-clause-hyp
with_hypothesis-requires-clause-hyp c =
    let s = c.args.self.now in
    let here = inside s.kernel c.args.hyps.now c.loop-hyp.hyp-index c.hyp-item.result c.loop-hyp-test.true
    c.hyp-item.is c.requires.hyps in
    omega (arith, here, c.loop-hyp.invariant.stays.grown.kernel.terms.longer)

pub loop-hyp-preserved : goal.loop-hyp-preserved
loop-hyp-preserved c =
    let inv = c.loop-hyp.invariant in
    let there = c.in_ok-weaker.ensures in
    let u = c.with_hypothesis.new.self in
    let after = theorem_entry (given_of u c.in_ok-weaker.weaker) in
    let ps = map (term_at c.args.self.now.kernel) (drop (c.loop-hyp.hyp-index + 1) c.args.hyps.now) in
    let rest = c.operand_of-rest.ensures.operand
    ∙ ap (operand 1)
    (stays-origin c.loop-hyp.self u inv.stays.is_run there.stays c.loop-hyp.rest inv.rest) in
    record {
      stays = stays-on inv.stays there.stays;
      theorem = there.theorem;
      step = there.given_step;
      rest = c.operand_of-rest.ensures.inside;
      so_far = ap (λ o. weakened (term_entries ps o) after) rest
          ∙ sym (next (goal.at.loop-hyp-preserved c).After-operand_of-step (Ok after) there.made)
          ∙ inv.so_far;
    }

pub returns-in_err-weaker-clause-made : goal.returns-in_err-weaker-clause-made
returns-in_err-weaker-clause-made c =
    let at = (goal.at.returns-in_err-weaker-clause-made c).After-operand_of-step in
    let there = c.in_err-weaker.ensures.made in
    refused c.with_hypothesis.new.self.kernel _ _ c.in_err-weaker.field-0.0 _ (search rules)
    (there.0, λ f q. sym c.loop-hyp.invariant.so_far ∙ next at (Err f) (there.1 f q))

pub returns-in_err-weaker-clause-stays : goal.returns-in_err-weaker-clause-stays
returns-in_err-weaker-clause-stays c = stays-on c.loop-hyp.invariant.stays c.in_err-weaker.ensures.stays

pub returns-clause-made : goal.returns-clause-made
returns-clause-made c =
    let s = c.args.self.now in
    let t = c.loop-hyp.self in
    sym c.loop-hyp.invariant.so_far
    ∙ ap (λ l. weakened (term_entries (map (term_at s.kernel) l) (origin_of t c.loop-hyp.rest))
    (theorem_entry (given_of t c.loop-hyp.weaker)))
    (drop_all c.loop-hyp.hyp-index c.args.hyps.now c.loop-hyp-test.false)
