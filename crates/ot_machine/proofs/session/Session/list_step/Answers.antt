use Rattle.std.proofs.Common.{◌<◌, ℕ, [], ◌∷◌, map, sym, ap, subst, ◌∙◌, refl, length, arith}
use Rattle.std.specs.List.{All}
use Rattle.std.proofs.lemmas.List.{take_at}
use Rattle.std.proofs.lemmas.List.Elements.{All-nil, All-cons, All-take}
use Rattle.ot_logic.specs.declared.command.Cmd.TheVariants as words
use Rattle.ot_trace.specs.Origins.{make_two}
use Rattle.ot_trace.specs.Trace.{origin_at}
use Rattle.ot_machine.specs.RenamedLists.{list_onto}
use Rattle.ot_machine.proofs.RenamedLists.{All-last, onto-push}
use Rattle.ot_machine.proofs.Traced.{traces-on, number-later}
use Rattle.ot_machine.proofs.session.Session.list_step.Goals as goal
use Rattle.ot_machine.proofs.session.Session.list_step.Goals.{In-Some}

-- the last element is of the trace
here : (c : In-Some) → c.in-Some.element.now < length c.args.self.now.trace
here c =
    let P = λ (n : ℕ). n < length c.args.self.now.trace in
    All-last P c.in-Some.front.now c.in-Some.element.now
    (subst (All P) c.in-Some.ensures.cases.0 c.elements.invariant.inside)

pub made_of-requires-clause-inside : goal.made_of-requires-clause-inside
made_of-requires-clause-inside c =
    let P = λ (n : ℕ). n < length c.elements.self.trace in
    All-cons P c.in-Some.element.now (c.elements.list ∷ [])
    (omega (
      arith,
      here (goal.at.made_of-requires-clause-inside c).In-Some,
      c.elements.invariant.kept.grown.longer,
    ))
    (All-cons P c.elements.list [] c.elements.invariant.list_inside (All-nil P))

pub elements-preserved : goal.elements-preserved
elements-preserved c =
    let s = c.args.self.now in
    let t = c.elements.self in
    let u = c.made_of.new.self in
    let before = c.elements.invariant.kept in
    let one = c.in_ok-list.ensures.kept in
    let at = origin_at s.trace in
    let split = c.in-Some.ensures.cases.0 in
    let element = c.in-Some.element.now in
    let P = λ (n : ℕ). n < length s.trace in
    let front = c.in-Some.front.now in
    let head = number-later s t before element (here (goal.at.elements-preserved c).In-Some) in
    record {
      kept = traces-on s t u before one;
      list_inside = c.in_ok-list.ensures.inside;
      inside = subst (All P) (take_at front (element ∷ []) _ refl)
          (All-take P (length front) _ (subst (All P) split c.elements.invariant.inside));
      so_far = ap (list_onto (map at front)) (c.in_ok-list.ensures.number
          ∙ (λ i. make_two words.Cons (head i) (origin_at t.trace c.elements.list)))
          ∙ sym (onto-push at front element (origin_at t.trace c.elements.list))
          ∙ ap (λ is. list_onto (map at is) (origin_at t.trace c.elements.list)) (sym split)
          ∙ c.elements.invariant.so_far;
    }
