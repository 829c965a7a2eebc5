use Rattle.std.proofs.Common.{◌<◌, ℕ, [], ◌∷◌, map, refl, sym, ap, subst, ◌∙◌, length}
use Rattle.std.specs.List.{All}
use Rattle.std.proofs.lemmas.List.{take_at}
use Rattle.std.proofs.lemmas.List.Elements.{All-take}
use Rattle.ot_logic.specs.declared.command.Cmd.TheVariants as words
use Rattle.ot_kernel.specs.State.{name_at}
use Rattle.ot_trace.specs.Origins.{Named, make_one, make_two}
use Rattle.ot_machine.specs.RenamedLists.{list_onto}
use Rattle.ot_machine.specs.Meaning.{origin_of}
use Rattle.ot_machine.proofs.RenamedLists.{All-last, onto-push}
use Rattle.ot_machine.proofs.Traced.{traces-on, traced-origin, origin-number}
use Rattle.ot_machine.proofs.session.Session.symbol_list_step.Goals as goal

pub symbols-init : goal.symbols-init
symbols-init c =
    let k = c.args.self.now.kernel in
    let at = λ (n : ℕ). make_one c.args.word (Named (name_at k n)) in
    record {
      kept = c.in_ok-list.ensures.kept;
      inside = c.in_ok-list.ensures.inside;
      numbers = c.requires.inside;
      so_far = ap (list_onto (map at c.args.names.now)) c.in_ok-list.ensures.made;
    }

pub symbol_steps-requires-clause-inside : goal.symbol_steps-requires-clause-inside
symbol_steps-requires-clause-inside c =
    let P = λ (n : ℕ). n < length c.args.self.now.kernel.names in
    let here = All-last P c.in-Some.front.now c.in-Some.name.now
    (subst (All P) c.in-Some.ensures.cases.0 c.symbols.invariant.numbers) in
    subst (λ k. c.in-Some.name.now < length k.names) (sym c.symbols.invariant.kept.kernel) here

pub symbols-preserved : goal.symbols-preserved
symbols-preserved c =
    let s = c.args.self.now in
    let k = s.kernel in
    let t = c.symbols.self in
    let t1 = c.symbol_steps.new.self in
    let t2 = c.made_of-in-Some.new.self in
    let before = c.symbols.invariant.kept in
    let one = c.in_ok-head.ensures.kept in
    let two = c.in_ok-list-2.ensures.kept in
    let upto1 = traces-on s t t1 before one in
    let split = c.in-Some.ensures.cases.0 in
    let P = λ (n : ℕ). n < length k.names in
    let front = c.in-Some.front.now in
    let name = c.in-Some.name.now in
    let at = λ (n : ℕ). make_one c.args.word (Named (name_at k n)) in
    let head = origin-number s t1 upto1 c.in_ok-head.head (make_one c.args.word (Named name))
    c.in_ok-head.ensures.symbol in
    let list = traced-origin t t1 before.is_run one c.symbols.list c.symbols.invariant.inside in
    record {
      kept = traces-on s t1 t2 upto1 two;
      inside = c.in_ok-list-2.ensures.inside;
      numbers = subst (All P) (take_at front (name ∷ []) _ refl)
          (All-take P (length front) _ (subst (All P) split c.symbols.invariant.numbers));
      so_far = ap (list_onto (map at front))
          (c.in_ok-list-2.ensures.made ∙ (λ i. make_two words.Cons (head i) (list i)))
          ∙ sym (onto-push at front name (origin_of t c.symbols.list))
          ∙ ap (λ is. list_onto (map at is) (origin_of t c.symbols.list)) (sym split)
          ∙ c.symbols.invariant.so_far;
    }
