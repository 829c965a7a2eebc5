use Rattle.std.specs.Prelude.{◌≡◌, IfOk, set}
use Rattle.std.proofs.Common.{◌<◌, length, ap, subst, ◌∙◌, arith}
use Rattle.ot_kernel.specs.State.{name_at}
use Rattle.ot_machine.specs.Meaning.{origin_of}
use Rattle.ot_machine.specs.RenamedLists.{cons_numbers}
use Rattle.ot_machine.proofs.Traced.{traces-on}
use Rattle.ot_machine.proofs.RenamedLists.{begun-some, begun-made, begun-inside}
use Rattle.ot_machine.proofs.session.Session.begun_with.Goals as goal
use Rattle.ot_machine.proofs.session.Session.begun_with.Goals.{After-deref}

pub index_mut-requires : goal.index_mut-requires
index_mut-requires c =
    let some = begun-some c.args.self.now c.name_step.new.self c.requires.run
    c.in_ok-begin.ensures.kept c.args.pair c.requires.begun.0 c.requires.inside c.requires.begun.1
    c.step.result.now c.step.ensures.origin in
    let items = ap length (c.in_ok-operands.ensures.items ∙ c.cons_operands-parts.ensures) in
    omega (arith, some, items)

-- the numbers of the step, with another one at their begin
changed : (c : After-deref) → c.deref.result.now ≡ set (cons_numbers c.step.result.now) 0 c.in_ok-begin.begin
changed c = c.deref.ensures.value
    ∙ ap (λ is. set is 0 c.in_ok-begin.begin) (c.in_ok-operands.ensures.items ∙ c.cons_operands-parts.ensures)

pub made_of-requires-clause-inside : goal.made_of-requires-clause-inside
made_of-requires-clause-inside c =
    let t = c.name_step.new.self in
    let there : c.args.pair < length t.trace =
    omega (arith, c.requires.inside, c.in_ok-begin.ensures.kept.grown.longer) in
    begun-inside c.args.self.now t c.requires.run c.in_ok-begin.ensures.kept c.args.pair
    c.requires.begun.0 c.requires.inside c.requires.begun.1 c.step.result.now c.step.ensures.origin
    c.deref.result.now c.in_ok-begin.begin there c.step.ensures.below c.in_ok-begin.ensures.inside
    (changed (goal.at.made_of-requires-clause-inside c).After-deref)

pub returns : goal.returns
returns c =
    let s = c.args.self.now in
    let t = c.name_step.new.self in
    let u = c.made_of.new.self in
    let one = c.in_ok-begin.ensures.kept in
    let same =
    begun-made s t c.requires.run one c.args.pair c.requires.begun.0 c.requires.inside c.requires.begun.1
    c.step.result.now c.step.ensures.origin c.deref.result.now c.in_ok-begin.begin (name_at s.kernel c.args.name)
    c.in_ok-begin.ensures.made (changed (goal.at.returns c).After-deref) in
    record {
      made = subst (λ o. IfOk c.made_of.result (λ i. origin_of u i ≡ o)) same c.made_of.ensures.made;
      inside = c.made_of.ensures.inside;
      kept = traces-on s t u one c.made_of.ensures.kept;
    }
