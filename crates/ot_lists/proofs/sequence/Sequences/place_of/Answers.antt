use Rattle.std.proofs.Common.{arith, sym, ap, subst, ◌∙◌, length}
use Rattle.ot_lists.specs.Parts.{part_of, IsPartOf}
use Rattle.ot_lists.specs.declared.sequence.walk.Part.TheVariants.{One}
use Rattle.ot_lists.proofs.Sublists.{none-left}
use Rattle.ot_lists.proofs.Seams.{distinct_at}
use Rattle.ot_lists.proofs.PartLemmas.{parts-left, left-of, left-end, left-other, left-found, left-all}
use Rattle.ot_lists.proofs.PartLemmas.{tree-smaller, one-smaller}
use Rattle.ot_lists.proofs.sequence.Sequences.place_of.Goals as goal

pub pass-requires-clause-tree : goal.pass-requires-clause-tree
pass-requires-clause-tree c = subst (IsPartOf c.args.self.now) c.in-Tree.is
    (parts-left c.args.self.now c.loop-part.parts.items c.pop.new.self.items c.in-Some.part c.in-Some.ensures.items
    c.loop-part.invariant.1).1

pub pass-requires-clause-parts : goal.pass-requires-clause-parts
pass-requires-clause-parts c =
    (parts-left c.args.self.now c.loop-part.parts.items c.pop.new.self.items c.in-Some.part c.in-Some.ensures.items
    c.loop-part.invariant.1).0

pub pass-requires-clause-end : goal.pass-requires-clause-end
pass-requires-clause-end c =
    let n = left-end c.args.self.now c.args.x _ c.pop.new.self.items c.in-Some.part c.loop-part.end
    (left-of c.args.self.now c.args.x _ c.loop-part.parts.items c.pop.new.self.items c.in-Some.part c.loop-part.end
    c.in-Some.ensures.items c.loop-part.invariant.0) in
    let m = ap (λ q. length (part_of c.args.self.now q)) c.in-Tree.is in
    omega (arith, n, m)

pub loop-part-smaller-in-Tree : goal.loop-part-smaller-in-Tree
loop-part-smaller-in-Tree c =
    tree-smaller c.args.self.now c.loop-part.parts.items c.pop.new.self.items c.pass.new.parts.items c.in-Some.part
    c.in-Tree.tree c.in-Some.ensures.items c.in-Tree.is c.in_ok-end-in-Tree.ensures.steps

pub overflow_sub-end : goal.overflow_sub-end
overflow_sub-end c =
    let n = left-end c.args.self.now c.args.x _ c.pop.new.self.items c.in-Some.part c.loop-part.end
    (left-of c.args.self.now c.args.x _ c.loop-part.parts.items c.pop.new.self.items c.in-Some.part c.loop-part.end
    c.in-Some.ensures.items c.loop-part.invariant.0) in
    let m = ap (λ q. length (part_of c.args.self.now q)) c.in-One.is in
    omega (arith, n, m)

pub returns-then-x-y-clause-place : goal.returns-then-x-y-clause-place
returns-then-x-y-clause-place c =
    left-found c.args.self.now c.args.x _ c.pop.new.self.items c.in-Some.part c.loop-part.end
    (left-of c.args.self.now c.args.x _ c.loop-part.parts.items c.pop.new.self.items c.in-Some.part c.loop-part.end
    c.in-Some.ensures.items c.loop-part.invariant.0)
    (c.in-One.is ∙ ap One (sym c.if-x-y.true))
    (distinct_at c.args.self.now c.len-end.ensures.table c.args.id c.requires)

pub loop-part-preserved : goal.loop-part-preserved
loop-part-preserved c = (
  left-other c.args.self.now c.args.x _ c.pop.new.self.items c.in-Some.part c.loop-part.end
      (left-of c.args.self.now c.args.x _ c.loop-part.parts.items c.pop.new.self.items c.in-Some.part c.loop-part.end
      c.in-Some.ensures.items c.loop-part.invariant.0)
      c.in-One.y c.in-One.is c.if-x-y.false,
  (parts-left c.args.self.now c.loop-part.parts.items c.pop.new.self.items c.in-Some.part c.in-Some.ensures.items
      c.loop-part.invariant.1).0,
)

pub loop-part-smaller : goal.loop-part-smaller
loop-part-smaller c =
    one-smaller c.args.self.now c.loop-part.parts.items c.pop.new.self.items c.in-Some.part c.in-One.y
    c.in-Some.ensures.items c.in-One.is

pub returns-clause-place : goal.returns-clause-place
returns-clause-place c =
    left-all c.args.self.now c.args.x _ c.loop-part.parts.items c.loop-part.end
    (none-left c.loop-part.parts c.in_default.ensures.cases.0) c.loop-part.invariant.0
