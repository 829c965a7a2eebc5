use Rattle.std.proofs.Common.{◌++◌, ◌∷◌, [], sym, ap, subst, ◌∙◌}
use Rattle.ot_lists.specs.Parts.{part_of, spread, IsPartOf}
use Rattle.ot_lists.specs.declared.sequence.walk.Part.TheVariants.{Tree}
use Rattle.ot_lists.proofs.Sublists.{none-left}
use Rattle.ot_lists.proofs.PartLemmas.{taken-none, taken-parts, taken-key, taken-opened, taken-one, taken-all}
use Rattle.ot_lists.proofs.PartLemmas.{tree-smaller, one-smaller}
use Rattle.ot_lists.proofs.sequence.Sequences.members.Goals as goal

pub loop-part-init : goal.loop-part-init
loop-part-init c =
    taken-none c.args.self.now c.len-count.ensures.table _ c.args.id _
    (c.in_ok-push.ensures.items ∙ ap (λ ps. ps ++ Tree c.args.id ∷ []) c.new-parts.ensures.items)
    c.new-members.ensures.items c.requires

pub open-requires-clause-tree : goal.open-requires-clause-tree
open-requires-clause-tree c = subst (IsPartOf c.args.self.now) c.in-Tree.is
    (taken-parts c.args.self.now _ c.loop-part.parts.items c.pop.new.self.items c.in-Some.part _ c.in-Some.ensures.items
    c.loop-part.invariant).1

pub open-requires-clause-parts : goal.open-requires-clause-parts
open-requires-clause-parts c =
    (taken-parts c.args.self.now _ c.loop-part.parts.items c.pop.new.self.items c.in-Some.part _ c.in-Some.ensures.items
    c.loop-part.invariant).0

pub key-requires : goal.key-requires
key-requires c = taken-key c.args.self.now _ c.loop-part.parts.items c.pop.new.self.items c.in-Some.part _
    c.in-Some.ensures.items c.loop-part.invariant c.in-One.x c.in-One.is

pub loop-part-preserved-in-Continue-branch-2 : goal.loop-part-preserved-in-Continue-branch-2
loop-part-preserved-in-Continue-branch-2 c =
    taken-opened c.args.self.now _ c.loop-part.parts.items c.pop.new.self.items c.in-Some.part _ c.in-Some.ensures.items
    c.loop-part.invariant c.open.new.parts.items
    (c.in_ok-open-in-Tree.ensures.spread
    ∙ ap (λ q. spread c.args.self.now c.pop.new.self.items ++ part_of c.args.self.now q) (sym c.in-Tree.is))
    c.in_ok-open-in-Tree.ensures.parts

pub loop-part-smaller-in-Continue-branch-2 : goal.loop-part-smaller-in-Continue-branch-2
loop-part-smaller-in-Continue-branch-2 c =
    tree-smaller c.args.self.now c.loop-part.parts.items c.pop.new.self.items c.open.new.parts.items c.in-Some.part
    c.in-Tree.tree c.in-Some.ensures.items c.in-Tree.is c.in_ok-open-in-Tree.ensures.steps

pub loop-part-preserved : goal.loop-part-preserved
loop-part-preserved c =
    taken-one c.args.self.now _ c.loop-part.parts.items c.pop.new.self.items c.in-Some.part _ c.in-Some.ensures.items
    c.loop-part.invariant c.in-One.x c.in-One.is c.key.result c.key.ensures c.push-in-One.new.self.items
    c.in_ok-push-in-One.ensures.items

pub loop-part-smaller : goal.loop-part-smaller
loop-part-smaller c =
    one-smaller c.args.self.now c.loop-part.parts.items c.pop.new.self.items c.in-Some.part c.in-One.x
    c.in-Some.ensures.items c.in-One.is

pub returns : goal.returns
returns c =
    taken-all c.args.self.now _ c.loop-part.parts.items c.loop-part.members.items
    (none-left c.loop-part.parts c.in_default.ensures.cases.0) c.loop-part.invariant
