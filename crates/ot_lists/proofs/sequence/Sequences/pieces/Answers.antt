use Rattle.std.proofs.Common.{◌++◌, ◌∷◌, [], ap, ◌∙◌}
use Rattle.ot_lists.specs.SequenceTable.{sequence_at}
use Rattle.ot_lists.specs.Parts.{IsPartOf, ArePartsOf}
use Rattle.ot_lists.specs.declared.sequence.walk.Part.TheVariants.{Tree}
use Rattle.ot_lists.proofs.Sublists.{none-left}
use Rattle.ot_lists.proofs.PieceLemmas.{cutting-none, cutting-parts, cutting-next, cutting-smaller, cutting-all}
use Rattle.ot_lists.proofs.sequence.Sequences.pieces.Goals as goal
use Rattle.ot_lists.proofs.sequence.Sequences.pieces.Goals.{In-Some}

pub loop-part-init : goal.loop-part-init
loop-part-init c =
    cutting-none c.args.self.now (sequence_at c.args.self.now c.args.f) c.args.x _ _ c.requires.x
    c.new-pieces.ensures.items
    (c.in_ok-push.ensures.items ∙ ap (λ ps. ps ++ Tree c.args.x ∷ []) c.new-parts.ensures.items)

-- the part that is taken off, and those that are left
taken : (c : In-Some) → ArePartsOf c.args.self.now c.pop.new.self.items × IsPartOf c.args.self.now c.in-Some.part
taken c =
    cutting-parts c.args.self.now (sequence_at c.args.self.now c.args.f) _ c.loop-part.pieces.items
    c.loop-part.parts.items c.pop.new.self.items c.in-Some.part c.in-Some.ensures.items c.loop-part.invariant

pub cut_part-requires-clause-part : goal.cut_part-requires-clause-part
cut_part-requires-clause-part c = (taken ((goal.at.cut_part-requires-clause-part c).In-Some)).1

pub cut_part-requires-clause-parts : goal.cut_part-requires-clause-parts
cut_part-requires-clause-parts c = (taken ((goal.at.cut_part-requires-clause-parts c).In-Some)).0

pub cut_part-requires-clause-pieces : goal.cut_part-requires-clause-pieces
cut_part-requires-clause-pieces c = c.loop-part.invariant.pieces

pub loop-part-preserved : goal.loop-part-preserved
loop-part-preserved c =
    cutting-next c.args.self.now (sequence_at c.args.self.now c.args.f) _ c.loop-part.pieces.items
    c.loop-part.parts.items c.pop.new.self.items c.in-Some.part c.in-Some.ensures.items c.loop-part.invariant
    c.cut_part.new.parts.items c.cut_part.new.pieces.items c.in_ok-next.ensures.whole c.in_ok-next.ensures.pieces
    c.in_ok-next.ensures.parts

pub loop-part-smaller : goal.loop-part-smaller
loop-part-smaller c =
    cutting-smaller c.args.self.now (sequence_at c.args.self.now c.args.f) _ c.loop-part.pieces.items
    c.loop-part.parts.items c.pop.new.self.items c.in-Some.part c.in-Some.ensures.items c.loop-part.invariant
    c.cut_part.new.parts.items c.in_ok-next.ensures.steps

pub returns-clause-whole : goal.returns-clause-whole
returns-clause-whole c =
    cutting-all c.args.self.now (sequence_at c.args.self.now c.args.f) _ c.loop-part.pieces.items
    c.loop-part.parts.items (none-left c.loop-part.parts c.in_default.ensures.cases.0) c.loop-part.invariant

pub returns-clause-pieces : goal.returns-clause-pieces
returns-clause-pieces c = c.loop-part.invariant.pieces
