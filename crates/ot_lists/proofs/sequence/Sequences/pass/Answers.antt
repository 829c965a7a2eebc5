use Rattle.ot_lists.specs.declared.sequence.walk.Part.TheVariants.{Tree}
use Rattle.ot_lists.proofs.PartLemmas.{left-passed, left-opened, out-of-bounds}
use Rattle.ot_lists.proofs.sequence.Sequences.pass.Goals as goal

pub returns-then-is_outside-clause-left : goal.returns-then-is_outside-clause-left
returns-then-is_outside-clause-left c = λ l h.
    left-passed c.args.self.now c.args.x l c.args.parts.now.items (Tree c.args.tree) c.args.end h
    (out-of-bounds _ c.args.x c.extent-extent.result c.extent-extent.ensures.describes (c.is_outside.ensures c.if-is_outside.true)) _
    c.extent-extent.ensures.describes.count_is

pub returns-clause-left : goal.returns-clause-left
returns-clause-left c = λ l h.
    left-opened c.args.self.now c.args.x l c.args.parts.now.items (Tree c.args.tree) c.args.end h _
    c.in_ok-open.ensures.spread
