use Rattle.ot_lists.proofs.Cutting.{cut-beside}
use Rattle.ot_lists.proofs.sequence.Sequences.cut.Goals as goal

pub intern-requires-clause-beside : goal.intern-requires-clause-beside
intern-requires-clause-beside c =
    cut-beside c.args.self.now c.extent-left.ensures.table c.args.before c.args.x c.args.behind c.extent-left.result
    c.extent-right.result c.in_ok-extent.extent c.extent-left.ensures.describes c.extent-right.ensures.describes
    c.requires.before c.requires.behind c.requires.key c.requires.top c.requires.distinct c.in_ok-extent.ensures.count
    c.in_ok-extent.ensures.low c.in_ok-extent.ensures.high
