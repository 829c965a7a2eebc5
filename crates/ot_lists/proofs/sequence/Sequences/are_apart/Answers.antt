use Rattle.ot_lists.proofs.Apart.{bounds-apart}
use Rattle.ot_lists.proofs.sequence.Sequences.are_apart.Goals as goal

pub returns-clause-apart : goal.returns-clause-apart
returns-clause-apart c = λ e. bounds-apart _ _ c.extent-left.result c.extent-right.result c.extent-left.ensures.describes
    c.extent-right.ensures.describes (c.bounds_are_apart.ensures e)
