use Rattle.std.proofs.Common.{◌≤◌, ◌+◌, length, take}
use Rattle.ot_parse.specs.TermFrames.{around}
use Rattle.ot_parse.specs.TermCode.{frames_of}
use Rattle.ot_parse.proofs.Places.{ArePassed}
use Rattle.ot_parse.proofs.terms.bound_part.Given as goal

abbrev pub invariant-frames : goal.invariant-frames
invariant-frames l = (l.number + l.left ≤ length l.frames) × ArePassed (around (frames_of l.frames)) l.name l.number
    (around (frames_of (take l.left l.frames)))

abbrev pub decreases-frames : goal.decreases-frames
decreases-frames l = l.left
