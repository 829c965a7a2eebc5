use Rattle.std.proofs.Common.{◌≤◌, length}
use Rattle.ot_forms.specs.Reading.{Got}
use Rattle.ot_logic.specs.PlainTrees.{type_of_tree}
use Rattle.ot_parse.specs.Frames.{frames_of, IsLeft}
use Rattle.ot_parse.proofs.types.close.Given as goal

abbrev pub invariant-frames : goal.invariant-frames
invariant-frames l = IsLeft l.notation (frames_of l.initial.frames.items) (frames_of l.frames.items)
    (Got (type_of_tree l.initial.ty) l.text) (Got (type_of_tree l.ty) l.rest) × (length l.rest ≤ length l.text)

abbrev pub decreases-frames : goal.decreases-frames
decreases-frames l = length l.frames.items
