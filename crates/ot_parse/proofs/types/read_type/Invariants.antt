use Rattle.std.proofs.Common.{length}
use Rattle.ot_parse.specs.Frames.{IsOn}
use Rattle.ot_parse.proofs.types.read_type.Given as goal

abbrev pub invariant-types : goal.invariant-types
invariant-types l = IsOn l.notation l.room l.text l.frames.items l.rest

abbrev pub decreases-types : goal.decreases-types
decreases-types l = length l.rest
