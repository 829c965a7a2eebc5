use Rattle.std.proofs.Common.{length, subst}
use Rattle.ot_parse.specs.Frames.{BeginsWithin}
use Rattle.ot_parse.proofs.types.read_type.Goals as goal

pub types-smaller : goal.types-smaller
types-smaller c = subst (BeginsWithin (length c.types.rest.now)) c.in-Begins.is c.in_ok-ty.ensures.shorter
