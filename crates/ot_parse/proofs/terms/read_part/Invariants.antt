use Rattle.std.proofs.Common.{length}
use Rattle.ot_parse.specs.TermCode.{IsOn}
use Rattle.ot_parse.proofs.terms.read_part.Given as goal

abbrev pub invariant-terms : goal.invariant-terms
invariant-terms l = IsOn l.total l.notation l.text l.frames.items l.rest

abbrev pub decreases-terms : goal.decreases-terms
decreases-terms l = length l.rest
