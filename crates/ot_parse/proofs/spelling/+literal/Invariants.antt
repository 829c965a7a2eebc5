use Rattle.std.proofs.Common.{length}
use Rattle.ot_parse.proofs.spelling.+literal.Given as goal

abbrev pub decreases-literal : goal.decreases-literal
decreases-literal l = length l.wanted.now
