use Rattle.std.proofs.Common.{◌≡◌, length, false}
use Rattle.ot_forms.specs.Reading.{mapped}
use Rattle.ot_parse.specs.Gives.{name_at, glued}
use Rattle.ot_parse.proofs.spelling.read_name.Given as goal

abbrev pub invariant-pieces : goal.invariant-pieces
invariant-pieces l = mapped (glued l.parts) (name_at l.is_quoted l.is_inside l.rest)
    ≡ name_at l.is_quoted false l.text

abbrev pub decreases-pieces : goal.decreases-pieces
decreases-pieces l = length l.rest
