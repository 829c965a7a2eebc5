-- That reading a piece of a name passes bytes.
use Rattle.std.specs.Prelude.{◌<◌, ℕ, List, length}
use Rattle.ot_parse.specs.declared.spelling.Piece.{Piece}
use Rattle.ot_parse.specs.declared.spelling.Piece.TheVariants as pieces

-- fewer bytes follow a byte or a dot than the text has
abbrev pub IsShorter : Piece → List ℕ → Type 0
IsShorter (pieces.Byte b after) s = length after.now < length s
IsShorter (pieces.Dot after) s = length after.now < length s
IsShorter pieces.End s = Unit {0}
IsShorter (pieces.Stop r) s = Unit {0}
