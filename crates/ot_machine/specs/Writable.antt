-- Names that a line can say.
use Rattle.ot_logic.specs.Names.{Name, IsName, spelled}
use Rattle.ot_scan.specs.Lines.{IsLineText}

-- its spelling has no newline, and is within the limit of a line
pub record IsWritable (n : Name) : Type 0 where
  pub named : IsName n
  pub line : IsLineText (spelled n)
