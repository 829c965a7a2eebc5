use Rattle.std.proofs.Common.{take}
use Rattle.ot_parse.specs.Symbols.{AreNames}
use Rattle.ot_parse.proofs.notation.are_names.Given as goal

abbrev pub invariant-loop-name : goal.invariant-loop-name
invariant-loop-name l = AreNames (take l.name-index l.names)
