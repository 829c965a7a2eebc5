use Rattle.std.proofs.Common.{◌≡◌, take}
use Rattle.ot_blocks.specs.Structure.{imported_blocks}
use Rattle.ot_blocks.specs.Answers.{lists_of}
use Rattle.ot_blocks.proofs.structure.imported_blocks.Given as goal

abbrev pub invariant-each : goal.invariant-each
invariant-each l = lists_of l.imports.items ≡ imported_blocks (lists_of (take l.list-index l.graph))
