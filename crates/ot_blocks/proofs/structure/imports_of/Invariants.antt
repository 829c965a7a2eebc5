use Rattle.std.proofs.Common.{take}
use Rattle.ot_blocks.specs.Answers.{places_in}
use Rattle.ot_blocks.proofs.Collecting.{ReadSoFar}
use Rattle.ot_blocks.proofs.structure.imports_of.Given as goal

abbrev pub invariant-each : goal.invariant-each
invariant-each l = ReadSoFar (places_in l.places) (take l.statement-index l.statements) l.imports.items
