use Rattle.std.proofs.Common.{take}
use Rattle.ot_blocks.specs.Answers.{places_in, lists_of}
use Rattle.ot_blocks.proofs.Collecting.{DrawnSoFar}
use Rattle.ot_blocks.proofs.structure.graph_of.Given as goal

abbrev pub invariant-each : goal.invariant-each
invariant-each l = DrawnSoFar (places_in l.places) (take l.block-index l.blocks) (lists_of l.graph.items)
