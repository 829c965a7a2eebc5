use Rattle.std.proofs.Common.{◌≡◌, ℕ, List, take}
use Rattle.ot_theory.specs.Answers.{blocks_of}
use Rattle.ot_blocks.specs.Structure.{block_places}
use Rattle.ot_blocks.specs.Answers.{places_in}
use Rattle.ot_blocks.proofs.structure.places_of.Given as goal

abbrev pub invariant-each : goal.invariant-each
invariant-each l = (name : List ℕ) → places_in l.places name ≡ block_places (blocks_of (take l.place l.blocks)) name
