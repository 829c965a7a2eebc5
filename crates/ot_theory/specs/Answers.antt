-- What the code's answers stand for.
use Rattle.std.specs.Prelude.{◌≡◌, ℕ, List, map, Result, Ok, Err}
use Rattle.ot_theory.specs.Theory.{TagText, BlockText, TheoryText}
use Rattle.ot_theory.specs.declared.theory.Tag.{Tag}
use Rattle.ot_theory.specs.declared.theory.Block.{Block}
use Rattle.ot_theory.specs.declared.theory.Theory.{Theory}
use Rattle.ot_theory.specs.declared.fault.TheoryFault.{TheoryFault}
use Rattle.ot_theory.specs.declared.fault.TheoryError.{TheoryError}
use Rattle.ot_theory.specs.declared.fault.TheoryError.TheVariants.{At, Memory}

-- a statement, without where it lies in the text
abbrev pub tag_of : Tag → TagText
tag_of t = record { line = t.line; key = t.key.now; value = t.value.now }

abbrev pub tags_of : List Tag → List TagText
tags_of ts = map tag_of ts

-- a block, likewise
abbrev pub block_of : Block → BlockText
block_of b = record { line = b.line; name = b.name.now; statements = tags_of b.statements.items }

abbrev pub blocks_of : List Block → List BlockText
blocks_of bs = map block_of bs

-- a theory file, likewise
abbrev pub theory_of : Theory → TheoryText
theory_of t = record { tags = tags_of t.tags.items; blocks = blocks_of t.blocks.items }

-- the answer is the stated one, unless memory ran out
abbrev pub Parses : Result Theory TheoryError → Result TheoryText (ℕ × TheoryFault) → Type 0
Parses (Ok t) stated = stated ≡ Ok (theory_of t)
Parses (Err (At line fault)) stated = stated ≡ Err (line, fault)
Parses (Err (Memory memory)) stated = Unit {0}
