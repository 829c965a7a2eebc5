-- The printed text of a summary, over names: up to three sections.
use Rattle.std.specs.Prelude.{List, ◌++◌, map, codes, ℕ}
use Rattle.ot_logic.specs.Names.{Name}
use Rattle.ot_logic.specs.Trees.{Sequent, Definition}
use Rattle.ot_args.specs.declared.sections.Sections.{Sections}
use Rattle.ot_text.specs.Texts.{ascending, sequent_text}
use Rattle.ot_text.specs.Sections.{definition_text, section_text}

-- assumptions in the order of the bytes of their texts, definitions and theorems in their own order
abbrev pub summary_text : Sections → List (Sequent Name) → List (Definition Name) → List (Sequent Name) → List ℕ
summary_text s al dl el =
    section_text s.assumptions (codes "assumptions") (ascending (map sequent_text al))
    ++ section_text s.definitions (codes "definitions") (map definition_text dl)
    ++ section_text s.theorems (codes "theorems") (map sequent_text el)
