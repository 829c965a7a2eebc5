-- The text of what theorems rest on.
use Rattle.std.specs.Prelude.{ℕ, suc, List, [], ◌∷◌, ◌++◌, map, length, codes}
use Rattle.ot_text.specs.Texts.{number_text, ascending, sequent_text}
use Rattle.ot_text.specs.Sections.{definition_text, indented_text}
use Rattle.ot_machine.specs.States.{Export, RunState}
use Rattle.ot_uses.specs.Used.{Support, support_of}

-- a line with how many there are, and a line for each
abbrev pub counted_text : List ℕ → List (List ℕ) → List ℕ
counted_text title xs = codes "  " ++ title ++ codes ": " ++ number_text (length xs) ++ 10 ∷ indented_text xs

-- a theorem with its number, its assumptions in the order of the bytes of their texts, and its definitions as they
-- were accepted
abbrev pub support_text : ℕ → Support → List ℕ
support_text i s = (codes "theorem " ++ number_text i ++ codes ": " ++ sequent_text s.theorem ++ 10 ∷ [])
    ++ counted_text (codes "assumptions") (ascending (map sequent_text s.assumptions))
    ++ counted_text (codes "definitions") (map definition_text s.definitions)

-- one after another, numbered from i on
abbrev pub supports_text : ℕ → List Support → List ℕ
supports_text i [] = []
supports_text i (s ∷ ss) = support_text i s ++ supports_text (suc i) ss

-- of the exports of a run, numbered from 1 on
abbrev pub uses_text : RunState → List Export → List ℕ
uses_text r es = supports_text 1 (map (support_of r) es)
