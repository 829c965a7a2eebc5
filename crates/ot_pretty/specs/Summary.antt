-- The readable summary of a run: what it writes, and that it reads back.
use Rattle.std.specs.Prelude.{◌≡◌, ℕ, true, List, ◌++◌, map, codes}
use Rattle.std.specs.List.{All}
use Rattle.ot_logic.specs.Lists.{IsSameSet}
use Rattle.ot_logic.specs.Names.{Name}
use Rattle.ot_logic.specs.Trees.{Sequent, Definition, Symbol}
use Rattle.ot_kernel.specs.State.{State, theorem_at}
use Rattle.ot_text.specs.Texts.{ascending}
use Rattle.ot_text.specs.Sections.{section_text}
use Rattle.ot_forms.specs.Words.{hidden_symbols}
use Rattle.ot_forms.specs.Printing.{readable_text}
use Rattle.ot_pretty.specs.Run.{symbols_of_run}
use Rattle.ot_pretty.specs.Back.{ReadsBackAs}

-- the symbols that a run writes by their base names, where these namespaces are shown
abbrev pub hidden_in_run : List Name → (assumptions exports : List (Sequent Name)) → List (Definition Name)
    → List (Symbol Name)
hidden_in_run shown assumptions exports definitions =
    hidden_symbols shown (symbols_of_run assumptions exports definitions)

-- a section of the readable texts of assumptions, in the order of their bytes, and one of those of theorems, in their
-- own order
abbrev pub readable_summary : List (Symbol Name) → (assumptions theorems : List (Sequent Name)) → List ℕ
readable_summary hidden assumptions theorems =
    section_text true (codes "assumptions") (ascending (map (readable_text hidden) assumptions))
    ++ section_text true (codes "theorems") (map (readable_text hidden) theorems)

-- each of these texts reads back as the sequent that it was printed for
pub record ReadBack (hidden : List (Symbol Name)) (assumptions theorems : List (Sequent Name)) : Type 0 where
  pub assumptions_are : All (ReadsBackAs hidden) assumptions
  pub theorems_are : All (ReadsBackAs hidden) theorems

-- ---- of a kernel's run that exports the theorems of these numbers

abbrev pub hidden_at : State → List Name → List ℕ → List (Symbol Name)
hidden_at s shown theorems = hidden_in_run shown s.assumptions (map (theorem_at s) theorems) s.definitions

abbrev pub summary_at : State → List (Symbol Name) → List ℕ → List ℕ
summary_at s hidden theorems = readable_summary hidden s.assumptions (map (theorem_at s) theorems)

-- the symbols that are hidden of a run's symbols, whichever order these have
pub record IsHiddenAt (s : State) (shown : List Name) (theorems : List ℕ) (hidden : List (Symbol Name)) : Type 0 where
  pub symbols : List (Symbol Name)
  pub same : IsSameSet symbols (symbols_of_run s.assumptions (map (theorem_at s) theorems) s.definitions)
  pub hides : hidden ≡ hidden_symbols shown symbols
