-- The text of the matches of a pattern.
use Rattle.std.specs.Prelude.{◌≡◌, ℕ, false, List, [], ◌∷◌, ◌++◌, map, length, codes}
use Rattle.ot_logic.specs.Names.{Name}
use Rattle.ot_logic.specs.Trees.{Ty, TyVar, Variable, Tm, Free}
use Rattle.ot_text.specs.Texts.{ty_text, tm_text, sequent_text, number_text, ascending}
use Rattle.ot_text.specs.Pages.{Bytes, is_stopped, IsPut, printed}
use Rattle.ot_text.specs.Sections.{indented_text}
use Rattle.ot_find.specs.Matches.{Found}
use Rattle.ot_find.specs.declared.search.Search.{Search}

-- a type variable of the pattern, and what stands for it
abbrev pub type_line : Name × Ty Name → List ℕ
type_line q = codes "type " ++ ty_text (TyVar q.0) ++ codes " := " ++ ty_text q.1

-- a free variable of the pattern after the types, and what stands for it
abbrev pub variable_line : Variable Name × Tm Name → List ℕ
variable_line q = tm_text (Free q.0) ++ codes " := " ++ tm_text q.1

-- a match: its source and its sequent, then the types and then the variables, both in the order of their bytes
abbrev pub found_text : Found → List ℕ
found_text f = (codes "  " ++ f.source ++ codes ": " ++ sequent_text f.sequent ++ 10 ∷ [])
    ++ indented_text (ascending (map type_line f.types)) ++ indented_text (ascending (map variable_line f.vars))

-- one after another
abbrev pub matches_text : List Found → List ℕ
matches_text [] = []
matches_text (f ∷ fs) = found_text f ++ matches_text fs

-- how many there are, and each
abbrev pub find_text : List Found → List ℕ
find_text fs = codes "matches: " ++ number_text (length fs) ++ 10 ∷ matches_text fs

-- a search has found these so far: their text was put on its page, and it counted them
pub record HasFound (search : Search) (fs : List Found) : Type 0 where
  pub text : IsPut (matches_text fs) (Bytes [] search.max) (printed search.page)
  pub count : is_stopped (printed search.page) ≡ false → search.count ≡ length fs
