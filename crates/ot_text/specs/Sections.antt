-- The printed texts of definitions and of a summary's sections, over names.
use Rattle.std.specs.Prelude.{Bool, true, false, List, [], ◌∷◌, ◌++◌, length, codes, ℕ}
use Rattle.ot_logic.specs.Names.{Name}
use Rattle.ot_logic.specs.Naming.{names}
use Rattle.ot_logic.specs.Trees.{Variable, Free, Sequent, Definition, ConDef, ListDef, TyDef}
use Rattle.ot_logic.specs.Hol.{theorems}
use Rattle.ot_text.specs.Texts.{name_text, number_text, tm_text, sequent_text}

-- ---- definitions: what is defined, from what, and the theorems

-- the further theorems, a semicolon before each
abbrev pub further_theorems : List (Sequent Name) → List ℕ
further_theorems [] = []
further_theorems (q ∷ qs) = codes " ; " ++ sequent_text q ++ further_theorems qs

abbrev pub theorems_text : List (Sequent Name) → List ℕ
theorems_text [] = []
theorems_text (q ∷ qs) = sequent_text q ++ further_theorems qs

-- a constant's name and its variable
abbrev pub pair_text : Name × Variable Name → List ℕ
pair_text p = codes " " ++ name_text p.0 ++ codes " for " ++ tm_text (Free p.1)

-- the further pairs, a comma before each
abbrev pub further_pairs : List (Name × Variable Name) → List ℕ
further_pairs [] = []
further_pairs (p ∷ ps) = codes "," ++ pair_text p ++ further_pairs ps

abbrev pub pairs_text : List (Name × Variable Name) → List ℕ
pairs_text [] = []
pairs_text (p ∷ ps) = pair_text p ++ further_pairs ps

-- the further names, a space before each
abbrev pub further_names : List Name → List ℕ
further_names [] = []
further_names (n ∷ ns) = codes " " ++ name_text n ++ further_names ns

abbrev pub names_text : List Name → List ℕ
names_text [] = []
names_text (n ∷ ns) = name_text n ++ further_names ns

-- what is defined, and from what
abbrev pub head_text : Definition Name → List ℕ
head_text (ConDef n t) = codes "const " ++ name_text n
head_text (ListDef ps q) = codes "consts" ++ pairs_text ps ++ codes " from " ++ sequent_text q
head_text (TyDef n abs rep vs q) = codes "type " ++ name_text n ++ codes " (" ++ names_text vs ++ codes ") abs "
    ++ name_text abs ++ codes " rep " ++ name_text rep ++ codes " from " ++ sequent_text q

abbrev pub definition_text : Definition Name → List ℕ
definition_text d = head_text d ++ codes " : " ++ theorems_text (theorems names d)

-- ---- a section of a summary: a line with a count, and a line for each item

-- each on a line of its own behind two spaces
abbrev pub items_text : List (List ℕ) → List ℕ
items_text [] = []
items_text (x ∷ xs) = codes "  " ++ x ++ 10 ∷ items_text xs

-- a section, where it is asked for
abbrev pub section_text : Bool → List ℕ → List (List ℕ) → List ℕ
section_text false title xs = []
section_text true title xs = title ++ codes ": " ++ number_text (length xs) ++ 10 ∷ items_text xs

-- each on a line of its own behind four spaces
abbrev pub indented_text : List (List ℕ) → List ℕ
indented_text [] = []
indented_text (x ∷ xs) = codes "    " ++ x ++ 10 ∷ indented_text xs
