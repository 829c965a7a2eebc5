-- A log that has the parts of its types and terms.
use Rattle.std.specs.Prelude.{◌≡◌, true, List, [], ◌∷◌, ◌++◌}
use Rattle.ot_logic.specs.Names.{Name}
use Rattle.ot_logic.specs.Trees.{Ty, Tm}
use Rattle.ot_log_records.specs.Entries.{Node, TypeNode, TermNode, type_parts, term_parts}
use Rattle.ot_log_records.specs.Logged.{Log, is_among}

abbrev pub parts_of : Node → List Node
parts_of (TypeNode t) = type_parts t
parts_of (TermNode t) = term_parts t

-- a type or a term behind its parts
abbrev pub nodes_of : Node → List Node
nodes_of n = parts_of n ++ n ∷ []

-- all of these are among the types and the terms
abbrev pub AreAmong : List Node → List (Ty Name) → List (Tm Name) → Type 0
AreAmong [] types terms = Unit {0}
AreAmong (n ∷ ns) types terms = (is_among n types terms ≡ true) × AreAmong ns types terms

-- all of these were written
abbrev pub HasNodes : List Node → Log → Type 0
HasNodes ns x = AreAmong ns x.types x.terms

-- what was written was written with its parts
abbrev pub IsClosed : Log → Type 0
IsClosed x = (n : Node) → is_among n x.types x.terms ≡ true → AreAmong (nodes_of n) x.types x.terms
