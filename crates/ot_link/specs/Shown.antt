-- The namespaces that a theory file shows.
use Rattle.std.specs.Prelude.{ℕ, cond, List, [], ◌∷◌, codes, Option, Some, None, Ok}
use Rattle.std.specs.List.{flat_map}
use Rattle.std.specs.Str.{bytes_eq}
use Rattle.ot_logic.specs.Names.{Name}
use Rattle.ot_logic.specs.Reading.{name_read}
use Rattle.ot_theory.specs.Theory.{TagText}
use Rattle.ot_link.specs.Stops.{Linked, Setting, answered, ◌>>=◌}
use Rattle.ot_link.specs.Link.{theory_at}

-- one name, where there is one
abbrev pub at_most_one : Option Name → List Name
at_most_one None = []
at_most_one (Some n) = n ∷ []

-- a tag `show:` whose value is one quoted name shows the namespace that has all its components; other tags show none
abbrev pub shown_by : TagText → List Name
shown_by t = cond (bytes_eq t.key (codes "show")) (at_most_one (name_read t.value)) []

-- the namespaces of the tags, in the order of their lines
abbrev pub shown_by_all : List TagText → List Name
shown_by_all ts = flat_map shown_by ts

-- those of the theory file of a path
abbrev pub shown : Setting → List ℕ → Linked (List Name)
shown e path = theory_at e path >>= λ t. answered (Ok (shown_by_all t.tags))
