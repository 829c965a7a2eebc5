-- The table of lists of variables.
use Rattle.std.specs.Prelude.{ℕ, List, map, slice_index_or}
use Rattle.ot_logic.specs.Trees.{Variable}
use Rattle.ot_lists.specs.Variables.{variable_of}
use Rattle.ot_lists.specs.SequenceTable.{SequenceTable}
use Rattle.ot_lists.specs.declared.list.Key.{Key}

-- the variable of a number
abbrev pub key_at : List Key → ℕ → Key
key_at ks x = slice_index_or ks x (record { name = 0; ty = 0 })

abbrev pub variable_at : List Key → ℕ → Variable ℕ
variable_at ks x = variable_of (key_at ks x)

-- the lists of variables
abbrev pub lists_of : SequenceTable → List (List (Variable ℕ))
lists_of t = map (map (variable_at t.keys)) t.lists
