-- Variables over numbers of types: the type with the number k stands as the type variable k.
use Rattle.std.specs.Prelude.{ℕ, List, slice_index_or, []}
use Rattle.ot_logic.specs.Trees.{Ty, TyVar, Variable}
use Rattle.ot_lists.specs.declared.list.Key.{Key}

-- the type with a number
abbrev pub numbered : ℕ → Ty ℕ
numbered t = TyVar t

-- the variable with a name and a type, by their numbers
abbrev pub variable_by : ℕ → ℕ → Variable ℕ
variable_by n t = record { name = n; ty = numbered t }

-- the variable of a key
abbrev pub variable_of : Key → Variable ℕ
variable_of v = variable_by v.name v.ty

-- the list of a number
abbrev pub list_at : List (List (Variable ℕ)) → ℕ → List (Variable ℕ)
list_at ls i = slice_index_or ls i []
