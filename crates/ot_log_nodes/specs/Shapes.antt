-- Numbers of function types.
use Rattle.std.specs.Prelude.{◌≡◌, ℕ, List, Some}
use Rattle.ot_logic.specs.Naming.{names}
use Rattle.ot_logic.specs.Hol.{as_fun_ty}
use Rattle.ot_log_nodes.specs.Items.{Item, HasType, type_at}

-- the type of the number is that of functions from the type a to the type b
pub record IsFunction (ts : List Item) (id a b : ℕ) : Type 0 where
  pub is : as_fun_ty names (type_at ts id) ≡ Some (type_at ts a, type_at ts b)
  pub from : HasType ts a
  pub to : HasType ts b
