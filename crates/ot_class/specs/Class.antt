-- What contracts see of the table of alpha classes: shapes and lists, each by number, over numbers of types.
use Rattle.std.specs.Prelude.{◌≡◌, ℕ, ◌<◌, List, Option, Some, length, slice_get, slice_index_or, refl}
use Rattle.std.specs.Coded.{Coded, code_by, coded×, coded_list, coded_option, coded_ℕ}
use Rattle.ot_logic.specs.Trees.{Variable}
use Rattle.ot_logic.specs.Codes.{coded_variable}
use Rattle.ot_logic.specs.Table.{Extends, IsInjective}
use Rattle.ot_shape.specs.Shape.{Shape, Hole, Class}
use Rattle.ot_shape.specs.Codes.{coded_shape}
use Rattle.ot_lists.specs.Variables.{list_at}
use Rattle.ot_class.specs.Numbers.{shape_number, list_number}

-- shapes, lists of variables, and maps between their holes
pub record ClassTable : Type 0 where
  pub shapes : List (Shape ℕ)
  pub lists : List (List (Variable ℕ))
  pub maps : List (List (Option ℕ))

abbrev pub coded_table : Coded ClassTable
coded_table =
    code_by (List (Shape ℕ) × (List (List (Variable ℕ)) × List (List (Option ℕ))))
    (coded× (coded_list (coded_shape coded_ℕ))
    (coded× (coded_list (coded_list (coded_variable coded_ℕ))) (coded_list (coded_list (coded_option coded_ℕ)))))
    (λ t. (t.shapes, (t.lists, t.maps))) (λ p. record { shapes = p.0; lists = p.1.0; maps = p.1.1 }) (λ _. refl)

-- the shape of a number
abbrev pub shape_at : List (Shape ℕ) → ℕ → Shape ℕ
shape_at ss i = slice_index_or ss i Hole

-- the class of a number
abbrev pub class_at : ClassTable → ℕ → Class ℕ
class_at t c = record { shape = shape_at t.shapes (shape_number c); frees = list_at t.lists (list_number c) }

-- a number of the table
pub record IsNumber (t : ClassTable) (c : ℕ) : Type 0 where
  pub shape : shape_number c < length t.shapes
  pub list : list_number c < length t.lists

-- the number of this class
pub record IsNumberOf (t : ClassTable) (k : Class ℕ) (c : ℕ) : Type 0 where
  pub shape : slice_get t.shapes (shape_number c) ≡ Some k.shape
  pub list : slice_get t.lists (list_number c) ≡ Some k.frees

-- each number keeps what it stands for
pub record Grows (old new : ClassTable) : Type 0 where
  pub shapes : Extends old.shapes new.shapes
  pub lists : Extends old.lists new.lists
  pub maps : Extends old.maps new.maps

-- each shape, each list and each map has one number
pub record AreOnce (t : ClassTable) : Type 0 where
  pub shapes : IsInjective t.shapes
  pub lists : IsInjective t.lists
  pub maps : IsInjective t.maps
