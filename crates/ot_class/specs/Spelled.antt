-- What a class over numbers of types stands for, by a table of types.
use Rattle.std.specs.Prelude.{◌≡◌, ℕ, ◌<◌, List, map}
use Rattle.std.specs.List.{AllByRecursion}
use Rattle.ot_logic.specs.Trees.{Ty, Variable}
use Rattle.ot_logic.specs.Hol.{inst_by}
use Rattle.ot_logic.specs.Naming.{numbers}
use Rattle.ot_type.specs.TypeTable.{type_at}
use Rattle.ot_shape.specs.Shape.{Shape, Hole, Constant, Apply, Bind, Class}
use Rattle.ot_lists.specs.Variables.{numbered}

-- the type is the number of one of the first n types
pub record IsNumbered (n : ℕ) (t : Ty ℕ) : Type 0 where
  pub number : ℕ
  pub below : number < n
  pub is : t ≡ numbered number

-- each type in the shape is
abbrev pub IsShapeOver : ℕ → Shape ℕ → Type 0
IsShapeOver n Hole = Unit {0}
IsShapeOver n (Constant c t) = IsNumbered n t
IsShapeOver n (Apply f x m) = IsShapeOver n f × IsShapeOver n x
IsShapeOver n (Bind t k b) = IsNumbered n t × IsShapeOver n b

-- each type in the class is
pub record IsOver (n : ℕ) (k : Class ℕ) : Type 0 where
  pub shape : IsShapeOver n k.shape
  pub frees : AllByRecursion (λ v. IsNumbered n v.ty) k.frees

-- the type that a number stands for
abbrev pub spelled_ty : List (Ty ℕ) → Ty ℕ → Ty ℕ
spelled_ty tys = inst_by numbers (type_at tys)

abbrev pub spelled_var : List (Ty ℕ) → Variable ℕ → Variable ℕ
spelled_var tys v = record { name = v.name; ty = spelled_ty tys v.ty }

abbrev pub spelled_shape : List (Ty ℕ) → Shape ℕ → Shape ℕ
spelled_shape tys Hole = Hole
spelled_shape tys (Constant c t) = Constant c (spelled_ty tys t)
spelled_shape tys (Apply f x m) = Apply (spelled_shape tys f) (spelled_shape tys x) m
spelled_shape tys (Bind t k b) = Bind (spelled_ty tys t) k (spelled_shape tys b)

-- the class with each type in the place of its number
abbrev pub spelled : List (Ty ℕ) → Class ℕ → Class ℕ
spelled tys k = record { shape = spelled_shape tys k.shape; frees = map (spelled_var tys) k.frees }
