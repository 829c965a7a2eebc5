-- The shapes of terms and types that steps ask for.
use Rattle.std.specs.Prelude.{◌≡◌, ℕ, List, Some}
use Rattle.ot_logic.specs.Names.{Name}
use Rattle.ot_logic.specs.Naming.{names}
use Rattle.ot_logic.specs.Trees.{Ty, Tm, Con, App, Abs}
use Rattle.ot_logic.specs.Hol.{fun_ty, bool_ty, as_equation}
use Rattle.ot_log_nodes.specs.Items.{Item, HasType, HasTerm, type_at, term_at}
use Rattle.ot_log_rules.specs.declared.shapes.Sides.{Sides}

-- the term is the application of a function to an argument
pub record IsApp (ts : List Item) (id function argument : ℕ) : Type 0 where
  pub is : term_at ts id ≡ App (term_at ts function) (term_at ts argument)
  pub f : HasTerm ts function
  pub x : HasTerm ts argument

-- the equality relation over a type
abbrev pub equals_at : Ty Name → Tm Name
equals_at a = Con names.equals (fun_ty names a (fun_ty names a (bool_ty names)))

pub record IsEquals (ts : List Item) (id a : ℕ) : Type 0 where
  pub is : term_at ts id ≡ equals_at (type_at ts a)
  pub ty : HasType ts a

-- the type is that of relations over the type a
pub record IsRelation (ts : List Item) (id a : ℕ) : Type 0 where
  pub is : type_at ts id ≡ fun_ty names (type_at ts a) (fun_ty names (type_at ts a) (bool_ty names))
  pub ty : HasType ts a

-- the term is the equation of the two sides
pub record AreSides (ts : List Item) (id : ℕ) (s : Sides) : Type 0 where
  pub is : as_equation names (term_at ts id) ≡ Some (type_at ts s.ty, term_at ts s.left, term_at ts s.right)
  pub ty : HasType ts s.ty
  pub left : HasTerm ts s.left
  pub right : HasTerm ts s.right

-- the numbers of an equation's sides and of their type are of the table
pub record HasSides (ts : List Item) (s : Sides) : Type 0 where
  pub left : HasTerm ts s.left
  pub right : HasTerm ts s.right
  pub ty : HasType ts s.ty

-- the term is the abstraction of the body b over the type a
pub record IsAbs (ts : List Item) (id a b : ℕ) : Type 0 where
  pub is : term_at ts id ≡ Abs (type_at ts a) (term_at ts b)
  pub ty : HasType ts a
  pub body : HasTerm ts b
