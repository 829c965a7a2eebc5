-- Equations of named terms.
use Rattle.std.specs.Prelude.{◌≡◌, ℕ, slice_get, Some}
use Rattle.ot_logic.specs.Trees.{Ty, Named, NConst, NApp}
use Rattle.ot_logic.specs.Hol.{fun_ty, bool_ty}
use Rattle.ot_logic.specs.Naming.{numbers}
use Rattle.ot_term.specs.Term.{TermTable}
use Rattle.ot_term.specs.declared.table.equation.Equality.{Equality}

-- the one type of `=` at which it is equality: a -> (a -> bool)
abbrev pub equality_ty : Ty ℕ → Ty ℕ
equality_ty ty = fun_ty numbers ty (fun_ty numbers ty (bool_ty numbers))

-- a = b, where both have this type
abbrev pub named_equation : Ty ℕ → Named ℕ → Named ℕ → Named ℕ
named_equation ty a b = NApp (NApp (NConst numbers.equals (equality_ty ty)) a) b

-- the table has `=` between terms of this type, and the types of its application to one term and to two
pub record IsEquality (t : TermTable) (ty : Ty ℕ) (e : Equality) : Type 0 where
  pub constant : slice_get t.terms e.constant ≡ Some (NConst numbers.equals (equality_ty ty))
  pub test : slice_get t.types e.test ≡ Some (fun_ty numbers ty (bool_ty numbers))
  pub truth : slice_get t.types e.truth ≡ Some (bool_ty numbers)
