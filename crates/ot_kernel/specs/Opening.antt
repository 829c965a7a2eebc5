-- The theorems of a type operator with variables in the place of binders, as articles of version 5 have them.
use Rattle.std.specs.Prelude.{codes, ◌≡◌, suc, List, [], ◌∷◌, ◌++◌, length, Result, Ok, Err}
use Rattle.ot_logic.specs.Names.{Name}
use Rattle.ot_logic.specs.Naming.{names}
use Rattle.ot_logic.specs.Trees.{Alphabet, Ty, TyOp, Variable, Tm, Free, Con, Bound}
use Rattle.ot_logic.specs.Trees.{App, Abs, Sequent, Definition, ConDef, ListDef, TyDef}
use Rattle.ot_logic.specs.Hol.{fun_ty, bool_ty, type_of, equation, is_shallow, sequent_of, tys_of_vars, theorems}
use Rattle.ot_logic.specs.Faults.{Nesting}
use Rattle.ot_logic.specs.Answers.{◌>>=◌, unless}
use Rattle.ot_kernel.specs.Defining.{Defining, type_definition}
use Rattle.ot_kernel.specs.State.{State, name_at, SameTheorems}
use Rattle.ot_kernel.specs.Answers.{RefusesBy}
use Rattle.ot_kernel.specs.declared.fault.RuleFault.{RuleFault}
use Rattle.ot_kernel.specs.declared.open_types.Type5.{Type5}

-- a and r: the names of the two variables
module _ {N : Type 0} (alphabet : Alphabet N) (a r : N) where
  -- abs (rep a) = a for the variable a of the new type, and p r = (rep (abs r) = r) for the variable r of the old one
  abbrev pub open_theorems : Ty N → Ty N → N → N → Tm N → List (Sequent N)
  open_theorems ty u abs rep p =
      let c = Con abs (fun_ty alphabet u ty) in
      let d = Con rep (fun_ty alphabet ty u) in
      let x = Free (record { name = a; ty = ty }) in
      let y = Free (record { name = r; ty = u }) in
      sequent_of alphabet (equation alphabet ty (App c (App d x)) x)
      ∷ sequent_of alphabet (equation alphabet (bool_ty alphabet) (App p y) (equation alphabet u (App d (App c y)) y))
      ∷ []

  -- of a premise p t
  abbrev pub open_theorems_at : N → N → N → List N → Tm N → List (Sequent N)
  open_theorems_at n abs rep vs (App p t) =
      open_theorems (TyOp n (tys_of_vars alphabet vs)) (type_of alphabet t) abs rep p
  open_theorems_at n abs rep vs _ = []

module _ {N : Type 0} (alphabet : Alphabet N) where
  -- (\v. p v) v = p v; once p is four levels deep, no term on the way to them is deeper
  abbrev pub beta_over : Variable N → Tm N → Tm N
  beta_over v p = equation alphabet (bool_ty alphabet) (App (Abs v.ty (App p (Bound 0))) (Free v)) (App p (Free v))

-- r: the name of the variable of the old type
module _ {N : Type 0} (alphabet : Alphabet N) (r : N) where
  abbrev pub beta_at : Tm N → Tm N
  beta_at (App p t) = beta_over alphabet (record { name = r; ty = type_of alphabet t }) p
  beta_at t = t

  -- the definition of a type operator whose theorems lead to the open ones within the limit
  abbrev pub open_type_definition : List (Definition N) → (n abs rep : N) → List N → Sequent N → Defining alphabet
  open_type_definition dl n abs rep vars q = do
    d ← type_definition alphabet dl n abs rep vars q
    _ ← unless Nesting (is_shallow alphabet (beta_at q.concl))
    Ok d

-- ---- what the kernel's call answers

-- the two variables
abbrev pub var_a : Name
var_a = codes "a" ∷ []

abbrev pub var_r : Name
var_r = codes "r" ∷ []

-- the open theorems of a definition of a type operator
abbrev pub opened_by : Definition Name → List (Sequent Name)
opened_by (TyDef n abs rep vs q) = open_theorems_at names var_a var_r n abs rep vs q.concl
opened_by (ConDef n t) = []
opened_by (ListDef ps q) = []

-- the theorems of a type and its open theorems stand one after another at the end, and the definition; after a
-- refusal all is as before
abbrev pub DefinesOpenType : Result Type5 RuleFault → Defining names → State → State → Type 0
DefinesOpenType (Ok ids) stated old new =
    (d : Definition Name) × (stated ≡ Ok d) × (new.definitions ≡ old.definitions ++ d ∷ [])
    × (new.theorems ≡ old.theorems ++ theorems names d ++ opened_by d)
    × (ids ≡ record {
      abs_th = length old.theorems;
      rep_th = suc (length old.theorems);
      abs_open = suc (suc (length old.theorems));
      rep_open = suc (suc (suc (length old.theorems)));
    })
    × (new.assumptions ≡ old.assumptions)
DefinesOpenType (Err e) stated old new = SameTheorems old new × RefusesBy (name_at new) e stated
