-- The names that occur in objects, and those that articles of version 5 bring.
use Rattle.std.specs.Prelude.{codes, ◌<◌, ℕ, [], ◌∷◌}
use Rattle.std.specs.List.{AllByRecursion}
use Rattle.std.specs.Fmt.{decimal}
use Rattle.ot_logic.specs.Names.{Name}
use Rattle.ot_logic.specs.Naming.{names}
use Rattle.ot_logic.specs.Hol.{depth_limit}
use Rattle.ot_logic.specs.Trees.{Ty, Tys, TyVar, TyOp, NoTys, MoreTys, Tm, Free, Con, Bound, App, Abs, Sequent}
use Rattle.ot_machine.specs.Objects.{Object, Objects, number, name, list, type_op, a_type}
use Rattle.ot_machine.specs.Objects.{constant, variable, term, theorem, no_objects, more_objects}

-- each name that occurs has the property
module _ (P : Name → Type 0) where
  abbrev mutual
    pub TyNamed : Ty Name → Type 0
    TyNamed (TyVar n) = P n
    TyNamed (TyOp n ts) = P n × TysNamed ts

    pub TysNamed : Tys Name → Type 0
    TysNamed NoTys = Unit {0}
    TysNamed (MoreTys t ts) = TyNamed t × TysNamed ts

  abbrev pub TmNamed : Tm Name → Type 0
  TmNamed (Free v) = P v.name × TyNamed v.ty
  TmNamed (Con n t) = P n × TyNamed t
  TmNamed (Bound k) = Unit {0}
  TmNamed (App f x) = TmNamed f × TmNamed x
  TmNamed (Abs t b) = TyNamed t × TmNamed b

  abbrev pub SequentNamed : Sequent Name → Type 0
  SequentNamed q = AllByRecursion TmNamed q.hyps × TmNamed q.concl

  abbrev mutual
    pub ObjectNamed : Object → Type 0
    ObjectNamed (number k) = Unit {0}
    ObjectNamed (name n) = P n
    ObjectNamed (list os) = ObjectsNamed os
    ObjectNamed (type_op n) = P n
    ObjectNamed (a_type t) = TyNamed t
    ObjectNamed (constant n) = P n
    ObjectNamed (variable v) = P v.name × TyNamed v.ty
    ObjectNamed (term t) = TmNamed t
    ObjectNamed (theorem q) = SequentNamed q

    pub ObjectsNamed : Objects → Type 0
    ObjectsNamed no_objects = Unit {0}
    ObjectsNamed (more_objects o os) = ObjectNamed o × ObjectsNamed os

  -- the primitive symbols
  pub record HasPrimitives : Type 0 where
    pub arrow : P names.arrow
    pub bool_name : P names.bool_name
    pub equals : P names.equals

  -- the variables of the theorems of version 5, and its binders
  pub record HasVersion5 : Type 0 where
    pub primitives : HasPrimitives
    pub a : P (codes "a" ∷ [])
    pub r : P (codes "r" ∷ [])
    pub binders : (k : ℕ) → k < depth_limit → P (decimal k ∷ [])
