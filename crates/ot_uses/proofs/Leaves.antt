-- Origins whose axioms and definitions give theorems over these assumptions and definitions.
use Rattle.std.specs.Prelude.{List, IfOk}
use Rattle.ot_logic.specs.Names.{Name}
use Rattle.ot_logic.specs.Naming.{names}
use Rattle.ot_logic.specs.Trees.{Sequent, Definition}
use Rattle.ot_logic.specs.Hol.{IsWellTyped}
use Rattle.ot_logic.specs.declared.command.Cmd.{Cmd}
use Rattle.ot_logic.specs.declared.command.Cmd.TheVariants as words
use Rattle.ot_laws.specs.Theorem.{IsTheorem}
use Rattle.ot_machine.specs.Objects.{Object, Objects, number, name, list, type_op, a_type}
use Rattle.ot_machine.specs.Objects.{constant, variable, term, theorem, no_objects, more_objects}
use Rattle.ot_trace.specs.Origins.{Origin, Origins, Number, Named, Make, Define, Outcome, NoOrigins, MoreOrigins}
use Rattle.ot_machine.specs.Values.{value}

module _ (al : List (Sequent Name)) (dl : List (Definition Name)) where
  -- the terms of an object are well typed, and its theorems are theorems
  abbrev mutual
    pub IsGood : Object → Type 0
    IsGood (number k) = Unit {0}
    IsGood (name n) = Unit {0}
    IsGood (list os) = AreGood os
    IsGood (type_op n) = Unit {0}
    IsGood (a_type t) = Unit {0}
    IsGood (constant n) = Unit {0}
    IsGood (variable v) = Unit {0}
    IsGood (term t) = IsWellTyped names t
    IsGood (theorem q) = IsTheorem names al dl q

    pub AreGood : Objects → Type 0
    AreGood no_objects = Unit {0}
    AreGood (more_objects o os) = IsGood o × AreGood os

  -- what an axiom gives is a theorem
  abbrev pub IsLeaf : Cmd → Origins Name → Type 0
  IsLeaf words.Axiom os = IfOk (value (Make words.Axiom os)) IsGood
  IsLeaf _ os = Unit {0}

  -- what the axioms and the definitions among the parts of an origin give are theorems
  abbrev mutual
    pub HasLeaves : Origin Name → Type 0
    HasLeaves (Number k) = Unit {0}
    HasLeaves (Named n) = Unit {0}
    HasLeaves (Make w os) = HaveLeaves os × IsLeaf w os
    HasLeaves (Define w os) = Unit {0}
    HasLeaves (Outcome j d) = IfOk (value (Outcome j d)) IsGood

    pub HaveLeaves : Origins Name → Type 0
    HaveLeaves NoOrigins = Unit {0}
    HaveLeaves (MoreOrigins o os) = HasLeaves o × HaveLeaves os
