-- What a theorem rests on: assumptions and definitions that its origin leads to suffice for it.
use Rattle.std.specs.Prelude.{◌≡◌, ℕ, List, [], take, Ok, Some, slice_get}
use Rattle.ot_logic.specs.Lists.{IsMember}
use Rattle.ot_logic.specs.Names.{Name}
use Rattle.ot_logic.specs.Naming.{names}
use Rattle.ot_logic.specs.Trees.{Sequent, Definition}
use Rattle.ot_logic.specs.Hol.{Accepted}
use Rattle.ot_logic.specs.declared.command.Cmd.{Cmd}
use Rattle.ot_logic.specs.declared.command.Cmd.TheVariants as words
use Rattle.ot_laws.specs.Theorem.{IsTheorem, AreSequents}
use Rattle.ot_machine.specs.Objects.{theorem}
use Rattle.ot_trace.specs.Origins.{Origin, Origins, Number, Named, Make, Define, Outcome, NoOrigins, MoreOrigins}
use Rattle.ot_machine.specs.States.{Made}
use Rattle.ot_machine.specs.Rows.{definitions_of}
use Rattle.ot_machine.specs.Values.{value, definition_of}
use Rattle.ot_uses.proofs.Parted.{IsInOrder}

module _ (bl : List (Sequent Name)) (es : List Made) where
  -- the sequent of an axiom is one of the assumptions
  abbrev pub IsAssumed : Cmd → Origins Name → Type 0
  IsAssumed words.Axiom os = (q : Sequent Name) → value (Make words.Axiom os) ≡ Ok (theorem q) → IsMember q bl
  IsAssumed _ os = Unit {0}

  -- the axioms and the theorems of definitions among the parts are of these assumptions and definitions
  abbrev mutual
    pub StandsOn : Origin Name → Type 0
    StandsOn (Number k) = Unit {0}
    StandsOn (Named n) = Unit {0}
    StandsOn (Make w os) = AllStand os × IsAssumed w os
    StandsOn (Define w os) = AllStand os
    StandsOn (Outcome j d) = (m : Made) × IsMember m es × (definition_of [] d ≡ Ok m.definition)

    pub AllStand : Origins Name → Type 0
    AllStand NoOrigins = Unit {0}
    AllStand (MoreOrigins o os) = StandsOn o × AllStand os

-- a definition was accepted, after some definitions, of operands that stand on these
pub record StandsMade (bl : List (Sequent Name)) (es : List Made) (m : Made) : Type 0 where
  pub word : Cmd
  pub operands : Origins Name
  pub before : List (Definition Name)
  pub origin : m.origin ≡ Define word operands
  pub accepted : definition_of before (Define word operands) ≡ Ok m.definition
  pub stand : AllStand bl es operands

-- a law: some of a run's definitions, in their old order, each made of what stands on those before it, are accepted;
-- and what stands on them is a theorem over them
pub record Suffice (al bl : List (Sequent Name)) (ms es : List Made) : Type 0 where
  pub accepted : Accepted names bl (definitions_of es)
  pub theorems : (o : Origin Name) (q : Sequent Name) → StandsOn bl es o → value o ≡ Ok (theorem q)
      → IsTheorem names bl (definitions_of es) q

abbrev pub PartsSuffice : Type 0
PartsSuffice =
    (al bl : List (Sequent Name)) (ms es : List Made) → AreSequents names al → Accepted names al (definitions_of ms)
    → IsInOrder es ms
    → ((i : ℕ) (m : Made) → slice_get es i ≡ Some m → StandsMade bl (take i es) m) → Suffice al bl ms es
