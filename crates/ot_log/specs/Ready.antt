-- What is written before it is needed.
use Rattle.std.specs.Prelude.{◌≡◌, ℕ, List, [], ◌∷◌, slice_get, Option, Some, Ok}
use Rattle.ot_logic.specs.Names.{Name}
use Rattle.ot_logic.specs.Trees.{Sequent}
use Rattle.ot_trace.specs.Origins.{Origin, Origins, Number, Named, Make, Define, Outcome, NoOrigins, MoreOrigins}
use Rattle.ot_machine.specs.Objects.{theorem}
use Rattle.ot_machine.specs.Meaning.{origin_of}
use Rattle.ot_machine.specs.Values.{value}
use Rattle.ot_machine.specs.declared.session.Session.{Session}
use Rattle.ot_log_law.specs.Writing.{Written, number_of, put_result, write, write_definition}
use Rattle.ot_log.specs.Keeping.{Holds}
use Rattle.ot_log.specs.declared.writer.Place.{Place}
use Rattle.ot_log.specs.declared.writer.Writer.{Writer}

-- the origin's theorem has a number
abbrev pub HasNumber : Written → Origin Name → Type 0
HasNumber x o = (k : ℕ) × (number_of o x.theorems ≡ Some k)

-- it has one where its value is a theorem
abbrev pub IsThere : Written → Origin Name → Type 0
IsThere x o = (q : Sequent Name) → value o ≡ Ok (theorem q) → HasNumber x o

abbrev pub AreThere : Written → Origins Name → Type 0
AreThere x NoOrigins = Unit {0}
AreThere x (MoreOrigins o os) = IsThere x o × AreThere x os

-- the theorems of definitions that it is made of have numbers
abbrev mutual
  pub HasOutcomes : Written → Origin Name → Type 0
  HasOutcomes x (Number k) = Unit {0}
  HasOutcomes x (Named n) = Unit {0}
  HasOutcomes x (Make w os) = HaveOutcomes x os
  HasOutcomes x (Define w os) = Unit {0}
  HasOutcomes x (Outcome j d) = HasNumber x (Outcome j d)

  pub HaveOutcomes : Written → Origins Name → Type 0
  HaveOutcomes x NoOrigins = Unit {0}
  HaveOutcomes x (MoreOrigins o os) = HasOutcomes x o × HaveOutcomes x os

-- the operands of a word
abbrev pub HasOperands : Written → Origin Name → Type 0
HasOperands x (Make w os) = AreThere x os
HasOperands x _ = Unit {0}

-- what the premises of a definition are made of
abbrev pub HasPremises : Written → Origin Name → Type 0
HasPremises x (Define w os) = HaveOutcomes x os
HasPremises x _ = Unit {0}

-- the writer has a log of which this holds
abbrev pub Knows : Session → Writer → (Written → Type 0) → Type 0
Knows s w P = (max : ℕ) × (x : Written) × Holds s max w x × P x

-- ---- steps

abbrev pub HasPlace : List (Option Place) → ℕ → Type 0
HasPlace ps i = (p : Place) × (slice_get ps i ≡ Some (Some p))

-- each of those whose values are theorems
abbrev pub HavePlaces : Session → List (Option Place) → List ℕ → Type 0
HavePlaces s ps [] = Unit {0}
HavePlaces s ps (i ∷ is) = ((q : Sequent Name) → value (origin_of s i) ≡ Ok (theorem q) → HasPlace ps i)
    × HavePlaces s ps is

-- the value is a theorem
abbrev pub IsProof : Origin Name → Type 0
IsProof o = (q : Sequent Name) × (value o ≡ Ok (theorem q))

-- ---- one after another

abbrev pub CanDefine : List (Origin Name) → Written → Type 0
CanDefine [] x = Unit {0}
CanDefine (d ∷ ds) x = HasPremises x d × CanDefine ds (write_definition d x)

abbrev pub CanResult : List (Origin Name) → Written → Type 0
CanResult [] x = Unit {0}
CanResult (o ∷ os) x = HasOutcomes x o × CanResult os (put_result o (write o x))
