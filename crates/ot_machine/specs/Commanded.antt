-- States that words lead to.
use Rattle.std.specs.Prelude.{◌≡◌, List, [], ◌∷◌, IsTrue, Result, Ok}
use Rattle.std.specs.List.{AllByRecursion}
use Rattle.ot_logic.specs.Names.{Name}
use Rattle.ot_logic.specs.Faults.{Fault}
use Rattle.ot_logic.specs.Answers.{◌>>=◌}
use Rattle.ot_scan.specs.Lines.{IsLineText}
use Rattle.ot_scan.specs.Words.{WordValue, Numeral, Quoted, Order, is_in_range}
use Rattle.ot_machine.specs.States.{State, Context}
use Rattle.ot_machine.specs.Step.{step}

-- a line can say it: a number in range, a quoted text that a line can hold, a word
abbrev pub CanBeSaid : WordValue → Type 0
CanBeSaid (Numeral z) = IsTrue (is_in_range z)
CanBeSaid (Quoted text) = IsLineText text
CanBeSaid (Order w) = Unit {0}

-- word after word; the first fault counts
abbrev pub steps : Context → List WordValue → State → Result State (Fault Name)
steps c [] s = Ok s
steps c (w ∷ ws) s = step c s w >>= steps c ws

-- t comes after some words that lines can say, all of which passed from s on
pub record LeadsTo (c : Context) (s t : State) : Type 0 where
  pub words : List WordValue
  pub said : AllByRecursion CanBeSaid words
  pub passed : steps c words s ≡ Ok t
