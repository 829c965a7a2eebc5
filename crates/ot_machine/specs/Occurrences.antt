-- Which variables are known to be free in which terms of a kernel, and which not to be.
use Rattle.std.specs.Prelude.{◌≡◌, ◌<◌, ◌&&◌, Bool, nat_eq, List, length, Some}
use Rattle.std.specs.Bool.{Decides}
use Rattle.std.specs.Map.{lookup}
use Rattle.ot_logic.specs.Naming.{names}
use Rattle.ot_logic.specs.NamedTerms.{IsFreeIn}
use Rattle.ot_kernel.specs.State.{State, variable_at, named_at}
use Rattle.ot_view.specs.Nodes.{IsKey}
use Rattle.ot_machine.specs.declared.makers.occurrences.Occurrence.{Occurrence}

abbrev pub same_occurrence : Occurrence → Occurrence → Bool
same_occurrence o p =
    nat_eq o.term p.term && (nat_eq o.variable.name p.variable.name && nat_eq o.variable.ty p.variable.ty)

-- the answer is the right one
pub record IsOccurrence (k : State) (o : Occurrence) (b : Bool) : Type 0 where
  pub term : o.term < length k.terms
  pub variable : IsKey k o.variable
  pub free : Decides b (IsFreeIn names (variable_at k o.variable) (named_at k.terms o.term))

-- each answer that is kept is
pub record AreOccurrences (k : State) (es : List (Occurrence × Bool)) : Type 0 where
  pub known : (o : Occurrence) (b : Bool) → lookup (same_occurrence o) es ≡ Some b → IsOccurrence k o b
