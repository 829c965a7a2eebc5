use Rattle.std.proofs.Common.{◌≡◌, ◌++◌, length}
use Rattle.std.specs.List.{All}
use Rattle.ot_logic.specs.Names.{Name}
use Rattle.ot_logic.specs.Trees.{Variable}
use Rattle.ot_logic.specs.NamedTerms.{IsFreeIn}
use Rattle.ot_logic.specs.Naming.{names}
use Rattle.ot_kernel.specs.State.{named_at}
use Rattle.ot_machine.specs.Occurrences.{AreOccurrences}
use Rattle.ot_machine.specs.Canonical.{variable_in, binders_at, IsBinderIn}
use Rattle.ot_machine.proofs.session.Session.binders_within.Given as goal

abbrev pub invariant-binders : goal.invariant-binders
invariant-binders l = record {
  here : All (IsBinderIn l.self) l.kept.items;
  left : All (IsBinderIn l.self) l.rest;
  known : AreOccurrences l.self.kernel l.known.entries;
  same : (v : Variable Name) → IsFreeIn names v (named_at l.self.kernel.terms l.fn.id)
      → variable_in (binders_at l.self (l.kept.items ++ l.rest)) v ≡ variable_in (binders_at l.self l.binders) v;
}

abbrev pub decreases-binders : goal.decreases-binders
decreases-binders l = length l.rest
