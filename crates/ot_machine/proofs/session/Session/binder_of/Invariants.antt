use Rattle.std.proofs.Common.{◌≡◌, length}
use Rattle.std.specs.List.{All}
use Rattle.ot_kernel.specs.State.{variable_at}
use Rattle.ot_machine.specs.Canonical.{variable_in, binders_at, IsBinderIn}
use Rattle.ot_machine.proofs.session.Session.binder_of.Given as goal

abbrev pub invariant-binders : goal.invariant-binders
invariant-binders l = record {
  inside : All (IsBinderIn l.self) l.rest;
  same : variable_in (binders_at l.self l.rest) (variable_at l.self.kernel l.v)
      ≡ variable_in (binders_at l.self l.binders) (variable_at l.self.kernel l.v);
}

abbrev pub decreases-binders : goal.decreases-binders
decreases-binders l = length l.rest
