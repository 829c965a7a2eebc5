-- A theorem of a kernel with what stands at places of the kernel's lists. Only contracts of private functions speak
-- of it.
use Rattle.std.specs.Prelude.{ℕ}
use Rattle.ot_kernel.specs.State.{State, theorem_at}
use Rattle.ot_leads.specs.declared.finding.Uses.{Uses}
use Rattle.ot_uses.specs.Placing.{picked}
use Rattle.ot_uses.specs.Used.{Support}

abbrev pub support_in : State → ℕ → Uses → Support
support_in s th u = record {
  theorem = theorem_at s th;
  assumptions = picked s.assumptions u.assumptions.items;
  definitions = picked s.definitions u.definitions.items;
}
