use Rattle.std.proofs.Common.{take}
use Rattle.ot_logic.specs.Table.{Extends}
use Rattle.ot_log_values.specs.Steps.{IsNameOf}
use Rattle.ot_log_values.proofs.Listing.{AreEach}
use Rattle.ot_log_values.proofs.lists.names.Given as goal

abbrev pub invariant-loop-step : goal.invariant-loop-step
invariant-loop-step l = record {
  extends : Extends l.fn.nodes l.nodes;
  each : AreEach (IsNameOf l.session l.nodes) (take l.step-index l.step-items) l.found.items;
}
