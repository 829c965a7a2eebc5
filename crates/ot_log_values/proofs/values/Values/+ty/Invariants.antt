use Rattle.std.proofs.Common.{◌+◌, ◌*◌, take}
use Rattle.ot_logic.specs.Table.{Extends}
use Rattle.ot_log_values.specs.Steps.{IsTypeOf}
use Rattle.ot_log_values.specs.Known.{AreKnown}
use Rattle.ot_log_values.proofs.Listing.{AreEach}
use Rattle.ot_log_values.proofs.values.Values.+ty.Given as goal

abbrev pub decreases-ty : goal.decreases-ty
decreases-ty l = 3 * l.id + 2

abbrev pub decreases-new_type : goal.decreases-new_type
decreases-new_type l = 3 * l.id + 1

abbrev pub decreases-types : goal.decreases-types
decreases-types l = 3 * l.list

abbrev pub invariant-types-loop-step : goal.invariant-types-loop-step
invariant-types-loop-step l = record {
  extends : Extends l.fn.nodes l.nodes;
  known : AreKnown l.session l.nodes l.self;
  each : AreEach (IsTypeOf l.session l.nodes) (take l.step-index l.step-items) l.found.items;
}
