use Rattle.std.proofs.Common.{take}
use Rattle.ot_logic.specs.Table.{Extends}
use Rattle.ot_log_values.specs.Reading.{IsOneOf}
use Rattle.ot_log_values.specs.Known.{AreKnown}
use Rattle.ot_log_values.proofs.Listing.{AreEach}
use Rattle.ot_log_values.proofs.values.Values.each_of.Given as goal

abbrev pub invariant-loop-step : goal.invariant-loop-step
invariant-loop-step g l =
    let o = g.E.Element in
    record {
      extends : Extends l.fn.nodes l.nodes;
      known : AreKnown l.session l.nodes l.self;
      each : AreEach (IsOneOf o.is_in o.value_at o.as_one l.session l.nodes) (take l.step-index l.step-items)
          l.found.items;
    }
