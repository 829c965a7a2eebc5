use Rattle.std.proofs.Common.{◌≡◌, ◌<◌, ◌≤◌, ◌-◌, get_or, length}
use Rattle.std.specs.declared.cmp.Ordering.TheVariants.{Less}
use Rattle.ot_text.specs.Texts.{order}
use Rattle.ot_log_order.specs.Places.{text_at}
use Rattle.ot_log_order.proofs.Placing.{AreBefore}
use Rattle.ot_log_order.proofs.sorting.place_of.Given as goal

abbrev pub invariant-places : goal.invariant-places
invariant-places l = record {
  in_range : l.low ≤ l.high;
  within : l.high ≤ length l.sorted;
  before : AreBefore l.nodes l.sorted l.term l.low;
  behind : l.high < length l.sorted → order (text_at l.nodes l.term) (text_at l.nodes (get_or l.sorted l.high 0))
      ≡ Less;
}

abbrev pub decreases-places : goal.decreases-places
decreases-places l = l.high - l.low
