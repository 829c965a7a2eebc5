use Rattle.std.proofs.Common.{◌≡◌, [], take}
use Rattle.ot_log_values.specs.Reading.{add_firsts}
use Rattle.ot_log_values.proofs.maps.firsts.Given as goal

abbrev pub invariant-loop-pair : goal.invariant-loop-pair
invariant-loop-pair g l = record {
  found : l.found.items ≡ add_firsts g.K.PartialEq.eq [] (take l.pair-index l.pairs);
  seen : l.seen.entries ≡ l.found.items;
}
