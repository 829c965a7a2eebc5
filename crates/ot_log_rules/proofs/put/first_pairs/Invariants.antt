use Rattle.std.proofs.Common.{◌≡◌, ◌++◌, drop}
use Rattle.ot_log_rules.specs.Putting.{firsts}
use Rattle.ot_log_rules.proofs.Substituting.{outside}
use Rattle.ot_log_rules.proofs.put.first_pairs.Given as goal

abbrev pub invariant-loop-pair : goal.invariant-loop-pair
invariant-loop-pair g l = l.first.entries ++ outside g.K.PartialEq.eq l.first.entries
    (firsts g.K.PartialEq.eq (drop l.pair-index l.pairs)) ≡ firsts g.K.PartialEq.eq l.pairs
