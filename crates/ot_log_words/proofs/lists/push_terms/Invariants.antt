use Rattle.std.proofs.Common.{◌≡◌, ◌++◌, take}
use Rattle.std.specs.List.{flat_map}
use Rattle.ot_log_words.specs.Listing.{term_operands}
use Rattle.ot_log_words.proofs.lists.push_terms.Given as goal

abbrev pub invariant-loop-pair : goal.invariant-loop-pair
invariant-loop-pair l = l.operands.items ≡ l.fn.operands.items ++ flat_map term_operands (take l.pair-index l.pairs)
