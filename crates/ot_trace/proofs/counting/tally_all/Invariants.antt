use Rattle.std.proofs.Common.{◌≡◌, ℕ, List, ◌++◌, length, take}
use Rattle.ot_trace.specs.Tally.{IsTallied}
use Rattle.ot_trace.proofs.counting.tally_all.Given as goal

abbrev pub invariant-loop-id : goal.invariant-loop-id
invariant-loop-id l = record {
  length : length l.counts.items ≡ length l.fn.counts.items;
  tally : (is : List ℕ) → IsTallied is l.fn.counts.items → IsTallied (is ++ take l.id-index l.ids) l.counts.items;
}
