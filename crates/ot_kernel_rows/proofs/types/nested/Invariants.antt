use Rattle.std.proofs.Common.{◌<◌, ◌≤◌, length}
use Rattle.ot_kernel_rows.proofs.types.nested.Given as goal

abbrev pub invariant-loop : goal.invariant-loop
invariant-loop l = record {
  last : l.last < length l.types;
  types : length l.initial.types ≤ length l.types;
}
