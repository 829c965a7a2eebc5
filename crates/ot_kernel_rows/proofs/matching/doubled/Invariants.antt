use Rattle.std.proofs.Common.{◌<◌, ◌≤◌, length}
use Rattle.ot_kernel_rows.proofs.matching.doubled.Given as goal

abbrev pub invariant-loop : goal.invariant-loop
invariant-loop l = record {
  f : l.f < length l.kernel.terms;
  last : l.last < length l.kernel.terms;
  names : length l.initial.kernel.names ≤ length l.kernel.names;
  types : length l.initial.kernel.types ≤ length l.kernel.types;
  terms : length l.initial.kernel.terms ≤ length l.kernel.terms;
}
