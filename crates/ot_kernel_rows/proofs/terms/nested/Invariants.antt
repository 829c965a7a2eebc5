use Rattle.std.proofs.Common.{◌<◌, ◌≤◌, length}
use Rattle.ot_kernel_rows.proofs.terms.nested.Given as goal

abbrev pub invariant-loop : goal.invariant-loop
invariant-loop l = record {
  f : l.f < length l.terms.terms;
  last : l.last < length l.terms.terms;
  types : length l.initial.terms.types ≤ length l.terms.types;
  terms : length l.initial.terms.terms ≤ length l.terms.terms;
}
