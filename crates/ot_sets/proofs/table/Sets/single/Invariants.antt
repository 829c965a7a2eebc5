use Rattle.std.proofs.Common.{◌≡◌}
use Rattle.ot_logic.specs.Table.{Extends}
use Rattle.ot_sets.specs.Unions.{IsSetOf}
use Rattle.ot_sets.proofs.table.Sets.single.Given as goal

abbrev pub invariant-loop-bit : goal.invariant-loop-bit
invariant-loop-bit l = record {
  extends : Extends l.fn.self l.self;
  set : IsSetOf l.self l.set (λ k. k ≡ l.fn.number);
  empty : IsSetOf l.self l.empty (λ k. ⊥);
}
