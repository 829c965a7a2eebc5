use Rattle.std.proofs.Common.{◌≡◌, ◌<◌, length, map, take}
use Rattle.std.specs.List.{All}
use Rattle.ot_trace.specs.Origins.{operand, constant_origin}
use Rattle.ot_trace.specs.Trace.{origin_at}
use Rattle.ot_machine.specs.Meaning.{Traces}
use Rattle.ot_machine.proofs.session.Session.symbols_of.Given as goal

abbrev pub invariant-loop-pair : goal.invariant-loop-pair
invariant-loop-pair l = record {
  kept : Traces l.fn.self l.self;
  inside : All (λ i. i < length l.self.trace) l.symbols.items;
  made : map (origin_at l.self.trace) l.symbols.items
      ≡ map (λ i. constant_origin (operand 0 (origin_at l.fn.self.trace i))) (take l.pair-index l.pairs);
}
