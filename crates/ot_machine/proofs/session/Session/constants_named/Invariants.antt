use Rattle.std.proofs.Common.{◌≡◌, ◌<◌, length, map, take}
use Rattle.std.specs.List.{All}
use Rattle.ot_logic.specs.Naming.{names}
use Rattle.ot_interp.specs.Interpretation.{renamed}
use Rattle.ot_kernel.specs.State.{name_at}
use Rattle.ot_machine.specs.Contexts.{context_of}
use Rattle.ot_machine.proofs.session.Session.constants_named.Given as goal

abbrev pub invariant-loop-pair : goal.invariant-loop-pair
invariant-loop-pair l = record {
  renamed : map (name_at l.self.kernel) l.names.items
      ≡ map (λ p. renamed names (context_of l.self l.context).interpretation.constants (name_at l.self.kernel p.0))
      (take l.pair-index l.pairs);
  inside : All (λ n. n < length l.self.kernel.names) l.names.items;
}
