use Rattle.std.proofs.Common.{◌≡◌, ◌<◌, length, map, take}
use Rattle.std.specs.List.{All}
use Rattle.ot_trace.specs.Origins.{renamed_first}
use Rattle.ot_machine.specs.Meaning.{origin_of, Traces}
use Rattle.ot_machine.specs.RenamedLists.{read_by}
use Rattle.ot_machine.proofs.session.Session.renamed_each.Given as goal

abbrev pub invariant-loop-pair : goal.invariant-loop-pair
invariant-loop-pair l = record {
  kept : Traces l.fn.self l.self;
  inside : All (λ i. i < length l.self.trace) l.steps.items;
  made : map (origin_of l.self) l.steps.items
      ≡ map (λ i. renamed_first (read_by l.fn.self l.context) (origin_of l.fn.self i)) (take l.pair-index l.pairs);
}
