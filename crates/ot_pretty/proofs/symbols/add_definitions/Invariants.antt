use Rattle.std.specs.List.{flat_map}
use Rattle.std.proofs.Common.{map, take}
use Rattle.ot_logic.specs.Hol.{used}
use Rattle.ot_logic.specs.Naming.{names}
use Rattle.ot_kernel.specs.Definitions.{definition_at}
use Rattle.ot_pretty.specs.Run.{HasMoreTerms}
use Rattle.ot_pretty.proofs.symbols.add_definitions.Given as goal

abbrev pub invariant-loop-definition : goal.invariant-loop-definition
invariant-loop-definition l = HasMoreTerms l.kernel l.initial.roots.items l.roots.items
    (flat_map (used names) (map (definition_at l.kernel) (take l.definition-index l.definitions)))
