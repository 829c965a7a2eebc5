use Rattle.std.proofs.Common.{map, take}
use Rattle.ot_logic.specs.Hol.{symbols_in}
use Rattle.ot_logic.specs.Naming.{names}
use Rattle.ot_kernel.specs.State.{theorem_at}
use Rattle.ot_pretty.specs.Run.{HasMoreTerms}
use Rattle.ot_pretty.proofs.symbols.add_theorems.Given as goal

abbrev pub invariant-loop-th : goal.invariant-loop-th
invariant-loop-th l = HasMoreTerms l.kernel l.initial.roots.items l.roots.items
    (symbols_in names (map (theorem_at l.kernel) (take l.th-index l.theorems)))
