use Rattle.std.proofs.Common.{◌≡◌, List, ◌++◌, map, take}
use Rattle.ot_logic.specs.PlainTrees.{term_of_tree}
use Rattle.ot_kernel.specs.State.{theorem_at}
use Rattle.ot_find.specs.Matches.{Found, matches_in}
use Rattle.ot_find.specs.Texts.{HasFound}
use Rattle.ot_find.proofs.search.Search.add.Given as goal

abbrev pub invariant-loop-th : goal.invariant-loop-th
invariant-loop-th l =
    ((fs : List Found) → HasFound l.initial.self fs
    → HasFound l.self (fs
    ++ matches_in (term_of_tree l.pattern) l.source (map (theorem_at l.kernel) (take l.th-index l.theorems))))
    × (l.self.max ≡ l.initial.self.max)
