use Rattle.std.specs.List.{All}
use Rattle.std.proofs.Common.{List, take}
use Rattle.ot_logic.specs.Names.{Name}
use Rattle.ot_logic.specs.Trees.{Symbol}
use Rattle.ot_kernel.specs.State.{theorem_at}
use Rattle.ot_forms.specs.Words.{IsNotation}
use Rattle.ot_pretty.specs.Back.{ReadsBackAs}
use Rattle.ot_pretty.proofs.laws.each_reads_back.Given as goal

abbrev pub invariant-loop-th : goal.invariant-loop-th
invariant-loop-th l = (hidden : List (Symbol Name)) → IsNotation hidden
    → All (λ th. ReadsBackAs hidden (theorem_at l.kernel th)) (take l.th-index l.theorems)
