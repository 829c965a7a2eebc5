use Rattle.std.proofs.Common.{map, subst, arith}
use Rattle.std.proofs.lemmas.List.{take_all}
use Rattle.ot_logic.specs.Hol.{symbols_in}
use Rattle.ot_logic.specs.Naming.{names}
use Rattle.ot_kernel.specs.State.{theorem_at}
use Rattle.ot_pretty.specs.Run.{HasMoreTerms}
use Rattle.ot_pretty.proofs.Roots.{adds-nothing, theorems-more}
use Rattle.ot_pretty.proofs.symbols.add_theorems.Goals as goal

pub loop-th-init : goal.loop-th-init
loop-th-init c = adds-nothing c.args.kernel.now c.args.roots.now.items

pub loop-th-preserved : goal.loop-th-preserved
loop-th-preserved c =
    theorems-more c.args.kernel.now c.args.roots.now.items c.loop-th.roots.items c.add_theorem.new.roots.items
    c.args.theorems.now c.loop-th.th-index c.th-item.result c.loop-th-test.true c.th-item.is c.loop-th.invariant
    c.in_ok-add_theorem.ensures

pub returns : goal.returns
returns c =
    subst (λ l. HasMoreTerms c.args.kernel.now c.args.roots.now.items c.loop-th.roots.items
    (symbols_in names (map (theorem_at c.args.kernel.now) l)))
    (take_all c.loop-th.th-index c.args.theorems.now (omega arith)) c.loop-th.invariant
