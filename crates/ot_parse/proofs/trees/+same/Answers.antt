use Rattle.std.proofs.Common.{arith}
use Rattle.ot_logic.specs.PlainTrees.{type_of_tree}
use Rattle.ot_parse.proofs.Texts.{tys-lengths}
use Rattle.ot_parse.proofs.trees.+same.Goals as goal

pub same_types-returns-then-len : goal.same_types-returns-then-len
same_types-returns-then-len t c = tys-lengths type_of_tree c.args.left.now.items c.args.right.now.items
    (λ e. omega (arith, e))
