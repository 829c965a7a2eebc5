use Rattle.std.proofs.Common.{◌∙◌, ap, sym}
use Rattle.ot_logic.specs.PlainTrees.{type_of_tree}
use Rattle.ot_logic.proofs.PlainTrees.{type_Op}
use Rattle.ot_parse.proofs.Texts.{arrow-is}
use Rattle.ot_parse.proofs.trees.function_parts.Goals as goal

pub returns-then-is_arrow-clause-some : goal.returns-then-is_arrow-clause-some
returns-then-is_arrow-clause-some c =
    ap type_of_tree c.in-Op.is ∙ type_Op c.in-Op.name c.in-Op.args
    ∙ arrow-is type_of_tree c.in-Op.name c.in-Op.args.items c.index.result.now c.index-then-is_arrow.result.now
    (sym c.is_arrow.ensures.function ∙ c.if-is_arrow.true) (c.is_arrow.ensures.two c.if-is_arrow.true)
    c.index.ensures c.index-then-is_arrow.ensures
