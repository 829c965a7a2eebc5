use Rattle.std.proofs.Common.{◌∙◌, sym}
use Rattle.ot_logic.specs.PlainTrees.{type_of_tree}
use Rattle.ot_parse.proofs.Texts.{bool-result}
use Rattle.ot_parse.proofs.plain.is_equality_type.Goals as goal

pub returns : goal.returns
returns c =
    c.is_bool.ensures
    ∙ bool-result (type_of_tree c.args.ty.now) (type_of_tree c.in-Some.left.now) (type_of_tree c.in-Some.rest.now)
    (type_of_tree c.in-Some-function_parts.right.now) (type_of_tree c.in-Some-function_parts.value.now)
    c.in-Some.ensures.some c.in-Some-function_parts.ensures.some (sym c.same_type.ensures ∙ c.if-not-same_type.false)
