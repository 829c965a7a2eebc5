use Rattle.std.proofs.Common.{map, arith}
use Rattle.std.proofs.lemmas.List.{length-map}
use Rattle.ot_logic.specs.PlainTrees.{type_of_tree}
use Rattle.ot_parse.proofs.trees.is_arrow.Goals as goal

pub returns-clause-function : goal.returns-clause-function
returns-clause-function c =
    let many = length-map c.args.args.now.items type_of_tree in
    c.is_arrow.ensures.function (map type_of_tree c.args.args.now.items) (omega (arith, many, c.len.ensures))
