use Rattle.std.proofs.Common.{◌∷◌, [], ◌∙◌, ap, map}
use Rattle.ot_logic.specs.PlainTrees.{type_of_tree}
use Rattle.std.proofs.lemmas.List.{map-append}
use Rattle.ot_parse.proofs.types.back_of_argument.Goals as goal

pub returns-clause-read : goal.returns-clause-read
returns-clause-read c = λ m.
    c.behind_arguments.ensures.read m (map type_of_tree c.args.args.items) (type_of_tree c.args.ty)
    (ap (map type_of_tree) c.in_ok-push.ensures.items ∙ map-append type_of_tree c.args.args.items (c.args.ty ∷ []))
