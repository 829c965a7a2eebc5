use Rattle.std.proofs.Common.{refl}
use Rattle.ot_logic.specs.Naming.{names}
use Rattle.ot_logic.specs.Trees.{Con}
use Rattle.ot_logic.specs.Hol.{bool_ty, fun_ty}
use Rattle.ot_logic.specs.PlainTrees.{type_of_tree, term_of_tree}
use Rattle.ot_parse.specs.Meant.{relation_of}
use Rattle.ot_parse.proofs.Made.{takes-second, relation-made}
use Rattle.ot_parse.proofs.values.joined.Goals as goal

pub returns : goal.returns
returns c = λ l hx hy px py.
    let n = c.args.name.now in
    let p = fun_ty names (bool_ty names) (bool_ty names) in
    let half = c.in_ok-half.ensures l hx px in
    let both = c.in_ok-both.ensures l half.kept hy
    (takes-second (type_of_tree c.in_ok-half.half.ty) (type_of_tree c.args.right.ty)
    (type_of_tree c.in_ok-ty.ty) p half.type refl py c.in_ok-ty.ensures) in
    relation-made l n (Con n (relation_of (bool_ty names))) (term_of_tree c.in_ok-half.half.term)
    (term_of_tree c.args.left.term) (term_of_tree c.args.right.term) p
    (type_of_tree c.in_ok-ty.ty) c.in_ok-half.half c.in_ok-both.both refl half refl both
