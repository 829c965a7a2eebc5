use Rattle.std.proofs.Common.{refl, ap}
use Rattle.ot_logic.specs.Naming.{names}
use Rattle.ot_logic.specs.PlainTrees.{type_of_tree}
use Rattle.ot_parse.proofs.Made.{equal-made, equal-none}
use Rattle.ot_parse.proofs.values.equated.Goals as goal

pub returns-in-Some : goal.returns-in-Some
returns-in-Some c = λ l hx hy.
    let t = type_of_tree c.as_type.result.now in
    equal-made l c.args.at names.equals t c.args.left c.args.right hx hy refl (ap type_of_tree c.as_type.ensures)
    c.in-Some.value
    (rw c.in-Some.is at
    (c.in_ok-value.ensures l names.equals t c.in_ok-equality.ensures.term (c.in_ok-equality.ensures.kept l) hx hy))

pub returns-in-None : goal.returns-in-None
returns-in-None c = λ l hx hy.
    let t = type_of_tree c.as_type.result.now in
    equal-none l c.args.at names.equals t c.args.left c.args.right hx hy refl (ap type_of_tree c.as_type.ensures)
    (rw c.in-None.is at
    (c.in_ok-value.ensures l names.equals t c.in_ok-equality.ensures.term (c.in_ok-equality.ensures.kept l) hx hy))
