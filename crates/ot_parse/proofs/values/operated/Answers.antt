use Rattle.std.proofs.Common.{◌∙◌, [], sym}
use Rattle.ot_logic.specs.PlainTrees.{term_of_tree}
use Rattle.ot_parse.proofs.ValueLaws.{constant-is}
use Rattle.ot_parse.proofs.Made.{operator-made, no-operator}
use Rattle.ot_parse.proofs.values.operated.Goals as goal

pub returns-in-None : goal.returns-in-None
returns-in-None c = λ l hx hy px py.
    no-operator c.args.notation.now l c.args.at c.args.operator.now (term_of_tree c.args.left.term)
    (term_of_tree c.args.right.term)
    (sym (constant-is c.args.notation.now [] c.args.operator.now) ∙ sym c.in-None.ensures)

pub returns-in-Some : goal.returns-in-Some
returns-in-Some c = λ l hx hy px py.
    operator-made c.args.notation.now l c.args.at c.args.operator.now (term_of_tree c.args.left.term)
    (term_of_tree c.args.right.term)
    c.in-Some.name.now c.joined.result
    (sym (constant-is c.args.notation.now [] c.args.operator.now) ∙ sym c.in-Some.ensures)
    (c.joined.ensures l hx hy px py)
