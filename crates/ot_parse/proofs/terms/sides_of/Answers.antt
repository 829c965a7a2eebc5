use Rattle.std.specs.Prelude.{cond, not}
use Rattle.std.proofs.Common.{◌∙◌, ap, sym, subst}
use Rattle.ot_parse.specs.Meant.{equal_of, infix_of}
use Rattle.ot_parse.specs.Values.{IsMade, meant_of}
use Rattle.ot_parse.proofs.terms.sides_of.Goals as goal

pub returns-then-is_same : goal.returns-then-is_same
returns-then-is_same c = λ l x y p.
    subst (λ t.
    IsMade l (cond t (equal_of l c.args.at (meant_of c.args.left) (meant_of c.args.right))
    (infix_of c.args.notation.now l c.args.at c.args.operator.now (meant_of c.args.left) (meant_of c.args.right)))
    c.equation.result)
    (sym (sym c.is_same.ensures ∙ c.if-is_same.true)) (c.equation.ensures l x y)

pub returns-else-is_same : goal.returns-else-is_same
returns-else-is_same c = λ l x y p.
    subst (λ t.
    IsMade l (cond t (equal_of l c.args.at (meant_of c.args.left) (meant_of c.args.right))
    (infix_of c.args.notation.now l c.args.at c.args.operator.now (meant_of c.args.left) (meant_of c.args.right)))
    c.operation.result)
    (sym (sym c.is_same.ensures ∙ c.if-is_same.false))
    (let q = p (ap not (sym c.is_same.ensures ∙ c.if-is_same.false)) in c.operation.ensures l x y q.0 q.1)
