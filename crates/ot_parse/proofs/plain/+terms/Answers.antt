use Rattle.std.proofs.Common.{◌∙◌, sym, ap}
use Rattle.ot_text.specs.Texts.{tm_text}
use Rattle.ot_text.proofs.Putting.{then, same-text}
use Rattle.ot_logic.specs.PlainTrees.{term_of_tree}
use Rattle.ot_logic.proofs.PlainTrees as trees
use Rattle.ot_parse.proofs.Texts.{application-pieces, front-function, front-side}
use Rattle.ot_parse.proofs.plain.+terms.Goals as goal

pub put_term-returns-in-Con : goal.put_term-returns-in-Con
put_term-returns-in-Con t c =
    same-text (ap tm_text (sym (ap term_of_tree c.in-Con.is ∙ trees.term_Con c.in-Con.name c.in-Con.ty)))
    (then c.put.ensures c.put_typed-in-Con.ensures)

pub put_term-returns-in-Bound : goal.put_term-returns-in-Bound
put_term-returns-in-Bound t c =
    same-text (ap tm_text (sym (ap term_of_tree c.in-Bound.is ∙ trees.term_Bound c.in-Bound.place)))
    (then c.put-in-Bound.ensures c.put_number.ensures)

pub put_term-returns-in-App : goal.put_term-returns-in-App
put_term-returns-in-App t c =
    same-text (application-pieces (term_of_tree c.in-App.f.value) (term_of_tree c.in-App.x.value)
    ∙ ap tm_text (sym (ap term_of_tree c.in-App.is ∙ trees.term_App c.in-App.f c.in-App.x)))
    (then (then
    (then c.put-in-App.ensures (rw c.deref.ensures at c.put_front.ensures (term_of_tree c.in-App.x.value)))
    (rw c.deref-in-App.ensures at c.put_term.ensures)) c.put-in-App-2.ensures)

pub put_term-returns-in-Abs : goal.put_term-returns-in-Abs
put_term-returns-in-Abs t c =
    same-text (ap tm_text (sym (ap term_of_tree c.in-Abs.is ∙ trees.term_Abs c.in-Abs.ty c.in-Abs.body)))
    (then (then (then (then c.put-in-Abs.ensures c.put_type.ensures) c.put-in-Abs-2.ensures)
    (rw c.deref-in-Abs.ensures at c.put_term-in-Abs.ensures)) c.put-in-Abs-3.ensures)

pub put_front-returns-then-not-is_half_equation : goal.put_front-returns-then-not-is_half_equation
put_front-returns-then-not-is_half_equation t c =
    λ x. same-text
    (front-function (term_of_tree c.args.f.now) x (c.is_half_equation.ensures x ∙ c.if-not-is_half_equation.true))
    (then c.put_term.ensures c.put.ensures)

pub put_front-returns : goal.put_front-returns
put_front-returns t c =
    λ x. same-text
    (front-side (term_of_tree c.args.f.now) x (c.is_half_equation.ensures x ∙ c.if-not-is_half_equation.false))
    (then c.put_argument.ensures c.put-2.ensures)
