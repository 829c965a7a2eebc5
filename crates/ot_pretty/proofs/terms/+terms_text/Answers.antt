use Rattle.std.proofs.Common.{◌+◌, arith, sym, ◌∙◌}
use Rattle.ot_text.specs.Pages.{printed}
use Rattle.ot_text.proofs.Putting.{then, stays, same-text}
use Rattle.ot_view.specs.Binders.{binders_at}
use Rattle.ot_pretty.proofs.TermPieces.{equation-pieces, abstraction-pieces, application-pieces}
use Rattle.ot_pretty.proofs.TermPieces.{relation-front, spine-front, application-spine}
use Rattle.ot_pretty.proofs.terms.+terms_text.Goals as goal

pub put_term-returns-then-is_stopped : goal.put_term-returns-then-is_stopped
put_term-returns-then-is_stopped t c =
    stays (printed c.args.page.now) (sym c.is_stopped.ensures ∙ c.if-is_stopped.true)

pub put_term-returns-in-Some : goal.put_term-returns-in-Some
put_term-returns-in-Some t c =
    same-text (equation-pieces c.args.notation.now c.args.depth (binders_at c.args.kernel.now c.args.binders.now) _
    c.in-Some.ensures.sides.0 _ _ c.in-Some.ensures.sides.1)
    (then (then (then (then c.put.ensures c.put_term.ensures) c.put-in-Some.ensures) c.put_term-in-Some.ensures)
    c.put-in-Some-2.ensures)

pub put_term-returns-in-App : goal.put_term-returns-in-App
put_term-returns-in-App t c =
    same-text (application-pieces c.args.notation.now c.args.depth (binders_at c.args.kernel.now c.args.binders.now) _
    _ _ (rw c.in-App.is at c.term_node.ensures.tree) (c.in_default.ensures.none _))
    (then (then (then c.put-in-App.ensures c.put_front.ensures) c.put_term-in-App.ensures) c.put-in-App-2.ensures)

pub put_term-returns-in-Abs : goal.put_term-returns-in-Abs
put_term-returns-in-Abs t c =
    same-text (abstraction-pieces c.args.notation.now c.args.depth (binders_at c.args.kernel.now c.args.binders.now)
    (c.args.depth + 1) _ _ _ (omega arith) (rw c.in-Abs.is at c.term_node.ensures.tree))
    (then (then
    (then (then (then (then c.put-in-Abs.ensures c.put_binder.ensures) c.put-in-Abs-2.ensures) c.put_type.ensures)
    c.put-in-Abs-3.ensures) c.put_term-in-Abs.ensures) c.put-in-Abs-4.ensures)

pub put_front-returns-in-Some : goal.put_front-returns-in-Some
put_front-returns-in-Some t c =
    let p = c.in-Some.ensures.parts in
    same-text (relation-front c.args.notation.now c.args.depth (binders_at c.args.kernel.now c.args.binders.now) _ _
    p.ty _ p.term p.relation)
    (then (then (then c.put_term.ensures c.put.ensures) c.put_base.ensures) c.put-in-Some.ensures)

pub put_front-returns : goal.put_front-returns
put_front-returns t c =
    same-text (spine-front c.args.notation.now c.args.depth (binders_at c.args.kernel.now c.args.binders.now) _
    (c.in_default.ensures.none (binders_at c.args.kernel.now c.args.binders.now)))
    (then c.put_spine.ensures c.put-2.ensures)

pub put_spine-returns-then-is_stopped : goal.put_spine-returns-then-is_stopped
put_spine-returns-then-is_stopped t c =
    stays (printed c.args.page.now) (sym c.is_stopped.ensures ∙ c.if-is_stopped.true)

pub put_spine-returns-in-App : goal.put_spine-returns-in-App
put_spine-returns-in-App t c =
    same-text (application-spine c.args.notation.now c.args.depth (binders_at c.args.kernel.now c.args.binders.now) _
    _ _ (rw c.in-App.is at c.term_node.ensures.tree))
    (then (then c.put_spine.ensures c.put.ensures) c.put_term.ensures)
