use Rattle.std.specs.Prelude.{Err}
use Rattle.std.proofs.Common.{ap, ◌∙◌, ◌++◌}
use Rattle.ot_text.specs.Gathered.{texts_of}
use Rattle.ot_text.proofs.Gathering.{one-kept, one-too_large, together-too_large}
use Rattle.ot_text.proofs.gather.gathered.Goals as goal
use Rattle.ot_logic.proofs.Results.{same_Err}

pub returns-in_err-append-clause-too_large : goal.returns-in_err-append-clause-too_large
returns-in_err-append-clause-too_large g c = λ p.
    one-too_large (g.T.Printable.text c.args.table.now) c.args.items.now c.loop-item.item-index c.item-item.result
    c.loop-item-test.true c.item-item.is c.args.max
    (c.in_err-append.ensures.too_large (ap Err (same_Err _ _ _ c.from_residual.ensures.1 p)))

pub returns-in_err-add_text-clause-too_large : goal.returns-in_err-add_text-clause-too_large
returns-in_err-add_text-clause-too_large g c = λ p.
    together-too_large (g.T.Printable.text c.args.table.now) c.args.items.now c.loop-item.item-index
    c.item-item.result c.loop-item-test.true c.item-item.is
    c.append.new.out.items (texts_of c.loop-item.texts) (texts_of c.loop-item.texts) c.args.max c.loop-item.room
    c.loop-item.room
    c.loop-item.invariant.0 c.loop-item.invariant.1 (c.in_ok-append.ensures.ok.bytes
    ∙ ap (λ x. x ++ g.T.Printable.text c.args.table.now c.item-item.result) c.new-text.ensures.items)
    (c.in_err-add_text.ensures.too_large (ap Err (same_Err _ _ _ c.from_residual-in_err-add_text.ensures.1 p)))

pub loop-item-preserved : goal.loop-item-preserved
loop-item-preserved g c =
    one-kept (g.T.Printable.text c.args.table.now) c.args.items.now c.loop-item.item-index c.item-item.result
    c.loop-item-test.true c.item-item.is
    c.append.new.out.items (texts_of c.loop-item.texts) (texts_of c.add_text.new.texts) c.args.max c.loop-item.room
    c.add_text.new.room
    c.loop-item.invariant.0 c.loop-item.invariant.1 (c.in_ok-append.ensures.ok.bytes
    ∙ ap (λ x. x ++ g.T.Printable.text c.args.table.now c.item-item.result) c.new-text.ensures.items)
    c.in_ok-add_text.ensures.ok c.in_ok-add_text.ensures.room
