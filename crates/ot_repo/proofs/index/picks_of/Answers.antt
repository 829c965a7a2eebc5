use Rattle.std.proofs.Common.{◌∙◌, ap}
use Rattle.std.proofs.lemmas.List.{take_all}
use Rattle.ot_repo.specs.Reading.{texts_of, value_in}
use Rattle.ot_repo.proofs.Picking.{picked_so_far}
use Rattle.ot_repo.proofs.Tags.{looked_up, so_far_step}
use Rattle.ot_repo.proofs.index.picks_of.Goals as goal

pub each-preserved : goal.each-preserved
each-preserved c = λ value.
    so_far_step c.args.names.now c.each.full-index c.each-test.true (value_in c.each.picks value)
    (value_in c.insert.new.self value) value
    (c.each.invariant value)
    (looked_up _ _ _ _ (c.in_ok-insert.ensures.updates.0 (record { ref_ptr = (0, 0); now = value })))

pub returns : goal.returns
returns c = λ value.
    c.each.invariant value
    ∙ ap (λ xs. picked_so_far (texts_of c.args.names.now) (texts_of xs) value)
    (take_all c.each.full-index c.args.names.now c.each-test.false)
