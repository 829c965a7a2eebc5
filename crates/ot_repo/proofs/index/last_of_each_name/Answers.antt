use Rattle.ot_repo.specs.Reading.{value_in}
use Rattle.ot_repo.proofs.Tags.{looked_up, by_name_step}
use Rattle.ot_repo.proofs.index.last_of_each_name.Goals as goal

pub each-preserved : goal.each-preserved
each-preserved c = λ value.
    by_name_step c.args.names.now c.each.full-index c.each-test.true (value_in c.each.picks value)
    (value_in c.insert.new.self value) value
    c.name_part.result.now (c.each.invariant value) c.name_part.ensures
    (looked_up _ _ _ _ (c.in_ok-insert.ensures.updates.0 (record { ref_ptr = (0, 0); now = value })))
