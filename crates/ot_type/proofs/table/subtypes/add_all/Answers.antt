use Rattle.ot_type.proofs.SubtypeLemmas.{added_one}
use Rattle.ot_type.proofs.table.subtypes.add_all.Goals as goal

pub loop-id-preserved : goal.loop-id-preserved
loop-id-preserved c = added_one c.loop-id.set.keys c.args.set.now.keys c.args.ids.now c.loop-id.id-index
    c.id-item.result _ c.loop-id-test.true c.id-item.is c.loop-id.invariant c.in_ok-insert.ensures.keys
