use Rattle.ot_write.proofs.Taking.{steps-more}
use Rattle.ot_write.proofs.article.root_steps.Goals as goal

pub loop-export-preserved : goal.loop-export-preserved
loop-export-preserved c = steps-more c.args.exports.now c.loop-export.export-index c.export-item.result _ _ _ _
    c.export-item.is c.loop-export-test.true c.loop-export.invariant c.in_ok-push.ensures.items
    c.in_ok-push-2.ensures.items c.in_ok-push-3.ensures.items
