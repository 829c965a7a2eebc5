use Rattle.ot_kernel.proofs.ByClass.{before-next, before-last}
use Rattle.ot_kernel.proofs.membership.classes_of.Goals as goal

pub loop-t-preserved : goal.loop-t-preserved
loop-t-preserved c =
    before-next c.args.terms.now c.args.among.now c.loop-t.t-index c.t-item.result c.loop-t.classes.keys
    c.add_class.new.classes.keys c.loop-t-test.true c.t-item.is c.in_ok-add_class.ensures c.loop-t.invariant

pub returns : goal.returns
returns c = before-last c.args.terms.now c.args.among.now c.loop-t.t-index c.loop-t.classes.keys c.loop-t-test.false
    c.loop-t.invariant
