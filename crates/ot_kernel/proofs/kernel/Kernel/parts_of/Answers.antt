use Rattle.ot_kernel.proofs.Seeking.{parts-none, parts-more, parts-all}
use Rattle.ot_kernel.proofs.kernel.Kernel.parts_of.Goals as goal

pub loop-th-init : goal.loop-th-init
loop-th-init c = parts-none c.args.self.now c.new-parts.result.items c.new-parts.ensures.items

pub loop-th-preserved : goal.loop-th-preserved
loop-th-preserved c = parts-more c.args.self.now c.args.theorems.now c.loop-th.parts.items c.push.new.self.items
    c.loop-th.th-index c.th-item.result c.part_of.result c.loop-th-test.true c.th-item.is c.in_ok-push.ensures.items
    c.part_of.ensures c.loop-th.invariant

pub returns : goal.returns
returns c = parts-all c.args.self.now c.args.theorems.now c.loop-th.parts.items c.loop-th.th-index
    c.loop-th-test.false c.loop-th.invariant
