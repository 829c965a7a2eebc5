use Rattle.std.proofs.Common.{◌∙◌, ap, arith}
use Rattle.ot_text.proofs.Putting.{then, leaves-more, leaves-all, nothing}
use Rattle.ot_print.proofs.Separating.{pairs_from, pairs-first, pairs-none, pairs-rest, pairs-end}
use Rattle.ot_print.proofs.definitions.put_pairs.Goals as goal

pub loop-i-preserved : goal.loop-i-preserved
loop-i-preserved c =
    leaves-more c.loop-i.invariant
    (ap (pairs_from c.loop-i.is_first) (pairs-rest c.args.kernel.now c.args.names.now c.args.vars.now c.loop-i.i
    c.index-names-i.result c.index-vars-i.result (omega arith) (omega arith) c.index-names-i.is c.index-vars-i.is)
    ∙ pairs-first c.loop-i.is_first _ _)
    (then c.separate.ensures c.put_pair.ensures)

pub returns : goal.returns
returns c =
    leaves-all c.loop-i.invariant
    (ap (pairs_from c.loop-i.is_first)
    (pairs-end c.args.kernel.now c.args.names.now c.args.vars.now c.loop-i.i (omega arith))
    ∙ pairs-none c.loop-i.is_first)
    (nothing _)
