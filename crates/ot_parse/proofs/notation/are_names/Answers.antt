use Rattle.std.proofs.Common.{arith}
use Rattle.ot_parse.proofs.Hiding.{named-more, named-all}
use Rattle.ot_parse.proofs.notation.are_names.Goals as goal

pub loop-name-init : goal.loop-name-init
loop-name-init c = λ n m. absurd m

pub loop-name-preserved : goal.loop-name-preserved
loop-name-preserved c = named-more c.args.names.now c.loop-name.name-index c.name-item.result c.loop-name.invariant
    (omega arith) c.name-item.is c.is_name.ensures

pub returns : goal.returns
returns c = named-all c.args.names.now c.loop-name.name-index c.loop-name.invariant (omega arith)
