use Rattle.std.proofs.Common.{map, length, ap, arith}
use Rattle.ot_logic.specs.PlainTrees.{type_of_tree}
use Rattle.ot_parse.proofs.FrameLaws.{no-argument, further-argument}
use Rattle.ot_parse.proofs.types.behind_arguments.Goals as goal

pub returns-in-Some-clause-read : goal.returns-in-Some-clause-read
returns-in-Some-clause-read c = λ m ts t is. further-argument c.args.notation.now m c.sound.ensures c.args.name
    (map type_of_tree c.args.args.items) ts t c.args.text.now c.in-Some.after.now is c.in-Some.ensures.some

pub returns-in-None-clause-read : goal.returns-in-None-clause-read
returns-in-None-clause-read c = λ m ts t is. c.end_arguments.ensures.read m ts t is
    (no-argument c.args.notation.now m c.args.text.now c.in-None.ensures.none)

pub returns-in-Some-clause-shorter : goal.returns-in-Some-clause-shorter
returns-in-Some-clause-shorter c = let e = ap length c.in-Some.ensures.some in omega (arith, e)
