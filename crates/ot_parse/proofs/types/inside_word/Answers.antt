use Rattle.ot_parse.proofs.TypeFronts.{behind-inside}
use Rattle.std.proofs.Common.{suc, length, arith}
use Rattle.ot_parse.proofs.Lengths.{space-length}
use Rattle.ot_parse.proofs.Passing.{operator-within, type-opens}
use Rattle.ot_parse.proofs.types.inside_word.Goals as goal

pub returns-clause-read : goal.returns-clause-read
returns-clause-read c = λ m. behind-inside c.args.notation.now m c.args.text.now c.in_ok-name.name c.in_ok-name.end.now
    c.in_ok-rest.rest.now c.behind_word.result c.in_ok-name.ensures c.in_ok-rest.ensures (c.behind_word.ensures.read m)

pub returns-clause-shorter : goal.returns-clause-shorter
returns-clause-shorter c =
    let a = operator-within c.args.notation.now c.sound.ensures c.args.text.now c.in_ok-name.end.now c.in_ok-name.name
    c.in_ok-name.ensures in
    let b = space-length c.in_ok-name.end.now c.in_ok-rest.rest.now c.in_ok-rest.ensures in
    type-opens (suc (length c.in_ok-rest.rest.now)) (suc (length c.args.text.now)) c.behind_word.result
    (omega (arith, a, b)) c.behind_word.ensures.shorter
