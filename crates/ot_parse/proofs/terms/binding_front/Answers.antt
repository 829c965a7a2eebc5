use Rattle.ot_parse.proofs.Halts.{handed-on}
use Rattle.ot_parse.proofs.TermOpens.{body-in, no-binder}
use Rattle.std.proofs.Common.{[], arith}
use Rattle.ot_logic.specs.PlainTrees.{type_of_tree}
use Rattle.ot_parse.proofs.TermLaws.{binder-length}
use Rattle.ot_parse.proofs.terms.binding_front.Goals as goal

pub returns-in_err-name-clause-read : goal.returns-in_err-name-clause-read
returns-in_err-name-clause-read c = λ k l h d.
    rw (handed-on _ _ c.from_residual.ensures.1)
    (no-binder c.args.total c.args.notation.now l c.args.room c.sound.ensures k
    c.args.text.now c.in_err-name.field-0.0 c.in_err-name.ensures)

pub returns-clause-read : goal.returns-clause-read
returns-clause-read c = λ k l h d.
    body-in c.args.total c.args.notation.now l c.args.room c.sound.ensures k c.place_of-place.result c.args.text.now
    c.in_ok-name.name c.in_ok-name.ty c.in_ok-name.body.now h d c.place_of-place.ensures c.in_ok-name.ensures

pub returns-clause-shorter : goal.returns-clause-shorter
returns-clause-shorter c =
    let a = binder-length c.args.total c.args.notation.now c.sound.ensures c.args.room [] c.args.text.now
    c.in_ok-name.name.now (type_of_tree c.in_ok-name.ty) c.in_ok-name.body.now c.in_ok-name.ensures in
    omega (arith, a)
