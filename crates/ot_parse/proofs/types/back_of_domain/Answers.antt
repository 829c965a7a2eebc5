use Rattle.ot_parse.specs.Frames.{Domain}
use Rattle.ot_logic.specs.PlainTrees.{type_of_tree}
use Rattle.ot_forms.specs.Reading.{type_at}
use Rattle.ot_parse.proofs.FrameLaws.{handed-back, no-space, no-arrow, after-domain}
use Rattle.std.specs.Prelude.{codes}
use Rattle.std.proofs.Common.{◌≡◌, ◌+◌, length, arith}
use Rattle.ot_parse.proofs.Lengths.{literal-length, space-length}
use Rattle.ot_parse.proofs.types.back_of_domain.Goals as goal

pub returns-in_err-space-clause-read : goal.returns-in_err-space-clause-read
returns-in_err-space-clause-read c = λ m.
    handed-back c.args._notation.now m Domain (type_of_tree c.args.ty) c.args.text.now
    c.from_residual.result c.in_err-space.field-0.0 c.from_residual.ensures.1
    (no-space c.args._notation.now m (type_of_tree c.args.ty) c.args.text.now c.in_err-space.field-0.0
    c.in_err-space.ensures)

pub returns-in_err-rest-clause-read : goal.returns-in_err-rest-clause-read
returns-in_err-rest-clause-read c = λ m.
    handed-back c.args._notation.now m Domain (type_of_tree c.args.ty) c.args.text.now
    c.from_residual-in_err-rest.result c.in_err-rest.field-0.0 c.from_residual-in_err-rest.ensures.1
    (no-arrow c.args._notation.now m (type_of_tree c.args.ty) c.args.text.now c.in_ok-space.space.now
    c.in_err-rest.field-0.0 c.in_ok-space.ensures c.in_err-rest.ensures)

pub returns-clause-read : goal.returns-clause-read
returns-clause-read c = λ m. after-domain c.args._notation.now (type_at c.args._notation.now m) (type_of_tree c.args.ty)
    c.args.text.now c.in_ok-space.space.now c.in_ok-rest.rest.now c.in_ok-space.ensures c.in_ok-rest.ensures

pub returns-clause-shorter : goal.returns-clause-shorter
returns-clause-shorter c =
    let a = space-length c.args.text.now c.in_ok-space.space.now c.in_ok-space.ensures in
    let b : length c.in_ok-space.space.now ≡ 3 + length c.in_ok-rest.rest.now =
    literal-length (codes "-> ") c.in_ok-space.space.now c.in_ok-rest.rest.now c.in_ok-rest.ensures in
    omega (arith, a, b)
