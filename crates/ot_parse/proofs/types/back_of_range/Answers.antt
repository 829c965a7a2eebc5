use Rattle.std.proofs.Common.{◌∙◌, ap, sym, ◌≡◌, ◌+◌, length, arith}
use Rattle.ot_parse.specs.Frames.{Range}
use Rattle.ot_logic.specs.PlainTrees.{type_of_tree}
use Rattle.ot_forms.specs.Reading.{Got, type_at}
use Rattle.ot_parse.proofs.FrameLaws.{handed-back, no-end, after-range}
use Rattle.std.specs.Prelude.{codes}
use Rattle.ot_parse.proofs.Lengths.{literal-length}
use Rattle.ot_parse.proofs.types.back_of_range.Goals as goal

pub returns-in_err-rest-clause-read : goal.returns-in_err-rest-clause-read
returns-in_err-rest-clause-read c = λ m. handed-back c.args._notation.now m (Range (type_of_tree c.args.domain))
    (type_of_tree c.args.ty) c.args.text.now c.from_residual.result c.in_err-rest.field-0.0 c.from_residual.ensures.1
    (no-end c.args._notation.now m (type_of_tree c.args.domain) (type_of_tree c.args.ty) c.args.text.now
    c.in_err-rest.field-0.0 c.in_err-rest.ensures)

pub returns-clause-read : goal.returns-clause-read
returns-clause-read c = λ m.
    after-range c.args._notation.now (type_at c.args._notation.now m) (type_of_tree c.args.domain)
    (type_of_tree c.args.ty) c.args.text.now c.in_ok-rest.rest.now c.in_ok-rest.ensures
    ∙ ap (λ u. Got u c.in_ok-rest.rest.now) (sym c.in_ok-whole.ensures)

pub returns-clause-shorter : goal.returns-clause-shorter
returns-clause-shorter c = let a : length c.args.text.now ≡ 1 + length c.in_ok-rest.rest.now =
    literal-length (codes ")") c.args.text.now c.in_ok-rest.rest.now c.in_ok-rest.ensures in omega (arith, a)
