use Rattle.std.proofs.Common.{◌∙◌, ap, sym, map, ◌≡◌, ◌+◌, length, arith}
use Rattle.ot_parse.specs.Frames.{Argument}
use Rattle.ot_logic.specs.PlainTrees.{type_of_tree}
use Rattle.ot_forms.specs.Reading.{Got}
use Rattle.ot_logic.proofs.PlainTrees.{type_Op}
use Rattle.ot_parse.proofs.FrameLaws.{handed-back, arrow-ends, not-closed, whole-type}
use Rattle.std.specs.Prelude.{codes}
use Rattle.ot_parse.proofs.Lengths.{literal-length}
use Rattle.ot_parse.proofs.types.end_arguments.Goals as goal

pub returns-then-is_arrow-clause-read : goal.returns-then-is_arrow-clause-read
returns-then-is_arrow-clause-read c =
    λ m ts t is end. arrow-ends c.args._notation.now m c.args.name (map type_of_tree c.args.args.items) ts t is
    c.args.text.now end c.is_arrow.result c.is_arrow.ensures.function c.if-is_arrow.true

pub returns-in_err-rest-clause-read : goal.returns-in_err-rest-clause-read
returns-in_err-rest-clause-read c = λ m ts t is end.
    handed-back c.args._notation.now m (Argument c.args.name ts) t c.args.text.now
    c.from_residual.result c.in_err-rest.field-0.0 c.from_residual.ensures.1
    (not-closed c.args._notation.now m c.args.name (map type_of_tree c.args.args.items) ts t is c.args.text.now end
    c.is_arrow.result c.is_arrow.ensures.function c.if-is_arrow.false c.in_err-rest.field-0.0
    c.in_err-rest.ensures)

pub returns-clause-read : goal.returns-clause-read
returns-clause-read c = λ m ts t is end.
    whole-type c.args._notation.now m c.args.name (map type_of_tree c.args.args.items) ts t is
    c.args.text.now end c.is_arrow.result c.is_arrow.ensures.function c.if-is_arrow.false c.in_ok-rest.rest.now
    c.in_ok-rest.ensures
    ∙ ap (λ u. Got u c.in_ok-rest.rest.now) (sym (type_Op c.args.name c.args.args))

pub returns-clause-shorter : goal.returns-clause-shorter
returns-clause-shorter c = let a : length c.args.text.now ≡ 1 + length c.in_ok-rest.rest.now =
    literal-length (codes ")") c.args.text.now c.in_ok-rest.rest.now c.in_ok-rest.ensures in omega (arith, a)
