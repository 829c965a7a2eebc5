use Rattle.ot_parse.specs.Meant.{sides_of}
use Rattle.ot_parse.specs.Values.{meant_of, IsWholly}
use Rattle.ot_parse.specs.Meant.{is_relation, wholly}
use Rattle.ot_parse.proofs.Halts.{handed-on}
use Rattle.ot_parse.proofs.TermBacks.{closed-halts, right-whole}
use Rattle.std.specs.Prelude.{codes}
use Rattle.std.proofs.Common.{◌≡◌, ◌+◌, length, arith, subst}
use Rattle.ot_parse.proofs.Lengths.{literal-length}
use Rattle.ot_parse.proofs.ValueLaws.{wholly-proposition}
use Rattle.ot_parse.proofs.terms.back_of_right.Goals as goal

pub returns-in_err-rest-clause-read : goal.returns-in_err-rest-clause-read
returns-in_err-rest-clause-read c = λ n m l k x w.
    rw (handed-on _ _ c.from_residual.ensures.1)
    (closed-halts n c.args.notation.now m l
    (sides_of c.args.notation.now l c.args.at c.args.operator.now (meant_of c.args.left)
    (wholly l (is_relation c.args.operator.now) c.args.place (meant_of c.args.part))) c.args.text.now
    c.in_err-rest.field-0.0 c.in_err-rest.ensures)

pub returns-clause-read : goal.returns-clause-read
returns-clause-read c = λ n m l k x w.
    let right = rw c.is_relation.ensures at (c.whole-right.ensures l x) in
    right-whole n c.args.notation.now m l c.args.at c.args.place c.args.operator.now c.args.part c.args.left
    c.whole-right.result c.in_ok-sides.sides c.args.text.now c.in_ok-rest.rest.now w c.in_ok-rest.ensures right
    (c.in_ok-sides.ensures l k.0 right.kept
    (λ r. (
      k.1 r,
      wholly-proposition l c.args.place (meant_of c.args.part) c.whole-right.result
          (subst (λ b. IsWholly l b c.args.place (meant_of c.args.part) c.whole-right.result) r right),
    )))

pub returns-clause-shorter : goal.returns-clause-shorter
returns-clause-shorter c = let a : length c.args.text.now ≡ 1 + length c.in_ok-rest.rest.now =
    literal-length (codes ")") c.args.text.now c.in_ok-rest.rest.now c.in_ok-rest.ensures in omega (arith, a)
