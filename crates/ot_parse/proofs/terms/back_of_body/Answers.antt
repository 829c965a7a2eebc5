use Rattle.std.proofs.Common.{false, ◌≡◌, ◌+◌, length, arith}
use Rattle.ot_logic.specs.PlainTrees.{type_of_tree}
use Rattle.ot_parse.specs.Meant.{abstracted, wholly}
use Rattle.ot_parse.specs.Values.{meant_of}
use Rattle.std.proofs.Common.{◌∷◌}
use Rattle.ot_parse.proofs.Halts.{handed-on}
use Rattle.ot_parse.proofs.TermBacks.{closed-halts, body-whole}
use Rattle.std.specs.Prelude.{codes}
use Rattle.ot_parse.proofs.Lengths.{literal-length}
use Rattle.ot_parse.proofs.terms.back_of_body.Goals as goal

pub returns-in_err-rest-clause-read : goal.returns-in_err-rest-clause-read
returns-in_err-rest-clause-read c = λ n h m l x w.
    rw (handed-on _ _ c.from_residual.ensures.1)
    (closed-halts n h m l
    (abstracted (type_of_tree c.args.ty)
    (wholly ((c.args._name.now, type_of_tree c.args.ty) ∷ l) false c.args.place (meant_of c.args.part)))
    c.args.text.now c.in_err-rest.field-0.0 c.in_err-rest.ensures)

pub returns-clause-read : goal.returns-clause-read
returns-clause-read c = λ n h m l x w.
    let body = c.whole-body.ensures ((c.args._name.now, type_of_tree c.args.ty) ∷ l) x in
    body-whole n h m l c.args.place c.args._name.now (type_of_tree c.args.ty) c.args.part c.whole-body.result
    c.in_ok-abstraction.abstraction c.args.text.now c.in_ok-rest.rest.now w c.in_ok-rest.ensures body
    (c.in_ok-abstraction.ensures l c.args._name.now body.kept)

pub returns-clause-shorter : goal.returns-clause-shorter
returns-clause-shorter c = let a : length c.args.text.now ≡ 1 + length c.in_ok-rest.rest.now =
    literal-length (codes ")") c.args.text.now c.in_ok-rest.rest.now c.in_ok-rest.ensures in omega (arith, a)
