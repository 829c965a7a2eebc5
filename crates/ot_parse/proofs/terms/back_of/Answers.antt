use Rattle.std.proofs.Common.{◌≤◌, length, sym, subst}
use Rattle.ot_parse.specs.Values.{IsMeant, meant_of}
use Rattle.ot_parse.specs.TermFrames.{inner_of, after}
use Rattle.ot_parse.specs.TermCode.{frame_of, IsKept, IsBack}
use Rattle.ot_parse.proofs.terms.back_of.Goals as goal

pub returns-in-First-clause-read : goal.returns-in-First-clause-read
returns-in-First-clause-read c = λ m l.
    subst (λ g. IsKept l g → IsMeant (inner_of (frame_of g) l) c.args.part → length c.args.text.now ≤ c.args.total
    → IsBack c.args.total c.args.notation.now m l
    (after c.args.total c.args.notation.now m l (frame_of g) (meant_of c.args.part) c.args.text.now)
    c.back_of_first.result) (sym c.in-First.is)
    (λ k x w. c.back_of_first.ensures.read c.args.notation.now m l k x w)

pub returns-in-Right-clause-read : goal.returns-in-Right-clause-read
returns-in-Right-clause-read c = λ m l.
    subst (λ g. IsKept l g → IsMeant (inner_of (frame_of g) l) c.args.part → length c.args.text.now ≤ c.args.total
    → IsBack c.args.total c.args.notation.now m l
    (after c.args.total c.args.notation.now m l (frame_of g) (meant_of c.args.part) c.args.text.now)
    c.back_of_right.result) (sym c.in-Right.is)
    (λ k x w. c.back_of_right.ensures.read c.args.total m l k x w)

pub returns-in-Argument-clause-read : goal.returns-in-Argument-clause-read
returns-in-Argument-clause-read c = λ m l.
    subst (λ g. IsKept l g → IsMeant (inner_of (frame_of g) l) c.args.part → length c.args.text.now ≤ c.args.total
    → IsBack c.args.total c.args.notation.now m l
    (after c.args.total c.args.notation.now m l (frame_of g) (meant_of c.args.part) c.args.text.now)
    c.back_of_argument.result) (sym c.in-Argument.is)
    (λ k x w. c.back_of_argument.ensures.read m l k x w)

pub returns-in-Body-clause-read : goal.returns-in-Body-clause-read
returns-in-Body-clause-read c = λ m l.
    subst (λ g. IsKept l g → IsMeant (inner_of (frame_of g) l) c.args.part → length c.args.text.now ≤ c.args.total
    → IsBack c.args.total c.args.notation.now m l
    (after c.args.total c.args.notation.now m l (frame_of g) (meant_of c.args.part) c.args.text.now)
    c.back_of_body.result) (sym c.in-Body.is)
    (λ k x w. c.back_of_body.ensures.read c.args.total c.args.notation.now m l x w)
