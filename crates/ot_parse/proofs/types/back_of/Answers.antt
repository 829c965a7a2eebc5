use Rattle.std.proofs.Common.{ap, sym, subst}
use Rattle.ot_parse.specs.Frames.{frame_of, IsBackOf}
use Rattle.ot_logic.specs.PlainTrees.{type_of_tree}
use Rattle.ot_parse.proofs.types.back_of.Goals as goal

pub returns-in-Domain-clause-read : goal.returns-in-Domain-clause-read
returns-in-Domain-clause-read c =
    λ m. subst (λ f. IsBackOf c.args.notation.now m f (type_of_tree c.args.ty) c.args.text.now
    c.back_of_domain.result) (sym (ap frame_of c.in-Domain.is)) (c.back_of_domain.ensures.read m)

pub returns-in-Range-clause-read : goal.returns-in-Range-clause-read
returns-in-Range-clause-read c =
    λ m. subst (λ f. IsBackOf c.args.notation.now m f (type_of_tree c.args.ty) c.args.text.now c.back_of_range.result)
    (sym (ap frame_of c.in-Range.is)) (c.back_of_range.ensures.read m)

pub returns-in-Argument-clause-read : goal.returns-in-Argument-clause-read
returns-in-Argument-clause-read c =
    λ m. subst (λ f. IsBackOf c.args.notation.now m f (type_of_tree c.args.ty) c.args.text.now
    c.back_of_argument.result) (sym (ap frame_of c.in-Argument.is)) (c.back_of_argument.ensures.read m)
