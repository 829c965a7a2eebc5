use Rattle.std.proofs.Common.{subst, length, arith}
use Rattle.ot_forms.specs.Reading.{Got}
use Rattle.ot_logic.specs.PlainTrees.{type_of_tree}
use Rattle.ot_parse.specs.Frames.{frames_of, EndsWithin}
use Rattle.ot_parse.proofs.Halts.{handed-on}
use Rattle.ot_parse.proofs.TypeFronts.{IsClosedTo, closing-step, closing-halts}
use Rattle.ot_parse.proofs.types.close.Goals as goal

pub returns-in_err-inside-in-Some-clause-read : goal.returns-in_err-inside-in-Some-clause-read
returns-in_err-inside-in-Some-clause-read c =
    rw (handed-on _ _ c.from_residual.ensures.1)
    (closing-halts c.args.notation.now (frames_of c.args.frames.now.items) (Got (type_of_tree c.args.ty)
    c.args.text.now) c.frames.frames.items c.pop.new.self.items c.in-Some.inside (type_of_tree c.frames.ty)
    c.frames.rest.now c.in_err-inside-in-Some.field-0.0 c.in-Some.ensures.items c.frames.invariant.0
    c.in_err-inside-in-Some.ensures.read)

pub returns-in-Further-clause-read : goal.returns-in-Further-clause-read
returns-in-Further-clause-read c =
    let fs = frames_of c.args.frames.now.items in let o = Got (type_of_tree c.args.ty) c.args.text.now in
    subst (IsClosedTo c.args.notation.now fs o c.pop.new.self.items) c.in-Further.is
    (closing-step c.args.notation.now fs o c.frames.frames.items c.pop.new.self.items c.in-Some.inside
    (type_of_tree c.frames.ty) c.frames.rest.now c.in_ok-inside-in-Some.field-0 c.in-Some.ensures.items
    c.frames.invariant.0 c.in_ok-inside-in-Some.ensures.read)

pub frames-preserved : goal.frames-preserved
frames-preserved c =
    let fs = frames_of c.args.frames.now.items in let o = Got (type_of_tree c.args.ty) c.args.text.now in
    let b = subst (EndsWithin (length c.frames.rest.now)) c.in-Whole.is c.in_ok-inside-in-Some.ensures.shorter in
    let w = c.frames.invariant.1 in (
      subst (IsClosedTo c.args.notation.now fs o c.pop.new.self.items) c.in-Whole.is
          (closing-step c.args.notation.now fs o c.frames.frames.items c.pop.new.self.items c.in-Some.inside
          (type_of_tree c.frames.ty) c.frames.rest.now c.in_ok-inside-in-Some.field-0 c.in-Some.ensures.items
          c.frames.invariant.0 c.in_ok-inside-in-Some.ensures.read),
      omega (arith, b, w),
    )

pub returns-in-Further-clause-shorter : goal.returns-in-Further-clause-shorter
returns-in-Further-clause-shorter c =
    let b = subst (EndsWithin (length c.frames.rest.now)) c.in-Further.is c.in_ok-inside-in-Some.ensures.shorter in
    let w = c.frames.invariant.1 in omega (arith, b, w)
