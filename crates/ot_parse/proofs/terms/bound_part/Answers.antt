use Rattle.std.proofs.Common.{◌∙◌, ◌-◌, sym, ap, subst, arith, length, take, Ok}
use Rattle.std.proofs.lemmas.List.{take_all}
use Rattle.ot_logic.specs.PlainTrees.{type_of_tree}
use Rattle.ot_parse.specs.TermFrames.{around}
use Rattle.ot_parse.specs.TermCode.{frames_of}
use Rattle.ot_parse.proofs.Places.{ArePassed, passed-start, passed-other, passed-found}
use Rattle.ot_parse.proofs.Places.{passed-type, place-found, passed-frame, passed-all}
use Rattle.ot_parse.proofs.terms.bound_part.Goals as goal

pub frames-init : goal.frames-init
frames-init c = (
  omega arith,
  subst
      (λ os. ArePassed (around (frames_of c.args.frames.now)) c.args.name.now 0 (around (frames_of os)))
      (sym (take_all (length c.args.frames.now) c.args.frames.now (omega arith)))
      (passed-start (around (frames_of c.args.frames.now)) c.args.name.now),
)

pub frames-preserved-in-None : goal.frames-preserved-in-None
frames-preserved-in-None c =
    let l = around (frames_of c.args.frames.now) in (
      omega arith,
      subst (ArePassed l c.args.name.now c.frames.number)
          (c.in-None.ensures.none (around (frames_of (take (c.frames.left - 1) c.args.frames.now))))
          (passed-frame l c.args.name.now c.frames.number c.args.frames.now c.frames.left (c.frames.left - 1)
          c.index-frames-left.result (omega arith) (omega arith) c.index-frames-left.is c.frames.invariant.1),
    )

pub frames-preserved : goal.frames-preserved
frames-preserved c =
    let l = around (frames_of c.args.frames.now) in
    let outer = around (frames_of (take (c.frames.left - 1) c.args.frames.now)) in (
      omega arith,
      passed-other l c.args.name.now c.frames.number c.in-Some.variable.now (type_of_tree c.in-Some.ty.now) outer
          (subst (ArePassed l c.args.name.now c.frames.number) (c.in-Some.ensures.some outer)
          (passed-frame l c.args.name.now c.frames.number c.args.frames.now c.frames.left (c.frames.left - 1)
          c.index-frames-left.result (omega arith) (omega arith) c.index-frames-left.is c.frames.invariant.1))
          (sym c.is_same.ensures ∙ c.if-is_same.false),
    )

pub returns-then-is_same : goal.returns-then-is_same
returns-then-is_same c =
    let l = around (frames_of c.args.frames.now) in
    let outer = around (frames_of (take (c.frames.left - 1) c.args.frames.now)) in
    let w = subst (ArePassed l c.args.name.now c.frames.number) (c.in-Some.ensures.some outer)
    (passed-frame l c.args.name.now c.frames.number c.args.frames.now c.frames.left (c.frames.left - 1)
    c.index-frames-left.result (omega arith) (omega arith) c.index-frames-left.is c.frames.invariant.1) in
    let value = c.in_ok-bound_value-in-Some.ensures in
    record {
      means = ap Ok value.term
          ∙ sym (place-found l c.args.at c.args.name.now c.frames.number
          (passed-found l c.args.name.now c.frames.number c.in-Some.variable.now (type_of_tree c.in-Some.ty.now) outer
          w (sym c.is_same.ensures ∙ c.if-is_same.true)));
      kept = value.kept l (passed-type l c.args.name.now c.frames.number c.in-Some.variable.now
          (type_of_tree c.in-Some.ty.now) outer w);
    }

pub returns : goal.returns
returns c =
    record {
      means = sym (passed-all (around (frames_of c.args.frames.now)) c.args.at c.args.name.now c.frames.number
          c.args.frames.now c.frames.left (omega arith) c.frames.invariant.1);
      kept = tt;
    }
