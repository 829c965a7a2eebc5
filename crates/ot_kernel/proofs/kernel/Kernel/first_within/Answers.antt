use Rattle.std.proofs.Common.{◌≡◌, length, slice_get, Some, ap, subst, arith}
use Rattle.ot_kernel.specs.State.{State}
use Rattle.ot_kernel.proofs.Later.{held_of}
use Rattle.ot_kernel.proofs.Seeking.{NoneTried, tried-bare, tried-more, none-within}
use Rattle.ot_kernel.proofs.kernel.Kernel.first_within.Goals as goal

pub loop-h-init : goal.loop-h-init
loop-h-init c = (
  omega (arith, c.first_of-best.ensures.within, c.len.ensures, c.args.candidates.now.theorems.ok.0),
  tried-bare c.args.self.now c.args.candidates.now c.args.hyps.now c.args.concl c.class-class.result
      c.first_of-best.result c.first_of-best.ensures.none,
)

pub loop-h-preserved : goal.loop-h-preserved
loop-h-preserved c =
    let classed = subst (λ cs. slice_get cs c.h-item.result ≡ Some c.class.result)
    (ap (λ (s : State). s.classes) c.self.view_is) c.class.ensures.class in
    let less = c.first_of-best-in-loop-h.ensures.within in (
      omega (arith, less, c.loop-h.invariant.0),
      tried-more c.args.self.now c.args.candidates.now c.args.hyps.now c.args.concl c.class-class.result
          c.loop-h.h-index c.h-item.result c.class.result c.loop-h.best c.first_of-best-in-loop-h.result less
          c.loop-h-test.true c.h-item.is classed c.first_of-best-in-loop-h.ensures.none c.loop-h.invariant.1,
    )

pub returns-clause-none : goal.returns-clause-none
returns-clause-none c =
    let s = c.args.self.now in
    let cs = c.args.candidates.now in
    let hyps = c.args.hyps.now in
    let classed = subst (λ ks. slice_get ks c.args.concl ≡ Some c.class-class.result)
    (ap (λ (k : State). k.classes) c.self.view_is) c.class-class.ensures.class in
    let all : c.loop-h.h-index ≡ length hyps = omega (arith, c.loop-h-test.false, c.loop-h.auto.h-index-end) in
    let tried = subst (λ n. NoneTried s cs hyps c.args.concl c.class-class.result n c.loop-h.best) all
    c.loop-h.invariant.1 in
    none-within c.self.inside.names c.self.inside.terms (held_of c.self.inside) s c.self.view_is c.self.invariant cs
    hyps c.args.concl c.class-class.result c.loop-h.best c.requires.hyps c.requires.concl classed tried
    c.requires.candidates c.loop-h.invariant.0
