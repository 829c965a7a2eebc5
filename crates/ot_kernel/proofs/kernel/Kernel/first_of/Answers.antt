use Rattle.std.proofs.Common.{sym, subst, ◌∙◌, arith}
use Rattle.ot_kernel.specs.State.{sequent_at}
use Rattle.ot_kernel.proofs.Seeking.{IsOn, on-start, on-next}
use Rattle.ot_kernel.proofs.kernel.Kernel.first_of.Goals as goal

pub loop-place-init : goal.loop-place-init
loop-place-init c = λ a.
    let s = c.args.self.now in
    let cs = c.args.candidates.now in
    let r = sequent_at s c.args.hyps.now c.args.concl in
    subst (λ place. IsOn s cs r c.args.part c.args.end place a) (sym c.unwrap_or-place.ensures)
    (on-start s cs r c.args.part c.args.end c.requires.end c.first.result c.first.ensures a)

pub returns-then-is_within-clause-none : goal.returns-then-is_within-clause-none
returns-then-is_within-clause-none c = λ a j i lt at th.
    (c.loop-place.invariant a).none j i lt (omega (arith, lt, c.loop-place-test.true)) at th

pub loop-place-preserved : goal.loop-place-preserved
loop-place-preserved c = λ a.
    let s = c.args.self.now in
    let cs = c.args.candidates.now in
    let r = sequent_at s c.args.hyps.now c.args.concl in
    on-next s cs r c.args.part c.args.end c.requires.end c.loop-place.place c.index.result.now c.index-place.result.now
    c.loop-place-test.true c.index.ensures (sym c.is_within.ensures ∙ c.if-is_within.false) c.index-place.ensures a
    (c.loop-place.invariant a)

pub returns-clause-none : goal.returns-clause-none
returns-clause-none c = λ a j i lt at th.
    (c.loop-place.invariant a).none j i (omega (arith, lt, c.loop-place-test.false)) lt at th
