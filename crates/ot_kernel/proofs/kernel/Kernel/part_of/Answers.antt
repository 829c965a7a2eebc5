use Rattle.std.proofs.Common.{◌≡◌, ◌<◌, ◌-◌, length, slice_get, Some, ap, subst, sym}
use Rattle.ot_logic.proofs.Elements.{All-slice_get}
use Rattle.ot_kernel.specs.Candidates.{HasClass}
use Rattle.ot_kernel.specs.State.{State, theorem_at}
use Rattle.ot_kernel.proofs.Seeking.{part-with, part-bare}
use Rattle.ot_kernel.proofs.kernel.Kernel.part_of.Goals as goal
use Rattle.ot_kernel.proofs.kernel.Kernel.part_of.Goals.{After-last}

-- the class of the conclusion
concluded : (c : After-last) → (let s = c.args.self.now in
    HasClass s (theorem_at s c.args.th).concl c.class-concl.result)
concluded c = record {
  term = c.concl.result;
  within = c.concl.ensures.inside;
  classed = subst (λ cs. slice_get cs c.concl.result ≡ Some c.class-concl.result)
      (ap (λ (s : State). s.classes) c.self.view_is) c.class-concl.ensures.class;
  is = c.concl.ensures.concl;
}

pub returns-in-Some : goal.returns-in-Some
returns-in-Some c =
    let s = c.args.self.now in
    let hyps = c.hyps.result.now in
    let last = sym c.in-Some.ensures.value in
    let within = All-slice_get (λ i. i < length s.terms) hyps (length hyps - 1) c.in-Some.h.now c.hyps.ensures.inside
    last in
    part-with s (theorem_at s c.args.th) hyps c.in-Some.h.now c.class-concl.result c.class.result c.hyps.ensures.hyps
    (concluded (goal.at.returns-in-Some c).After-last) last within
    (subst (λ cs. slice_get cs c.in-Some.h.now ≡ Some c.class.result) (ap (λ (k : State). k.classes) c.self.view_is)
    c.class.ensures.class)

pub returns-in-None : goal.returns-in-None
returns-in-None c =
    let s = c.args.self.now in
    part-bare s (theorem_at s c.args.th) c.hyps.result.now c.class-concl.result c.hyps.ensures.hyps
    (concluded (goal.at.returns-in-None c).After-last) (sym c.in-None.ensures.value)
