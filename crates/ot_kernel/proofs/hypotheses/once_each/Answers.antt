use Rattle.std.specs.Prelude.{IfSome}
use Rattle.std.proofs.Common.{◌<◌, ◌+◌, ◌-◌, List, ℕ, length, take, drop, sym, subst, arith}
use Rattle.ot_logic.specs.Trees.{Tm}
use Rattle.ot_logic.specs.Hol.{is_in}
use Rattle.ot_logic.specs.Naming.{numbers}
use Rattle.ot_kernel.specs.Numbered.{tm_at, tms_at}
use Rattle.ot_kernel.specs.Classes.{AreClassesOf}
use Rattle.ot_kernel.proofs.ByClass.{behind, classes-back, once-back, put-inside}
use Rattle.ot_kernel.proofs.hypotheses.once_each.Goals as goal

pub push_lacking-requires-clause-classes : goal.push_lacking-requires-clause-classes
push_lacking-requires-clause-classes c =
    let m = c.args.terms.now in
    subst (λ (is : List ℕ). IfSome c.loop-i.later (λ s. AreClassesOf m (tms_at m.terms is) s.keys))
    (sym (behind m c.args.g.now c.loop-i.i c.loop-i-test.true)) c.loop-i.invariant.classes

pub loop-i-preserved : goal.loop-i-preserved
loop-i-preserved c =
    let m = c.args.terms.now in
    let g = c.args.g.now in
    let j = c.loop-i.i in
    let t = c.index-g-i.result in
    let old = c.loop-i.once.items in
    let new = c.push_lacking.new.list.items in
    let put = c.in_ok-push_lacking.ensures in
    let before : j - 1 < length g = omega (arith, c.loop-i-test.true, c.loop-i.auto.i) in
    let here = subst (λ i. i < length m.terms) (sym c.index-g-i.is) (c.requires (j - 1) t before) in
    record {
      made = once-back m g old new j t c.loop-i-test.true c.loop-i.auto.i c.index-g-i.is put c.loop-i.invariant.made;
      classes = subst (λ (us : List (Tm ℕ)). IfSome c.add_term.new.classes (λ s. AreClassesOf m us s.keys))
          (classes-back m g j t c.loop-i-test.true c.loop-i.auto.i c.index-g-i.is)
          (c.in_ok-add_term.ensures (tms_at m.terms (drop j g)) c.loop-i.invariant.classes);
      inside = put-inside (length m.terms) old new t
          (is_in numbers (tm_at m.terms t) (tms_at m.terms (take (length g - (j - 1 + 1)) (drop (j - 1 + 1) g)))) put
          here c.loop-i.invariant.inside;
    }
