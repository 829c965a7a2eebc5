use Rattle.std.proofs.Common.{◌≡◌, ◌<◌, ◌∙◌, length, ap, sym, subst, eqb-true}
use Rattle.std.proofs.lemmas.Result.{IfOk-weaker}
use Rattle.ot_logic.specs.Hol.{union, is_in}
use Rattle.ot_logic.specs.Naming.{numbers}
use Rattle.ot_kernel.specs.Numbered.{tm_at, tms_at}
use Rattle.ot_kernel.proofs.ByClass.{union-next, union-end, union-none, put-inside}
use Rattle.ot_kernel.proofs.hypotheses.union.Goals as goal

pub loop-t-preserved : goal.loop-t-preserved
loop-t-preserved c =
    let m = c.args.terms.now in
    let g = tms_at m.terms c.args.g.now in
    let t = c.t-item.result in
    let old = c.loop-t.all.items in
    let new = c.push_lacking.new.list.items in
    let put = c.in_ok-push_lacking.ensures in
    let here =
    subst (λ i. i < length m.terms) (sym c.t-item.is) (c.requires.h c.loop-t.t-index t c.loop-t-test.true) in
    record {
      made = union-next m g (union numbers g (tms_at m.terms c.args.h.now)) c.args.h.now old new c.loop-t.t-index t
          c.loop-t-test.true c.t-item.is put c.loop-t.invariant.made;
      classes = c.loop-t.invariant.classes;
      inside = put-inside (length m.terms) old new t (is_in numbers (tm_at m.terms t) g) put here
          c.loop-t.invariant.inside;
    }

pub returns-then-is_empty-2-clause-union : goal.returns-then-is_empty-2-clause-union
returns-then-is_empty-2-clause-union c =
    let m = c.args.terms.now in
    let g = c.args.g.now in
    let h = c.args.h.now in
    IfOk-weaker c.from_slice-then-is_empty-2.result (λ v. v ≡ h)
    (λ v. tms_at m.terms v ≡ union numbers (tms_at m.terms g) (tms_at m.terms h))
    (λ v e. ap (tms_at m.terms) e
    ∙ union-none m g h (eqb-true (length g) 0 (sym c.is_empty-2.ensures ∙ c.if-is_empty-2.true)))
    c.from_slice-then-is_empty-2.ensures.items

pub returns-clause-union : goal.returns-clause-union
returns-clause-union c =
    let m = c.args.terms.now in
    let g = tms_at m.terms c.args.g.now in
    let all = union numbers g (tms_at m.terms c.args.h.now) in
    IfOk-weaker c.of.result (λ v. v ≡ c.loop-t.all.items) (λ v. tms_at m.terms v ≡ all)
    (λ v e. ap (tms_at m.terms) e
    ∙ union-end m g all c.args.h.now c.loop-t.all.items c.loop-t.t-index c.loop-t-test.false
    c.loop-t.invariant.made)
    c.of.ensures.items
