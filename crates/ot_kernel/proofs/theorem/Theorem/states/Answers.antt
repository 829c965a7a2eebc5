use Rattle.std.proofs.Common.{◌≡◌, true, List, ℕ, sym, ap, ◌∙◌}
use Rattle.std.specs.Prelude.{◌&&◌}
use Rattle.ot_logic.specs.Hol.{same_tm, all_in}
use Rattle.ot_logic.specs.Naming.{numbers}
use Rattle.ot_kernel.specs.Numbered.{tm_at, tms_at}
use Rattle.ot_kernel.proofs.Comparing.{tested, other_conclusion, other_inclusion}
use Rattle.ot_kernel.proofs.theorem.Theorem.states.Goals as goal

pub returns-then-not-alpha_eq : goal.returns-then-not-alpha_eq
returns-then-not-alpha_eq c =
    let ts = c.args.terms.now.terms in
    let left = tms_at ts c.args.self.now.hyps in
    let right = tms_at ts c.args.hyps.now in
    other_conclusion (all_in numbers left right && all_in numbers right left) _
    (sym (tested _ (tm_at ts c.args.self.now.concl) (tm_at ts c.args.concl) c.alpha_eq.ensures)
    ∙ c.if-not-alpha_eq.true)

pub returns : goal.returns
returns c =
    let ts = c.args.terms.now.terms in
    let left = tms_at ts c.args.self.now.hyps in
    let right = tms_at ts c.args.hyps.now in
    let concl : same_tm numbers (tm_at ts c.args.self.now.concl) (tm_at ts c.args.concl) ≡ true =
    sym (tested _ (tm_at ts c.args.self.now.concl) (tm_at ts c.args.concl) c.alpha_eq.ensures)
    ∙ c.if-not-alpha_eq.false in
    let first : all_in numbers left right ≡ true = ap (λ (is : List ℕ). all_in numbers (tms_at ts is) right)
    (sym c.deref.ensures.value) ∙ sym c.has_terms.ensures ∙ c.if-not-has_terms.false in
    let second : c.has_terms-2.result ≡ all_in numbers right left =
    rw c.deref-2.ensures.value at c.has_terms-2.ensures in
    other_inclusion c.has_terms-2.result _ _ _ first concl second
