use Rattle.std.proofs.Common.{◌≡◌, List, ℕ, sym, ap, ◌∙◌}
use Rattle.ot_logic.specs.Hol.{same_tm, all_in}
use Rattle.ot_logic.specs.Naming.{numbers}
use Rattle.ot_kernel.specs.Numbered.{tm_at, tms_at}
use Rattle.ot_kernel.proofs.Comparing.{tested, other_conclusion, same_conclusion}
use Rattle.ot_kernel.proofs.within.is_within.Goals as goal

pub returns-then-not-alpha_eq : goal.returns-then-not-alpha_eq
returns-then-not-alpha_eq c =
    let ts = c.args.terms.now.terms in
    let left = tms_at ts c.args.th.now.hyps in
    let right = tms_at ts c.args.hyps.now in
    other_conclusion (all_in numbers left right) _
    (sym (tested _ (tm_at ts c.args.th.now.concl) (tm_at ts c.args.concl) c.alpha_eq.ensures)
    ∙ c.if-not-alpha_eq.true)

pub returns : goal.returns
returns c =
    let ts = c.args.terms.now.terms in
    let left = tms_at ts c.args.th.now.hyps in
    let right = tms_at ts c.args.hyps.now in
    let concl : same_tm numbers (tm_at ts c.args.th.now.concl) (tm_at ts c.args.concl) ≡ _ =
    sym (tested _ (tm_at ts c.args.th.now.concl) (tm_at ts c.args.concl) c.alpha_eq.ensures)
    ∙ c.if-not-alpha_eq.false in
    same_conclusion c.has_terms.result (all_in numbers left right) _ concl
    (c.has_terms.ensures ∙ ap (λ (is : List ℕ). all_in numbers (tms_at ts is) right) c.deref.ensures.value)
