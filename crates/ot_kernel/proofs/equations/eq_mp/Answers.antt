use Rattle.std.proofs.Common.{Ok, refl, sym, ◌∙◌}
use Rattle.ot_logic.specs.Faults.{NotAlphaEqual}
use Rattle.ot_logic.specs.Naming.{numbers}
use Rattle.ot_kernel.specs.declared.fault.RuleFault.TheVariants as rules
use Rattle.ot_kernel.specs.Numbered.{tm_at, numbered_sequent}
use Rattle.ot_kernel.proofs.Comparing.{tested}
use Rattle.ot_kernel.proofs.EquationRules.{refuses_rule, eq_mp-refused, eq_mp-made}
use Rattle.ot_kernel.proofs.Equating.{union_of}
use Rattle.ot_kernel.proofs.equations.eq_mp.Goals as goal

pub returns-then-not-alpha_eq : goal.returns-then-not-alpha_eq
returns-then-not-alpha_eq c =
    let ts = c.args.terms.now.terms in
    let (ty, s) = c.in_ok-p.ensures.ok in
    let other = sym (tested _ (tm_at ts c.in_ok-p.p) (tm_at ts c.args.top.now.concl) c.alpha_eq.ensures)
    ∙ c.if-not-alpha_eq.true in
    record {
      derives = refuses_rule rules.NotAlphaEqual NotAlphaEqual _ (λ _. refl)
          (eq_mp-refused numbers (numbered_sequent ts c.args.lower.now) ty (tm_at ts c.in_ok-p.p)
          (tm_at ts c.in_ok-p.q) s.sides (numbered_sequent ts c.args.top.now) other);
    }

pub returns : goal.returns
returns c =
    let ts = c.args.terms.now.terms in
    let lower = c.args.lower.now in
    let top = c.args.top.now in
    let (ty, s) = c.in_ok-p.ensures.ok in
    let same = sym (tested _ (tm_at ts c.in_ok-p.p) (tm_at ts top.concl) c.alpha_eq.ensures)
    ∙ c.if-not-alpha_eq.false in
    let hyps = union_of ts lower top c.in_ok-hyps.hyps c.deref.result.now c.deref-2.result.now
    c.in_ok-hyps.ensures.union c.deref.ensures.value c.deref-2.ensures.value in
    let made = eq_mp-made numbers (numbered_sequent ts lower) ty (tm_at ts c.in_ok-p.p) (tm_at ts c.in_ok-p.q) s.sides
    (numbered_sequent ts top) same in
    record {
      derives = (
        record { hyps = c.in_ok-hyps.ensures.inside; concl = s.typed.right_below },
        made
            ∙ (λ i. Ok (record { hyps = sym hyps i; concl = tm_at ts c.in_ok-p.q })),
      );
    }
