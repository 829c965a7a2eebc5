use Rattle.std.proofs.Common.{refl, sym, ◌∙◌}
use Rattle.ot_logic.specs.Faults.{NotAlphaEqual}
use Rattle.ot_logic.specs.Naming.{numbers}
use Rattle.ot_kernel.specs.declared.fault.RuleFault.TheVariants as rules
use Rattle.ot_kernel.specs.Numbered.{tm_at, numbered_sequent}
use Rattle.ot_kernel.proofs.Comparing.{tested}
use Rattle.ot_kernel.proofs.EquationRules.{refuses_rule, trans-refused}
use Rattle.ot_kernel.proofs.Equating.{outer_inner, outer_ends}
use Rattle.ot_kernel.proofs.equations.outer_sides.Goals as goal

pub returns-then-alpha_eq : goal.returns-then-alpha_eq
returns-then-alpha_eq c =
    let ts = c.args.terms.now.terms in
    let (ty, p) = c.in_ok-a.ensures.ok in
    let (uy, q) = c.in_ok-c.ensures.ok in
    let inner = sym (tested _ (tm_at ts c.in_ok-a.b) (tm_at ts c.in_ok-c.c) c.alpha_eq.ensures)
    ∙ c.if-alpha_eq.true in (
      ty,
      outer_inner ts c.args.lower.now c.args.top.now ty uy c.in_ok-a.a c.in_ok-a.b c.in_ok-c.c c.in_ok-c.d p q
          inner,
    )

pub returns-then-alpha_eq-2 : goal.returns-then-alpha_eq-2
returns-then-alpha_eq-2 c =
    let ts = c.args.terms.now.terms in
    let (ty, p) = c.in_ok-a.ensures.ok in
    let (uy, q) = c.in_ok-c.ensures.ok in
    let inner = sym (tested _ (tm_at ts c.in_ok-a.b) (tm_at ts c.in_ok-c.c) c.alpha_eq.ensures)
    ∙ c.if-alpha_eq.false in
    let ends = sym (tested _ (tm_at ts c.in_ok-c.d) (tm_at ts c.in_ok-a.a) c.alpha_eq-2.ensures)
    ∙ c.if-alpha_eq-2.true in (
      ty,
      outer_ends ts c.args.lower.now c.args.top.now ty uy c.in_ok-a.a c.in_ok-a.b c.in_ok-c.c c.in_ok-c.d p q inner
          ends,
    )

pub returns : goal.returns
returns c =
    let ts = c.args.terms.now.terms in
    let (ty, p) = c.in_ok-a.ensures.ok in
    let (uy, q) = c.in_ok-c.ensures.ok in
    let inner = sym (tested _ (tm_at ts c.in_ok-a.b) (tm_at ts c.in_ok-c.c) c.alpha_eq.ensures)
    ∙ c.if-alpha_eq.false in
    let ends = sym (tested _ (tm_at ts c.in_ok-c.d) (tm_at ts c.in_ok-a.a) c.alpha_eq-2.ensures)
    ∙ c.if-alpha_eq-2.false in
    refuses_rule rules.NotAlphaEqual NotAlphaEqual _ (λ _. refl)
    (trans-refused numbers (numbered_sequent ts c.args.lower.now) (numbered_sequent ts c.args.top.now) ty uy
    (tm_at ts c.in_ok-a.a) (tm_at ts c.in_ok-a.b) (tm_at ts c.in_ok-c.c) (tm_at ts c.in_ok-c.d) p.sides q.sides
    inner ends)
