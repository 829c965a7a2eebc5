use Rattle.std.proofs.Common.{◌+◌, drop, sym, ap, ◌∙◌}
use Rattle.std.specs.Prelude.{◌||◌}
use Rattle.ot_logic.specs.Hol.{is_in}
use Rattle.ot_logic.specs.Naming.{numbers}
use Rattle.ot_kernel.specs.Numbered.{tm_at, tms_at}
use Rattle.ot_kernel.proofs.Comparing.{in_next}
use Rattle.ot_kernel.proofs.membership.has_term.Goals as goal

pub returns-then-alpha_eq : goal.returns-then-alpha_eq
returns-then-alpha_eq c =
    let rest = is_in numbers (tm_at c.args.terms.now.terms c.args.t)
    (tms_at c.args.terms.now.terms (drop (c.loop-u.u-index + 1) c.args.among.now)) in
    sym (c.loop-u.invariant ∙ in_next c.args.terms.now.terms c.args.t c.args.among.now c.loop-u.u-index
    c.u-item.result c.alpha_eq.result c.loop-u-test.true c.u-item.is c.alpha_eq.ensures
    ∙ ap (λ b. b || rest) c.if-alpha_eq.true)

pub loop-u-preserved : goal.loop-u-preserved
loop-u-preserved c =
    let rest = is_in numbers (tm_at c.args.terms.now.terms c.args.t)
    (tms_at c.args.terms.now.terms (drop (c.loop-u.u-index + 1) c.args.among.now)) in
    c.loop-u.invariant ∙ in_next c.args.terms.now.terms c.args.t c.args.among.now c.loop-u.u-index c.u-item.result
    c.alpha_eq.result c.loop-u-test.true c.u-item.is c.alpha_eq.ensures ∙ ap (λ b. b || rest) c.if-alpha_eq.false
