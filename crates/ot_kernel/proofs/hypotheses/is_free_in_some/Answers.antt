use Rattle.std.specs.Prelude.{◌||◌}
use Rattle.std.proofs.Common.{◌+◌, drop, sym, ap, ◌∙◌}
use Rattle.ot_logic.specs.Hol.{is_free_in_some}
use Rattle.ot_logic.specs.Naming.{numbers}
use Rattle.ot_term.specs.TermTable.{variable_of}
use Rattle.ot_kernel.specs.Numbered.{tms_at}
use Rattle.ot_kernel.proofs.Frees.{free_next}
use Rattle.ot_kernel.proofs.hypotheses.is_free_in_some.Goals as goal

pub returns-then-branch : goal.returns-then-branch
returns-then-branch c =
    let t = c.args.terms.now in
    let v = variable_of t.types c.args.v in
    let rest = is_free_in_some numbers v (tms_at t.terms (drop (c.loop-t.t-index + 1) c.args.among.now)) in
    sym (c.loop-t.invariant ∙ free_next t.terms v c.args.among.now c.loop-t.t-index c.t-item.result
    c.in_ok-is_free.field-0 c.loop-t-test.true c.t-item.is c.in_ok-is_free.ensures
    ∙ ap (λ b. b || rest) c.if-branch.true)

pub loop-t-preserved : goal.loop-t-preserved
loop-t-preserved c =
    let t = c.args.terms.now in
    let v = variable_of t.types c.args.v in
    let rest = is_free_in_some numbers v (tms_at t.terms (drop (c.loop-t.t-index + 1) c.args.among.now)) in
    c.loop-t.invariant ∙ free_next t.terms v c.args.among.now c.loop-t.t-index c.t-item.result c.in_ok-is_free.field-0
    c.loop-t-test.true c.t-item.is c.in_ok-is_free.ensures ∙ ap (λ b. b || rest) c.if-branch.false
