use Rattle.std.specs.List.{list_all}
use Rattle.std.proofs.Common.{ℕ, Err, map, subst, sym, ap, arith, rules, ◌∙◌}
use Rattle.std.proofs.lemmas.List.{take_all}
use Rattle.std.proofs.lemmas.List.Folds.{list_all-map}
use Rattle.ot_logic.specs.Answers.{unless}
use Rattle.ot_logic.specs.Faults.{NotClosed}
use Rattle.ot_logic.specs.Naming.{numbers}
use Rattle.ot_laws.specs.Conditions.{is_closed}
use Rattle.ot_define.specs.Answers.{Checks, tm_at}
use Rattle.ot_define.proofs.Refusing.{checks-one}
use Rattle.ot_define.proofs.lists.check_all_closed.Goals as goal

pub returns-in_err-check_closed_but : goal.returns-in_err-check_closed_but
returns-in_err-check_closed_but c =
    let p = λ (t : ℕ). is_closed numbers (tm_at c.args.terms.now.terms t) in
    let one = checks-one p c.args.ts.now c.loop-t.t-index c.t-item.result c.in_err-check_closed_but.field-0.0
    NotClosed c.loop-t-test.true c.t-item.is c.in_err-check_closed_but.ensures in
    let all : Checks (Err c.in_err-check_closed_but.field-0.0) (unless NotClosed (list_all (is_closed numbers) (map (tm_at c.args.terms.now.terms) c.args.ts.now))) =
    subst (λ b. Checks (Err c.in_err-check_closed_but.field-0.0) (unless NotClosed b))
    (sym (list_all-map (is_closed numbers) (tm_at c.args.terms.now.terms) c.args.ts.now)) one in
    search (rules, all)

pub returns : goal.returns
returns c =
    let p = λ (t : ℕ). is_closed numbers (tm_at c.args.terms.now.terms t) in
    ap (unless NotClosed) (list_all-map (is_closed numbers) (tm_at c.args.terms.now.terms) c.args.ts.now
    ∙ ap (list_all p) (sym (take_all c.loop-t.t-index c.args.ts.now (omega arith))) ∙ c.loop-t.invariant)
