use Rattle.std.specs.List.{list_all}
use Rattle.std.proofs.Common.{ℕ, ap, ◌∙◌, Err, ◌&&◌, map, subst, sym, rules}
use Rattle.ot_logic.specs.Answers.{◌>>=◌, unless}
use Rattle.ot_logic.specs.Faults.{Fault, NotClosed, TypeVarEscapes}
use Rattle.ot_logic.specs.Naming.{numbers}
use Rattle.ot_term.specs.TermTable.{variable_of}
use Rattle.ot_laws.specs.Conditions.{is_closed, is_closed_but, keeps_type_vars}
use Rattle.ot_define.specs.Answers.{Checks, checked_given, tm_at}
use Rattle.ot_define.proofs.Refusing.{Stated, checks-then, checks-stop, unless-both}
use Rattle.ot_define.proofs.lists.check_given.Goals as goal

pub returns-in_err-check_all_closed : goal.returns-in_err-check_all_closed
returns-in_err-check_all_closed c =
    let ts = map (tm_at c.args.terms.now.terms) c.args.given.now in
    let vs = map (variable_of c.args.terms.now.types) c.args.vars.now in
    let concl = tm_at c.args.terms.now.terms c.args.concl in
    let e = c.in_err-check_all_closed.field-0.0 in
    let terms = list_all (is_closed numbers) ts in
    let rest = is_closed_but numbers vs concl in
    let kept = unless TypeVarEscapes (list_all (keeps_type_vars numbers) ts) in
    let first = checks-stop e (unless NotClosed terms) (unless NotClosed rest) c.in_err-check_all_closed.ensures in
    let all : Checks (Err e) (checked_given numbers vs ts concl) =
    checks-stop e (unless NotClosed (terms && rest)) kept
    (subst (Checks (Err e)) (sym (unless-both {E = Fault ℕ} NotClosed terms rest)) first) in
    search (rules, all)

pub returns-in_err-check_closed_but : goal.returns-in_err-check_closed_but
returns-in_err-check_closed_but c =
    let ts = map (tm_at c.args.terms.now.terms) c.args.given.now in
    let vs = map (variable_of c.args.terms.now.types) c.args.vars.now in
    let concl = tm_at c.args.terms.now.terms c.args.concl in
    let e = c.in_err-check_closed_but.field-0.0 in
    let terms = list_all (is_closed numbers) ts in
    let rest = is_closed_but numbers vs concl in
    let kept = unless TypeVarEscapes (list_all (keeps_type_vars numbers) ts) in
    let first = checks-then (Err e) (unless NotClosed terms) (unless NotClosed rest) c.in_ok-check_all_closed.ensures
    c.in_err-check_closed_but.ensures in
    let all : Checks (Err e) (checked_given numbers vs ts concl) =
    checks-stop e (unless NotClosed (terms && rest)) kept
    (subst (Checks (Err e)) (sym (unless-both {E = Fault ℕ} NotClosed terms rest)) first) in
    search (rules, all)

pub returns : goal.returns
returns c =
    let ts = map (tm_at c.args.terms.now.terms) c.args.given.now in
    let terms = list_all (is_closed numbers) ts in
    let rest = is_closed_but numbers (map (variable_of c.args.terms.now.types) c.args.vars.now)
    (tm_at c.args.terms.now.terms c.args.concl) in
    let kept = unless TypeVarEscapes (list_all (keeps_type_vars numbers) ts) in
    let r = c.check_all_type_vars.result in
    let first = ap (λ (x : Stated). x >>= λ _. unless NotClosed rest) c.in_ok-check_all_closed.ensures in
    let both = unless-both {E = Fault ℕ} NotClosed terms rest ∙ first ∙ c.in_ok-check_closed_but.ensures in
    checks-then r (unless NotClosed (terms && rest)) kept both c.check_all_type_vars.ensures
