use Rattle.std.specs.Prelude.{◌==◌}
use Rattle.std.specs.Option.{option_map}
use Rattle.std.proofs.Common.{◌≡◌, ℕ, List, ◌&&◌, length, map, nat_eq, subst, sym, ap, ◌∙◌}
use Rattle.std.proofs.lemmas.List.{length-map}
use Rattle.ot_logic.specs.Answers.{◌>>=◌, unless, some_or}
use Rattle.ot_logic.specs.Faults.{Fault, BadDefinitionList}
use Rattle.ot_logic.specs.Hol.{same_var, symbols_of}
use Rattle.ot_logic.specs.Trees.{ConSymbol}
use Rattle.ot_logic.specs.Naming.{numbers}
use Rattle.ot_term.specs.TermTable.{variable_of}
use Rattle.ot_laws.specs.Conditions.{are_distinct, checked_symbols, terms_given}
use Rattle.ot_define.specs.Answers.{Checks, checked_given, tm_at, sequent_at}
use Rattle.ot_define.proofs.Refusing.{checks-then, checks-some}
use Rattle.ot_define.proofs.signature.Signature.check_list.Goals as goal

pub returns : goal.returns
returns c =
    let r = c.check_given.result in
    let tm = tm_at c.args.terms.now.terms in
    let vs = map (variable_of c.args.terms.now.types) c.args.vars.now in
    let q = sequent_at c.args.terms.now.terms c.args.hyps.now c.args.concl in
    let paired = are_distinct nat_eq c.args.names.now && are_distinct (same_var numbers) vs
    && (length q.hyps == length vs) in
    let symbols = checked_symbols numbers c.args.self.now.defined c.args.self.now.used (symbols_of numbers q)
    (map ConSymbol c.args.names.now) in
    let given = sym c.in_ok-given.ensures.given ∙ ap (option_map (λ ts. map tm ts.items)) c.in-Some.is in
    let once = are_distinct nat_eq c.args.names.now && are_distinct (same_var numbers) vs in
    let long : unless {E = Fault ℕ} BadDefinitionList paired
    ≡ unless BadDefinitionList (once && (length c.args.hyps.now == length c.args.vars.now)) =
    λ i. unless BadDefinitionList
    (once && (length-map c.args.hyps.now tm i == length-map c.args.vars.now (variable_of c.args.terms.now.types)
    i)) in
    let last = checks-then r symbols (checked_given numbers vs (map tm c.in-Some.given.items) q.concl)
    c.in_ok-check_constants.ensures
    (subst (λ (is : List ℕ). Checks r (checked_given numbers vs (map tm is) q.concl)) c.as_slice.ensures.value
    c.check_given.ensures) in
    checks-then r (unless BadDefinitionList paired) (some_or BadDefinitionList (terms_given numbers q.hyps vs)
    >>= λ ts. symbols >>= λ _. checked_given numbers vs ts q.concl) (long ∙ c.in_ok-check_pairs.ensures)
    (checks-some r BadDefinitionList (terms_given numbers q.hyps vs) (map tm c.in-Some.given.items)
    (λ ts. symbols >>= λ _. checked_given numbers vs ts q.concl) given last)
