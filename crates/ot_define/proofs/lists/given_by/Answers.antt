use Rattle.std.specs.Option.{option_map}
use Rattle.std.proofs.Common.{sym, ap, ◌∙◌}
use Rattle.ot_term.specs.TermTable.{term_at}
use Rattle.ot_define.specs.Answers.{tm_at}
use Rattle.ot_define.proofs.Giving.{gives-none, gives-sides}
use Rattle.ot_define.proofs.lists.given_by.Goals as goal

pub returns-in_default-clause-given : goal.returns-in_default-clause-given
returns-in_default-clause-given c =
    sym (gives-none (term_at c.args.terms.now.terms c.args.hyp) c.in_default.ensures.none)

pub returns-clause-given : goal.returns-clause-given
returns-clause-given c =
    let ts = c.args.terms.now.terms in
    ap (option_map (λ v. (v, tm_at ts c.in-Some.sides.1))) c.in-Some-as_variable.ensures.var
    ∙ sym (gives-sides (term_at ts c.args.hyp) c.in-Some.ensures.sides.0 (term_at ts c.in-Some.sides.0)
    (term_at ts c.in-Some.sides.1) c.in-Some.ensures.sides.1)
