use Rattle.ot_term.specs.TermTable.{term_at, variable_of}
use Rattle.ot_kernel.proofs.NewTerms.{makes_abstraction}
use Rattle.ot_kernel.proofs.equations.abstract_from.Goals as goal

pub returns-clause-makes : goal.returns-clause-makes
returns-clause-makes c =
    let t = c.args.terms.now in
    makes_abstraction c.abs.new.self (variable_of t.types c.args.v.now) (term_at t.terms c.args.t) c.in_ok-abs.field-0
    c.abs.ensures.grown.table c.in_ok-abs.ensures.ok
