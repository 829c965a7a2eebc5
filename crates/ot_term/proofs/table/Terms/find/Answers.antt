use Rattle.std.proofs.Common.{rules, sym}
use Rattle.ot_term.proofs.TermTableLemmas.{found_term}
use Rattle.ot_term.proofs.table.Terms.find.Goals as goal

pub returns-in-Ok-clause-found : goal.returns-in-Ok-clause-found
returns-in-Ok-clause-found c =
    let found = found_term _ _ c.self.inside.nodes c.self.invariant c.args.node.now c.args.self.now c.self.view_is
    c.in_ok-index.index (sym c.in_ok-index.ensures.index) in
    search (rules, found)
