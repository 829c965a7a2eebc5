use Rattle.ot_logic.specs.Naming.{names}
use Rattle.ot_logic.specs.Hol.{symbols_of}
use Rattle.ot_log_rules.specs.Statements.{sequent_at}
use Rattle.ot_log_rules.proofs.Freshness.{symbols-in_sequent}
use Rattle.ot_log_rules.proofs.conditions.are_symbols_fresh.Goals as goal

pub may_define-requires-clause-premise : goal.may_define-requires-clause-premise
may_define-requires-clause-premise c = c.in_ok-parts.ensures.has

pub returns : goal.returns
returns c = λ dl sig.
    let ts = c.args.nodes.now in
    let q = sequent_at ts c.args.premise.now in
    c.in_ok-fresh.ensures dl (symbols_of names q) sig
    (symbols-in_sequent ts q c.in_ok-parts.parts c.in_ok-parts.ensures)
