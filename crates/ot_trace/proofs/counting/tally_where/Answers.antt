use Rattle.std.proofs.Common.{◌++◌, subst}
use Rattle.ot_trace.specs.Tally.{IsTallied}
use Rattle.ot_trace.proofs.TallyLemmas.{tally-true, tally-false}
use Rattle.ot_trace.proofs.counting.tally_where.Goals as goal

pub returns-then-is_marked-clause-tally : goal.returns-then-is_marked-clause-tally
returns-then-is_marked-clause-tally c =
    λ is t. tally-true _ is _ c.args.is_marked c.if-is_marked.true
    (subst (λ z. IsTallied (is ++ z) c.tally_all.new.counts.items) c.operands.ensures
    (c.tally_all.ensures.tally is t))

pub returns-else-is_marked-clause-tally : goal.returns-else-is_marked-clause-tally
returns-else-is_marked-clause-tally c = λ is t. tally-false _ is _ c.args.is_marked c.if-is_marked.false t
