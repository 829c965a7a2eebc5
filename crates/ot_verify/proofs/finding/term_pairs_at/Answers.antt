use Rattle.std.proofs.Common.{sym, subst}
use Rattle.ot_verify.specs.Asking.{AreEach}
use Rattle.ot_verify.specs.Finding.{IsFoundTermPair}
use Rattle.ot_verify.proofs.Places.{each-next, each-none}
use Rattle.ot_verify.proofs.finding.term_pairs_at.Goals as goal

pub returns-in-None : goal.returns-in-None
returns-in-None c =
    each-none (IsFoundTermPair c.args.nodes.now c.args.types.now c.args.terms.now) c.args.pairs.now
    c.loop-pair.pair-index _ c.loop-pair-test.true c.pair-item.is c.in-None.ensures

pub loop-pair-preserved : goal.loop-pair-preserved
loop-pair-preserved c =
    subst (AreEach (IsFoundTermPair c.args.nodes.now c.args.types.now c.args.terms.now) _)
    (sym c.in_ok-push-in-Some.ensures.items)
    (each-next (IsFoundTermPair c.args.nodes.now c.args.types.now c.args.terms.now) c.args.pairs.now
    c.loop-pair.pair-index
    _ c.loop-pair.found.items _ c.loop-pair-test.true c.pair-item.is c.loop-pair.invariant c.in-Some.ensures)
