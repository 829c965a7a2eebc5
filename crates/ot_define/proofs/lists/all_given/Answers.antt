use Rattle.std.proofs.Common.{ℕ, List, take, subst, sym, arith}
use Rattle.std.proofs.lemmas.List.{take_all}
use Rattle.ot_term.proofs.Gathering.{take_item}
use Rattle.ot_define.specs.Given.{Keeps}
use Rattle.ot_define.proofs.Giving.{keeps-start}
use Rattle.ot_define.proofs.lists.all_given.Goals as goal

pub loop-hyp-init : goal.loop-hyp-init
loop-hyp-init c = keeps-start c.args.terms.now.types
    c.args.terms.now.terms c.new-all.result.entries c.new-all.ensures.empty

pub loop-hyp-preserved : goal.loop-hyp-preserved
loop-hyp-preserved c =
    subst (λ (hs : List ℕ). Keeps c.args.terms.now.types c.args.terms.now.terms hs c.add_given.new.all.entries)
    (sym (take_item c.args.hyps.now c.loop-hyp.hyp-index c.hyp-item.result c.loop-hyp-test.true c.hyp-item.is))
    (c.in_ok-add_given.ensures (take c.loop-hyp.hyp-index c.args.hyps.now) c.loop-hyp.invariant)

pub returns : goal.returns
returns c =
    subst (λ (hs : List ℕ). Keeps c.args.terms.now.types c.args.terms.now.terms hs c.loop-hyp.all.entries)
    (take_all c.loop-hyp.hyp-index c.args.hyps.now (omega arith)) c.loop-hyp.invariant
