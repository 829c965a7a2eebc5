use Rattle.ot_log_page.proofs.Adding.{prove_hyp-adds}
use Rattle.ot_log_page.proofs.expand.write_prove_hyp.Goals as goal

pub returns : goal.returns
returns c = record {
  adds = prove_hyp-adds c.args.nodes.now _ _ _ c.args.lemma c.args.other c.in_ok-equal.equal
      c.in_ok-number.number c.in_ok-equal.ensures.adds c.in_ok-number.ensures.adds;
}
