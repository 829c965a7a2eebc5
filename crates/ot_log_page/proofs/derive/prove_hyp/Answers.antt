use Rattle.std.proofs.Common.{◌∙◌, ap, nat_eq, refl}
use Rattle.std.specs.Prelude.{filter, not}
use Rattle.ot_log_rules.proofs.Cases.{joined}
use Rattle.ot_log_page.proofs.Deriving.{proved}
use Rattle.ot_log_page.proofs.derive.prove_hyp.Goals as goal

pub returns : goal.returns
returns c =
    let left = c.deref-3.ensures.value ∙ c.in_ok-left.ensures
    ∙ ap (filter (λ u. not (nat_eq u c.args.lemma.now.concl))) c.deref.ensures.value in
    let hyps = c.in_ok-hyps.ensures ∙ (λ i. joined (c.deref-2.ensures.value i) (left i)) in
    record {
      made = proved c.args.nodes.now c.primitives.ensures.once c.args.lemma.now c.args.other.now _ c.requires.lemma
          c.requires.other hyps refl;
    }
