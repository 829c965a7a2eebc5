use Rattle.std.proofs.lemmas.List.Elements.{All-nil}
use Rattle.std.proofs.Common.{subst, sym}
use Rattle.std.specs.List.{All}
use Rattle.ot_log_nodes.specs.Items.{HasTerm}
use Rattle.ot_log_rules.proofs.rules.without_hyps.Goals as goal

pub returns-clause-has : goal.returns-clause-has
returns-clause-has c =
    record {
      hyps = subst (All (HasTerm c.args.nodes.now)) (sym c.new.ensures.items)
          (All-nil (HasTerm c.args.nodes.now));
      concl = c.requires;
    }
