use Rattle.std.proofs.Common.{nat_eq, ◌∙◌}
use Rattle.indexmap.proofs.CallerLemmas.{insert_entry-new}
use Rattle.ot_interp.proofs.pairs.add.Goals as goal
use Rattle.ot_logic.proofs.Results.{none_from}

pub returns-clause-ok : goal.returns-clause-ok
returns-clause-ok c = c.in_ok-insert.ensures.entries ∙ insert_entry-new nat_eq c.args.pairs.now c.args.from c.args.to
    (none_from _ c.requires)
