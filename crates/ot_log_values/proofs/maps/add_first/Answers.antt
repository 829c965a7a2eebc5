use Rattle.std.proofs.Common.{sym, ◌∙◌}
use Rattle.indexmap.proofs.CallerLemmas.{insert_entry-new}
use Rattle.ot_log_values.proofs.Mapping.{both-pushed}
use Rattle.ot_log_values.proofs.maps.add_first.Goals as goal
use Rattle.ot_logic.proofs.Results.{none_from}

pub returns-clause-seen : goal.returns-clause-seen
returns-clause-seen g c =
    let none = none_from _ (sym c.contains_key.ensures ∙ c.if-contains_key.false) in
    let inserted = c.in_ok-insert.ensures.entries
    ∙ insert_entry-new g.K.PartialEq.eq c.args.seen.now c.args.pair.0 c.args.pair.1 none in
    both-pushed c.args.seen.now.entries c.insert.new.self.entries
    c.args.found.now.items c.push.new.self.items c.args.pair inserted
    c.requires c.in_ok-push.ensures.items
