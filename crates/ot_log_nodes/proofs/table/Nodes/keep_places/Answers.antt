use Rattle.ot_log_nodes.proofs.PlaceLemmas.{terms-insert}
use Rattle.ot_log_nodes.proofs.table.Nodes.keep_places.Goals as goal

pub returns : goal.returns
returns c = record {
  unions = c.requires.known.unions;
  terms = terms-insert c.args.self.now c.args.lists.now c.args.tables.now.terms.entries c.insert.new.self.entries
      c.args.id (record { list = c.args.list; met = c.args.met }) c.requires.known.terms c.requires.id
      c.requires.places c.in_ok-insert.ensures.updates.0;
}
