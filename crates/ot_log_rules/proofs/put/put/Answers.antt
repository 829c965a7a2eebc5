use Rattle.ot_log_nodes.specs.Changing.{changing}
use Rattle.ot_log_nodes.specs.declared.table.change.Change.TheVariants as change
use Rattle.ot_log_rules.proofs.PutIn.{put-is}
use Rattle.ot_log_rules.proofs.put.put.Goals as goal

pub returns-clause-ok : goal.returns-clause-ok
returns-clause-ok c = put-is c.args.nodes.now c.changed_statement.new.nodes c.args.types.entries c.args.terms.entries
    c.args.a.now c.changed_statement.result c.changed_statement.ensures.ok

pub changed_statement-requires-clause-done : goal.changed_statement-requires-clause-done
changed_statement-requires-clause-done c =
    c.new-done.ensures c.args.nodes.now (changing c.args.nodes.now (change.Put c.args.types c.args.terms))
