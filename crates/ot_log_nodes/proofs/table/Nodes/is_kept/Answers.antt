use Rattle.std.proofs.Common.{◌∙◌, sym}
use Rattle.ot_log_nodes.proofs.MapLemmas.{close-stays, close-known, open-stays}
use Rattle.ot_log_nodes.proofs.table.Nodes.is_kept.Goals as goal

pub returns-then-has_free : goal.returns-then-has_free
returns-then-has_free c = close-known c.args.self.now c.args.change.now _ c.args.depth c.args.id c.args.done.now
    c.stays.result c.in-Close.is c.requires.done c.stays.ensures

pub returns-else-has_free : goal.returns-else-has_free
returns-else-has_free c = close-stays c.args.self.now c.args.change.now _ c.args.depth _ c.in-Close.is
    (sym c.has_free.ensures ∙ c.if-has_free.false)

pub returns-in-Open : goal.returns-in-Open
returns-in-Open c = open-stays c.args.self.now c.args.change.now _ c.args.depth c.loose.result _ c.in-Open.is
    c.loose.ensures
