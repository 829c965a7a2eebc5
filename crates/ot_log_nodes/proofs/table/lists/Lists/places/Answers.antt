use Rattle.std.proofs.Common.{◌-◌, sym, subst, arith}
use Rattle.ot_log_nodes.specs.Lists.{AreLinks}
use Rattle.ot_log_nodes.proofs.ListLemmas.{front-link, list-link}
use Rattle.ot_log_nodes.proofs.table.lists.Lists.places.Goals as goal

pub unreachable-requires : goal.unreachable-requires
unreachable-requires c =
    let sound = subst (AreLinks c.self.inside.links.entries) c.self.view_is c.self.invariant in
    let found = c.in-None.ensures.found.1
    (list-link c.self.inside.links.entries c.args.self.now sound c.args.list (c.list.inside.0 - 1)
    (omega (arith, c.list.view_is, c.if-number-eq0.false)) c.requires) in
    cc

pub returns : goal.returns
returns c =
    let sound = subst (AreLinks c.self.inside.links.entries) c.self.view_is c.self.invariant in
    (front-link c.self.inside.links.entries c.args.self.now sound c.args.list (c.list.inside.0 - 1) _ _
    (omega (arith, c.list.view_is, c.if-number-eq0.false)) (sym c.in-Some.ensures.entry)).1
