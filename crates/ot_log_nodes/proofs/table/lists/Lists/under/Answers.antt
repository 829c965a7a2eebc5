use Rattle.std.proofs.Common.{◌∷◌, subst}
use Rattle.std.proofs.lemmas.Result.{IfOk-weaker}
use Rattle.ot_log_nodes.specs.Lists.{IsList}
use Rattle.ot_log_nodes.proofs.ListLemmas.{list-stays, still-list}
use Rattle.ot_log_nodes.proofs.table.lists.Lists.under.Goals as goal

pub link-requires-clause-rest : goal.link-requires-clause-rest
link-requires-clause-rest c =
    still-list c.args.self.now c.place.new.self c.in_ok-all.ensures.extends c.args.binders c.requires

pub link-requires-clause-places : goal.link-requires-clause-places
link-requires-clause-places c = c.in_ok-all.ensures.ok.has

pub returns-clause-ok : goal.returns-clause-ok
returns-clause-ok c =
    let rest = list-stays c.args.self.now c.place.new.self c.in_ok-all.ensures.extends c.args.binders c.requires in
    IfOk-weaker c.link.result _ _ (λ r h. subst (λ l. IsList c.link.new.self r ((0, c.args.ty) ∷ l)) rest h)
    c.link.ensures.ok
