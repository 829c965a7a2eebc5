use Rattle.std.proofs.Common.{sym, subst}
use Rattle.std.proofs.lemmas.Result.{IfOk-weaker}
use Rattle.ot_log_nodes.specs.Lists.{list_at}
use Rattle.ot_log_nodes.specs.Places.{IsPast}
use Rattle.ot_log_nodes.proofs.PlaceLemmas.{past-nothing}
use Rattle.ot_log_nodes.proofs.table.lists.Lists.outside.Goals as goal

pub past-requires-clause-rest : goal.past-requires-clause-rest
past-requires-clause-rest c = c.in-Some.ensures.0

pub returns-in-Some-clause-ok : goal.returns-in-Some-clause-ok
returns-in-Some-clause-ok c =
    IfOk-weaker c.past.result _ _ (λ r h. subst (λ l. IsPast c.past.new.self l 1 r) (sym c.in-Some.ensures.1) h)
    c.past.ensures.ok

pub returns-in-None-clause-ok : goal.returns-in-None-clause-ok
returns-in-None-clause-ok c =
    past-nothing c.args.self.now 1 (list_at c.args.self.now c.args.body) c.in-None.ensures
