use Rattle.std.proofs.Common.{◌≡◌, ◌∷◌, suc, ◌-◌, length, ap, subst, arith}
use Rattle.std.proofs.lemmas.Result.{IfOk-weaker}
use Rattle.ot_log_nodes.specs.Lists.{list_at}
use Rattle.ot_log_nodes.specs.Places.{IsPast}
use Rattle.ot_log_nodes.proofs.PlaceLemmas.{past-first, past-none}
use Rattle.ot_log_nodes.proofs.table.lists.Lists.past.Goals as goal

pub returns-then-link-place-clause-ok : goal.returns-then-link-place-clause-ok
returns-then-link-place-clause-ok c =
    let ls = c.args.self.now in
    let link = c.args.link in
    subst (λ n. IsPast ls ((link.skipped, link.ty) ∷ list_at ls link.rest) (suc n) link.rest) c.if-link-place.true
    (past-first ls link.skipped link.ty link.rest c.requires.rest)

pub returns-clause-ok : goal.returns-clause-ok
returns-clause-ok c =
    let ls = c.args.self.now in
    let link = c.args.link in
    IfOk-weaker c.place.result _ _
    (λ r h. past-none ls c.args.place c.place.new.self (link.skipped - c.args.place - 1) link.skipped link.ty 0 r
    (list_at ls link.rest) (omega (arith, c.if-link-place.false, c.requires.place)) h) c.place.ensures.ok

pub returns-clause-shorter : goal.returns-clause-shorter
returns-clause-shorter c =
    IfOk-weaker c.place.result _ _
    (λ r h. let same : length (list_at c.place.new.self r) ≡ suc (length (list_at c.args.self.now c.args.link.rest)) =
    ap length h.is in omega arith) c.place.ensures.ok

pub returns-clause-short : goal.returns-clause-short
returns-clause-short c =
    IfOk-weaker c.place.result _ _ (λ r h same. omega (arith, c.if-link-place.false)) c.place.ensures.ok
