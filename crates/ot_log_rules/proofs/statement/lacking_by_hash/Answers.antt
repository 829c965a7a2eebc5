use Rattle.std.specs.Prelude.{filter, not}
use Rattle.std.specs.List.{list_any}
use Rattle.std.proofs.Common.{◌≡◌, ℕ, ◌+◌, ◌++◌, ◌∷◌, [], Bool, true, false, cond, take, nat_eq, arith, sym, ap, ◌∙◌}
use Rattle.std.proofs.lemmas.List.{take_all, append-nil}
use Rattle.ot_log_rules.proofs.ByHash.{lacking-next}
use Rattle.ot_log_rules.proofs.statement.lacking_by_hash.Goals.{In_ok-known, then-not-contains+in_ok-push, else-not-contains}
use Rattle.ot_log_rules.proofs.statement.lacking_by_hash.Goals as goal

pub loop-t-preserved : goal.loop-t-preserved
loop-t-preserved c =
    let h = c.args.h.now in
    let p : ℕ → Bool = λ u. not (list_any (λ v. nat_eq v u) c.args.g.now) in
    let next : (b : Bool) → b ≡ list_any (nat_eq c.t-item.result) c.in_ok-known.known.keys
    → filter p (take (c.loop-t.t-index + 1) h)
    ≡ filter p (take c.loop-t.t-index h) ++ cond (not b) (c.t-item.result ∷ []) [] =
    λ b is. lacking-next c.args.g.now h c.loop-t.t-index c.t-item.result b (omega arith)
    c.t-item.is (is ∙ ap (list_any (nat_eq c.t-item.result)) c.in_ok-known.ensures) in
    elim c.if-not-contains.branch [
      | then-not-contains+in_ok-push w ↦
          rw (w.more-is, w.in_ok-push.ensures.items, c.loop-t.invariant) (sym (next false w.if-not-contains.ensures))
      | else-not-contains w ↦
          rw (w.more-is, c.loop-t.invariant)
          (sym (append-nil _) ∙ sym (next true w.if-not-contains.ensures))
    ]

pub returns : goal.returns
returns c =
    c.loop-t.invariant
    ∙ ap (filter (λ t. not (list_any (λ u. nat_eq u t) c.args.g.now))) (take_all c.loop-t.t-index c.args.h.now (omega arith))
