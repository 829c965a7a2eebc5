use mathlib.Core.List.{reverse}
use Rattle.std.proofs.Common.{◌≡◌, ℕ, List, [], fold, nat_eq, rules, ap, ◌∙◌}
use Rattle.indexmap.specs.IndexSet.{insert_key}
use Rattle.ot_log_rules.proofs.ByHash.{once-by-set}
use Rattle.ot_log_rules.proofs.statement.once_each.Goals as goal

pub returns : goal.returns
returns c =
    let turned : c.in_ok-last_first.last_first.items ≡ reverse c.args.g.now = search rules in
    let back : c.in_ok-collect.field-0.items ≡ reverse c.in_ok-known.known.keys = search rules in
    let set : List ℕ → List ℕ = λ l. fold (insert_key nat_eq) [] l in
    back ∙ ap reverse (c.in_ok-known.ensures ∙ ap set (c.as_slice.ensures.value ∙ turned)) ∙ once-by-set c.args.g.now
