use Rattle.std.proofs.Common.{◌≡◌, rules, take, length, ap, ◌∙◌}
use Rattle.ot_laws.proofs.Hashed.{all-kept}
use Rattle.ot_log_rules.proofs.sets.add_all.Goals as goal

pub returns-in-Err-clause-err : goal.returns-in-Err-clause-err
returns-in-Err-clause-err g c =
    let kept = all-kept g.T.PartialEq.eq c.args.set.now.keys (take c.loop-item.item-index c.args.items.now) in
    let same : c.insert.new.self.keys ≡ c.loop-item.set.keys = search rules in
    let long : c.len-before.result ≡ length c.args.set.now.keys = c.len-before.ensures.len in
    c.truncate.ensures.keys ∙ ap (λ n. take n c.insert.new.self.keys) long
    ∙ ap (take (length c.args.set.now.keys)) (same ∙ c.loop-item.invariant) ∙ kept
