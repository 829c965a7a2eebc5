use Rattle.std.proofs.Common.{rules, ◌≡◌, length}
use Rattle.ot_write.proofs.Keys.{stored-first, stored-again, none-from, some-from}
use Rattle.ot_write.proofs.writer.Writer.store.Goals as goal

pub returns-then-is_none-clause-keys : goal.returns-then-is_none-clause-keys
returns-then-is_none-clause-keys c =
    let long : c.len-key.result ≡ length c.args.self.now.stored.items = search rules in
    stored-first c.args.trace.now c.requires.trace _ _ c.args.id c.requires.inside c.requires.keys _
    c.index-at.ensures _ c.index.ensures _ c.in_ok-push.ensures.items _ long
    (none-from _ _ c.is_none.ensures c.if-is_none.true)

pub returns-else-is_none-clause-keys : goal.returns-else-is_none-clause-keys
returns-else-is_none-clause-keys c =
    let k = some-from _ _ c.is_none.ensures c.if-is_none.false in
    stored-again c.args.trace.now c.requires.trace _ _ c.args.id c.requires.inside c.requires.keys _
    c.index-at.ensures _ c.index.ensures _ c.in_ok-push.ensures.items k.0 k.1
