use Rattle.std.proofs.Common.{◌∙◌, map, ap, arith}
use Rattle.ot_machine.specs.Meaning.{lists_of, entry_of, article_of}
use Rattle.ot_machine.proofs.Stack.{dropped_view}
use Rattle.ot_machine.proofs.session.Session.drop_top.Goals as goal

pub returns-clause-changed : goal.returns-clause-changed
returns-clause-changed c =
    let cs = lists_of c.args.self.now c.args.machine.now in
    let stack = c.args.machine.now.stack in
    let same = ap (map (entry_of c.args.self.now cs)) c.truncate.ensures.items ∙ dropped_view c.args.self.now cs
    stack.items c.args.count c.len.result (omega (arith, c.len.ensures, stack.ok.0)) in
    λ i. record (article_of c.args.self.now c.args.machine.now) { stack = same i }
