use Rattle.std.proofs.Common.{◌∷◌, subst}
use Rattle.ot_log_nodes.specs.Items.{type_at}
use Rattle.ot_log_nodes.specs.Typing.{IsTyping}
use Rattle.ot_log_nodes.proofs.ItemLemmas.{has-type}
use Rattle.ot_log_nodes.proofs.TypingLemmas.{typing-abstraction}
use Rattle.ot_log_nodes.proofs.table.Nodes.abstracted.Goals as goal

pub fun-requires-clause-to : goal.fun-requires-clause-to
fun-requires-clause-to c = c.requires.body c.in-Some.body c.in-Some.is

pub typed-requires : goal.typed-requires
typed-requires c = has-type c.fun.new.self c.in_ok-fun-in-Some.fun _ c.in_ok-fun-in-Some.ensures.ok

pub returns-in_ok-fun-in-Some-clause-ok : goal.returns-in_ok-fun-in-Some-clause-ok
returns-in_ok-fun-in-Some-clause-ok c = λ l b h.
    typing-abstraction c.args.self.now c.fun.new.self l c.args.ty b c.in-Some.body c.in_ok-fun-in-Some.fun
    c.typed.result c.in_ok-fun-in-Some.ensures.extends
    (subst (IsTyping c.args.self.now (type_at c.args.self.now c.args.ty ∷ l) b) c.in-Some.is h)
    c.in_ok-fun-in-Some.ensures.ok c.typed.ensures
