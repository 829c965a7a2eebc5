use Rattle.std.proofs.Common.{subst}
use Rattle.ot_log_nodes.specs.Typing.{IsTyping}
use Rattle.ot_log_nodes.proofs.TypingLemmas.{typing-none_right}
use Rattle.ot_log_nodes.proofs.table.Nodes.applied_to.Goals as goal

pub returns-in-Some : goal.returns-in-Some
returns-in-Some c =
    λ l t u left right. c.applied_at.ensures l t u left (subst (IsTyping c.args.self.now l u) c.in-Some.is right)

pub returns-in-None : goal.returns-in-None
returns-in-None c = λ l t u left right. typing-none_right c.args.self.now l t u
    (subst (IsTyping c.args.self.now l u) c.in-None.is right)
