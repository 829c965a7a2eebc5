use Rattle.std.proofs.Common.{sym, subst}
use Rattle.ot_log_nodes.specs.Typing.{AreTypings}
use Rattle.ot_log_nodes.specs.declared.table.typing.Typings.{Typings}
use Rattle.ot_log_rules.proofs.typing.typing_of.Goals as goal

-- nothing is known
pub returns-in_err-typing-clause-known : goal.returns-in_err-typing-clause-known
returns-in_err-typing-clause-known c =
    let now = c.typing.new.self in
    subst (λ (t : Typings). AreTypings now t.known.entries) (sym c.replace-known.ensures.after) (c.new-none.ensures now)
