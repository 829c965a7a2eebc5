use Rattle.std.proofs.Common.{[], arith}
use Rattle.ot_log_nodes.specs.Items.{term_at}
use Rattle.ot_log_nodes.proofs.TypingLemmas.{typing-open, binders-none}
use Rattle.ot_log_nodes.proofs.table.Nodes.typing.Goals as goal

pub returns-then-loose-gt0-clause-ok : goal.returns-then-loose-gt0-clause-ok
returns-then-loose-gt0-clause-ok c = typing-open [] (term_at c.args.self.now c.args.id)
    (omega (arith, c.loose.ensures, c.if-loose-gt0.true))

pub typing_under-requires-clause-binders : goal.typing_under-requires-clause-binders
typing_under-requires-clause-binders c = binders-none c.args.self.now c.args.typings.now.known.entries.lists
