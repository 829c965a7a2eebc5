use Rattle.ot_rows.proofs.nodes.typed.Goals as goal

-- nothing is known
pub typing-requires-clause-known : goal.typing-requires-clause-known
typing-requires-clause-known g c = c.new-typings.ensures c.args.nodes.now
