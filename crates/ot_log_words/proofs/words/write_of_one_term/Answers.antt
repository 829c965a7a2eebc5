use Rattle.ot_log_nodes.specs.Items.{term_at}
use Rattle.ot_log_words.proofs.Recorded.{one-term}
use Rattle.ot_log_words.proofs.words.write_of_one_term.Goals as goal

pub returns-in_default-clause-accepts : goal.returns-in_default-clause-accepts
returns-in_default-clause-accepts c = λ w h.
    one-term c.args.word (term_at c.args.nodes.now c.args.t) h.0
    c.in_default.not-Refl c.in_default.not-Assume c.in_default.not-BetaConv h.1
