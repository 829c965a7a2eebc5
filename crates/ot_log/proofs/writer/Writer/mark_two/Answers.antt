use Rattle.ot_log_words.proofs.Defining.{on-ok}
use Rattle.ot_log.proofs.writer.Writer.mark_two.Goals as goal

pub returns-clause-moves : goal.returns-clause-moves
returns-clause-moves c =
    on-ok c.mark_outcome-2.result (λ m. λ max x h. m max _ (c.in_ok-mark_outcome.ensures.moves max x h))
    c.mark_outcome-2.ensures.moves
