use Rattle.ot_log_page.proofs.Showing.{shows-count}
use Rattle.ot_log_page.proofs.sheet.Sheet.count_sequent.Goals as goal

pub returns : goal.returns
returns c = record { moves = λ ts max x s. shows-count ts max _ _ x c.in_ok-self.ensures.ok s }
