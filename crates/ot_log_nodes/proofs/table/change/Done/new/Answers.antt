use Rattle.ot_log_nodes.proofs.MapLemmas.{done-nothing}
use Rattle.ot_log_nodes.proofs.table.change.Done.new.Goals as goal

pub returns : goal.returns
returns c = λ ts w. done-nothing ts w (record { types = c.new.result; terms = c.new-2.result }) c.new.ensures.empty
    c.new-2.ensures.empty
