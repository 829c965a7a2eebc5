use Rattle.ot_log_nodes.proofs.PlaceLemmas.{place_tables-nothing}
use Rattle.ot_log_nodes.proofs.table.places.PlaceTables.new.Goals as goal

pub returns : goal.returns
returns c = λ ts ls. place_tables-nothing ts ls (record { unions = c.new.result; terms = c.new-2.result })
    c.new.ensures.empty c.new-2.ensures.empty
