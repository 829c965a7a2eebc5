use Rattle.ot_log_nodes.proofs.TypingLemmas.{typings-nothing}
use Rattle.ot_log_nodes.proofs.table.typing.Typings.new.Goals as goal

pub returns : goal.returns
returns c = λ ts. typings-nothing ts (record { lists = c.new.result; places = c.new-2.result; types = c.new-3.result })
    c.new-3.ensures.empty (c.new-2.ensures ts c.new.result)
