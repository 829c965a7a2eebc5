use Rattle.std.proofs.Common.{refl}
use Rattle.ot_log_nodes.specs.Changing.{type_map, AreInstances}
use Rattle.ot_log_nodes.proofs.MapLemmas.{still-change}
use Rattle.ot_log_nodes.proofs.ChangeLemmas.{done-retyped}
use Rattle.ot_log_nodes.proofs.table.Nodes.retype.Goals as goal
use Rattle.ot_logic.proofs.Results.{on_ok, on_ok-then}

pub returns-in-Put-clause-done : goal.returns-in-Put-clause-done
returns-in-Put-clause-done c =
    let us = c.inst.new.self in
    on_ok-then c.inst.result
    (λ (types : AreInstances us (type_map us c.in-Put.types.entries) c.inst.new.done.entries).
    done-retyped c.args.self.now us c.inst.ensures.extends c.args.change.now c.in-Put.types c.in-Put._terms
    c.args.done.now (record { types = c.inst.new.done; terms = c.args.done.now.terms }) c.in-Put.is
    c.requires.change c.requires.done refl types)
    c.inst.ensures.done

pub returns-in-Put-clause-change : goal.returns-in-Put-clause-change
returns-in-Put-clause-change c =
    on_ok c.inst.result
    (still-change c.args.self.now c.inst.new.self c.inst.ensures.extends c.args.change.now c.requires.change)
