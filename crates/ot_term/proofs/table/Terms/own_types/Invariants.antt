use Rattle.std.proofs.Common.{take}
use Rattle.ot_term.specs.Gather.{AreOwnTypes}
use Rattle.ot_term.proofs.table.Terms.own_types.Given as goal

abbrev pub invariant-loop-id : goal.invariant-loop-id
invariant-loop-id l = AreOwnTypes l.self (take l.id-index l.ids) l.types.keys
