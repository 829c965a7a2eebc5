use Rattle.std.proofs.Common.{◌≡◌, take}
use Rattle.ot_type.proofs.VarLemmas.{names_of}
use Rattle.ot_type.proofs.table.Types.vars.Given as goal

abbrev pub invariant-loop-part : goal.invariant-loop-part
invariant-loop-part l = l.names.items ≡ names_of l.self (take l.part-index l.part-items)
