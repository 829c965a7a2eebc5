use Rattle.std.specs.Prelude.{◌-◌, ◌^◌}
use Rattle.ot_logic.specs.Naming.{IsNameTable}
use Rattle.ot_logic.specs.Table.{Extends}
use Rattle.ot_logic.proofs.names.Names.add_new.Given as goal

abbrev pub invariant-numbers : goal.invariant-numbers
invariant-numbers l = Extends l.fn.self l.self × IsNameTable l.self

abbrev pub decreases-numbers : goal.decreases-numbers
decreases-numbers l = 2 ^ 64 - l.number
