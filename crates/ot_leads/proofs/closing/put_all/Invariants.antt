use Rattle.std.proofs.Common.{take}
use Rattle.ot_leads.specs.Closing.{ArePut}
use Rattle.ot_leads.proofs.closing.put_all.Given as goal

abbrev pub invariant-loop-number : goal.invariant-loop-number
invariant-loop-number l = ArePut l.initial.set.keys (take l.number-index l.numbers) l.set.keys
