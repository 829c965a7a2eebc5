use Rattle.std.proofs.Common.{◌≡◌, take}
use Rattle.ot_uses.specs.Ready.{theorem_steps}
use Rattle.ot_uses.proofs.finding.leads_of.Given as goal

abbrev pub invariant-loop-export : goal.invariant-loop-export
invariant-loop-export l = l.roots.items ≡ theorem_steps (take l.export-index l.exports)
