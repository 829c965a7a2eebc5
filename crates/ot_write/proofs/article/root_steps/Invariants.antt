use Rattle.std.proofs.Common.{◌≡◌, take}
use Rattle.std.specs.List.{flat_map}
use Rattle.ot_write.specs.Emitting.{root_steps}
use Rattle.ot_write.proofs.article.root_steps.Given as goal

abbrev pub invariant-loop-export : goal.invariant-loop-export
invariant-loop-export l = l.roots.items ≡ flat_map root_steps (take l.export-index l.exports)
