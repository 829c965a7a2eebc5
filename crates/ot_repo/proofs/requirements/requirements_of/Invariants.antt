use Rattle.std.proofs.Common.{take}
use Rattle.ot_repo.specs.Reading.{listed_in}
use Rattle.ot_repo.proofs.Tags.{TagsSoFar}
use Rattle.ot_repo.proofs.requirements.requirements_of.Given as goal

abbrev pub invariant-each : goal.invariant-each
invariant-each l = TagsSoFar (listed_in l.index) (take l.tag-index l.tags) l.found.items
