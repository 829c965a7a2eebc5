use Rattle.std.proofs.Common.{◌≡◌, length}
use Rattle.std.specs.Prelude.{is_some}
use Rattle.ot_logic.specs.Reading.{read_from, done_name, name_read}
use Rattle.ot_logic.proofs.name.Name.is_name.Given as goal

abbrev pub invariant-parts : goal.invariant-parts
invariant-parts l = is_some (done_name (read_from l.rest)) ≡ is_some (name_read l.text)

abbrev pub decreases-parts : goal.decreases-parts
decreases-parts l = length l.rest
