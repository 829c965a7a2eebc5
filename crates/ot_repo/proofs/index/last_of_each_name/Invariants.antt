use Rattle.std.proofs.Common.{◌≡◌, ℕ, List, take}
use Rattle.ot_repo.specs.Required.{picked_by_name}
use Rattle.ot_repo.specs.Reading.{texts_of, value_in}
use Rattle.ot_repo.proofs.index.last_of_each_name.Given as goal

abbrev pub invariant-each : goal.invariant-each
invariant-each l = (value : List ℕ) → value_in l.picks value ≡ picked_by_name (texts_of (take l.full-index l.names))
    value
