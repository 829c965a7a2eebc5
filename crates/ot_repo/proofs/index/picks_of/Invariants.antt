use Rattle.std.proofs.Common.{◌≡◌, ℕ, List, take}
use Rattle.ot_repo.specs.Reading.{texts_of, value_in}
use Rattle.ot_repo.proofs.Picking.{picked_so_far}
use Rattle.ot_repo.proofs.index.picks_of.Given as goal

abbrev pub invariant-each : goal.invariant-each
invariant-each l = (value : List ℕ) → value_in l.picks value ≡ picked_so_far (texts_of l.names)
    (texts_of (take l.full-index l.names)) value
