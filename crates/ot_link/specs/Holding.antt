-- What the code holds of the blocks that have run.
use Rattle.std.specs.Prelude.{◌==◌, ℕ, List, [], map, Option, Some, None, Vec}
use Rattle.std.specs.Global.{Global}
use Rattle.std.specs.HashMap.{HashMap, get_by}
use Rattle.ot_machine.specs.Meaning.{export_of}
use Rattle.ot_machine.specs.declared.session.Session.{Session}
use Rattle.ot_machine.specs.declared.machine.Export.{Export}
use Rattle.ot_machine.specs.declared.context.Given.{Given}
use Rattle.ot_link.specs.Link.{Done}

-- an export, given to the blocks that import it
abbrev pub given_to : Export → Given
given_to e = record { th = e.th; step = e.theorem }

abbrev pub items_of : Option (Vec Export Global) → List Export
items_of None = []
items_of (Some exports) = exports.items

-- the exports that are held for a block
abbrev pub held_at : {S : Type 0} → HashMap ℕ (Vec Export Global) S → ℕ → List Export
held_at done b = items_of (get_by (λ key. b == key) done)

-- those of a place, if there is one
abbrev pub held_of : {S : Type 0} → HashMap ℕ (Vec Export Global) S → Option ℕ → List Export
held_of done None = []
held_of done (Some b) = held_at done b

-- what they stand for
abbrev pub done_of : {S : Type 0} → Session → HashMap ℕ (Vec Export Global) S → Done
done_of s held b = map (export_of s) (held_at held b)
