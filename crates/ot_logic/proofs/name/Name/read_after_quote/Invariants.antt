use Rattle.std.proofs.Common.{◌≡◌, length, map}
use Rattle.ot_logic.specs.Reading.{behind, read_from}
use Rattle.ot_logic.proofs.name.Name.read_after_quote.Given as goal

abbrev pub invariant-parts : goal.invariant-parts
invariant-parts l = behind (map (λ c. c.items) l.components.items) l.component.items (read_from l.rest)
    ≡ read_from l.text

abbrev pub decreases-parts : goal.decreases-parts
decreases-parts l = length l.rest
