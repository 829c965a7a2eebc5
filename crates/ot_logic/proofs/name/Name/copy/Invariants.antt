use Rattle.std.proofs.Common.{◌≡◌, map, take}
use Rattle.ot_logic.proofs.name.Name.copy.Given as goal

abbrev pub invariant-loop-component : goal.invariant-loop-component
invariant-loop-component l = map (λ d. d.items) l.components.items ≡ take l.component-index (map (λ d. d.items) l.component-items)
