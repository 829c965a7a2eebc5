use Rattle.std.proofs.Common.{◌≡◌, ◌++◌, take, map}
use Rattle.std.specs.List.{flat_map}
use Rattle.ot_logic.specs.Names.{further_text}
use Rattle.ot_logic.proofs.name.push_further.Given as goal

abbrev pub invariant-loop-component : goal.invariant-loop-component
invariant-loop-component l =
    l.out.items ≡ l.fn.out.items ++ flat_map further_text (map (λ c. c.items) (take l.component-index l.components))
