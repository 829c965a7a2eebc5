-- What stands at places. Only contracts of private functions speak of it.
use Rattle.std.specs.Prelude.{ℕ, List, take, drop}
use Rattle.std.specs.List.{flat_map}

-- what stands at these places of a list, one after another
abbrev pub picked : {X : Type 0} → List X → List ℕ → List X
picked xs = flat_map (λ i. take 1 (drop i xs))
