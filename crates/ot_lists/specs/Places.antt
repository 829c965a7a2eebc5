-- Places of numbers.
use Rattle.std.specs.Prelude.{ℕ, suc, List, [], ◌∷◌, Option, None, Some, nat_eq, if◌then◌else◌}
use Rattle.std.specs.Option.{option_map}

-- the first place of a number
abbrev pub place_in : List ℕ → ℕ → Option ℕ
place_in [] x = None
place_in (y ∷ ys) x = if nat_eq x y then Some 0 else option_map suc (place_in ys x)
