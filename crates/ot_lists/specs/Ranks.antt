-- The ranks of numbers, by which sequences are cut. Numbers below 2^32 have different ranks, which are spread.
use Rattle.std.specs.Prelude.{◌≡◌, ℕ, ◌*◌, ◌%◌, ◌<◌, ◌⊎◌, List}
use Rattle.ot_logic.specs.Lists.{IsMember}

unfoldable pub rank : ℕ → ℕ
rank x = (x * 2654435769) % 4294967296

-- no other number of the sequence has as high a rank
abbrev pub IsTop : ℕ → List ℕ → Type 0
IsTop x l = (y : ℕ) → IsMember y l → (y ≡ x) ⊎ (rank y < rank x)
