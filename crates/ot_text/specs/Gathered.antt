-- Texts gathered in the order of their bytes.
use Rattle.std.specs.Prelude.{ℕ, ◌+◌, List, [], ◌∷◌, map, length}
use Rattle.std.specs.BTreeSet.{BTreeSet}
use Rattle.std.specs.Global.{Vec}

-- the texts of a set
abbrev pub texts_of : BTreeSet (Vec ℕ) → List (List ℕ)
texts_of s = map (λ t. t.items) s.keys

-- how many bytes they have together
abbrev pub bytes_in : List (List ℕ) → ℕ
bytes_in [] = 0
bytes_in (x ∷ xs) = length x + bytes_in xs
