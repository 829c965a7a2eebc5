-- What a sink holds after a write or a flush.
use Rattle.std.specs.Prelude.{◌≡◌, ◌≤◌, ℕ, List, length, take, Option, Some, None}
use Rattle.std.specs.Io.KnownBytes.{Appends}

-- known bytes grow by some front of bs
abbrev pub AppendsFront : Option (List ℕ) → Option (List ℕ) → List ℕ → Type 0
AppendsFront old new bs = (n : ℕ) × (n ≤ length bs) × Appends old new (take n bs)

-- a count that was known stays known, and is the number of all the bytes written, where both are known
abbrev pub FlushesAll : Option ℕ → Option (List ℕ) → Option ℕ → Type 0
FlushesAll (Some count) written None = ⊥
FlushesAll old (Some bytes) (Some count) = count ≡ length bytes
FlushesAll old written count = Unit {0}
