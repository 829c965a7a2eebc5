-- When a device's failure may be answered.
use Rattle.std.specs.Prelude.{◌≤◌, ◌+◌, ◌-◌, ◌^◌, ℕ, min, Result, OnErr}

-- one more, as far as a u64 counts
abbrev pub next_count : ℕ → ℕ
next_count count = min (count + 1) (2 ^ 64 - 1)

-- the count rose, or stands at the last value of a u64
abbrev pub CountRose : ℕ → ℕ → Type 0
CountRose before now = next_count before ≤ now

-- the count of failures never falls, and an error comes only where it rose
pub record HasCause {T E : Type 0} (before now : ℕ) (result : Result T E) : Type 0 where
  pub later : before ≤ now
  pub failed : OnErr result (CountRose before now)
