-- What is answered of a file that is read up to a limit.
use Rattle.std.specs.Prelude.{◌≡◌, ◌<◌, ◌≤◌, ℕ, List, length, Option, Some, None, Result, Ok, Err, Vec}
use Rattle.std.specs.Global.{Global}
use Rattle.ot_io.specs.Causes.{CountRose}
use Rattle.ot_io.specs.declared.whole.FileFault.{FileFault}
use Rattle.ot_io.specs.declared.whole.FileFault.TheVariants.{Missing, TooLarge, Failed, Memory}

-- the answer is that of a file, or of none: its bytes, at most so many. After a failure, and where memory ran out, any
abbrev pub IsReadOf : Result (Vec ℕ Global) FileFault → (max : ℕ) → Option (List ℕ) → Type 0
IsReadOf (Ok bytes) max file = (file ≡ Some bytes.items) × (length bytes.items ≤ max)
IsReadOf (Err Missing) max file = file ≡ None
IsReadOf (Err TooLarge) max file = (bytes : List ℕ) × (file ≡ Some bytes) × (max < length bytes)
IsReadOf (Err Failed) max file = Unit {0}
IsReadOf (Err (Memory memory)) max file = Unit {0}

-- a missing file is counted, and so is a failure
abbrev pub HasFileCause : Result (Vec ℕ Global) FileFault → (faults faults' misses misses' : ℕ) → Type 0
HasFileCause (Ok bytes) faults faults' misses misses' = Unit {0}
HasFileCause (Err Missing) faults faults' misses misses' = CountRose misses misses'
HasFileCause (Err TooLarge) faults faults' misses misses' = Unit {0}
HasFileCause (Err Failed) faults faults' misses misses' = CountRose faults faults'
HasFileCause (Err (Memory memory)) faults faults' misses misses' = Unit {0}
