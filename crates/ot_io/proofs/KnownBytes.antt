-- Lemmas on known bytes.
use Rattle.std.proofs.Common.{◌+◌, ℕ, List, take, drop, Option}
use Rattle.std.proofs.Math.Seq.{take-add}
use Rattle.std.proofs.KnownBytes.{Appends-trans}
use Rattle.std.specs.Io.KnownBytes.{Appends}

-- a front of d bytes, and then a front of the rest, are a longer front
pub Appends-take_more : (old mid new : Option (List ℕ)) (bs : List ℕ) (d n : ℕ) → Appends old mid (take d bs)
    → Appends mid new (take n (drop d bs)) → Appends old new (take (d + n) bs)
Appends-take_more old mid new bs d n p q = rw take-add (Appends-trans old mid new _ _ p q)
