-- Two sequences that share no number.
use Rattle.std.proofs.Common.{ℕ, ◌<◌, List, ◌⊎◌, inl, inr, arith}
use Rattle.ot_logic.specs.Lists.{IsMember}
use Rattle.ot_lists.specs.Sequences.{Describes}
use Rattle.ot_lists.specs.declared.sequence.Extent.{Extent}

-- numbers within bounds that are apart
pub bounds-apart : (l m : List ℕ) (d e : Extent) → Describes l d → Describes m e → (d.high < e.low) ⊎ (e.high < d.low)
    → (y : ℕ) → IsMember y l → IsMember y m → ⊥
bounds-apart l m d e h k (inl a) y i j = let p = h.high y i in let q = k.low y j in omega (arith, a, p, q)
bounds-apart l m d e h k (inr a) y i j = let p = h.low y i in let q = k.high y j in omega (arith, a, p, q)
