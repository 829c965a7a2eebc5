-- Lengths that are added up from the front.
use Rattle.std.proofs.Common.{◌≡◌, ◌+◌, ℕ, refl, ap, Some, None, add_assoc, zero-add}
use Rattle.std.specs.Prelude.{Option}
use Rattle.ot_theory.specs.Interpretations.{longer}

pub longer_none : (m : Option ℕ) → longer 0 m ≡ m
longer_none None = refl
longer_none (Some k) = ap Some (zero-add k)

pub longer_more : (n k : ℕ) (m : Option ℕ) → longer (n + k) m ≡ longer n (longer k m)
longer_more n k None = refl
longer_more n k (Some m) = ap Some (add_assoc n k m)

pub ruleset longer_steps = (longer_none, longer_more)
