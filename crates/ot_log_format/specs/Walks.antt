-- Nameless terms that share parts: what is remembered of a part.
use Rattle.std.specs.Prelude.{ℕ, suc, max, ◌-◌, Bool, true, false, ◌||◌}
use Rattle.ot_logic.specs.Trees.{Tm, Free, Con, Bound, App, Abs}

module _ {N : Type 0} where
  -- how many abstractions have to stand around a term: one more than the outermost place that leads out of it
  abbrev pub loose : Tm N → ℕ
  loose (Free v) = 0
  loose (Con n t) = 0
  loose (Bound j) = suc j
  loose (App f x) = max (loose f) (loose x)
  loose (Abs t b) = loose b - 1

  -- whether a variable is free in the term
  abbrev pub has_free : Tm N → Bool
  has_free (Free v) = true
  has_free (Con n t) = false
  has_free (Bound j) = false
  has_free (App f x) = has_free f || has_free x
  has_free (Abs t b) = has_free b
