-- The operands of a word as a step keeps them.
use Rattle.std.specs.Prelude.{ℕ, List, [], ◌∷◌}
use Rattle.ot_trace.specs.declared.operands.Kept.{Kept}
use Rattle.ot_trace.specs.declared.operands.Kept.TheVariants.{None, One, Two, Many}

-- their numbers, from the bottom of the stack up
abbrev pub kept_operands : Kept → List ℕ
kept_operands None = []
kept_operands (One a) = a ∷ []
kept_operands (Two pair) = pair
kept_operands (Many is) = is.value.items
