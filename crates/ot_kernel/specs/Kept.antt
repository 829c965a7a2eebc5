-- The hypotheses of a theorem as a kernel keeps them.
use Rattle.std.specs.Prelude.{ℕ, List, [], ◌∷◌}
use Rattle.ot_kernel.specs.declared.theorem.Kept.{Kept}
use Rattle.ot_kernel.specs.declared.theorem.Kept.TheVariants.{None, One, Many}

-- their numbers, in their order
abbrev pub kept_terms : Kept → List ℕ
kept_terms None = []
kept_terms (One t) = t ∷ []
kept_terms (Many ts) = ts.value.items
