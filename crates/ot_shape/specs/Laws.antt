-- What the definitions of alpha classes imply.
use Rattle.std.specs.Prelude.{◌≡◌, ◌↔◌}
use Rattle.ot_logic.specs.Lists.{IsMember, AreDistinct}
use Rattle.ot_logic.specs.Trees.{Alphabet, Variable, Named}
use Rattle.ot_logic.specs.NamedTerms.{IsAlphaEqual, IsFreeIn}
use Rattle.ot_shape.specs.Shape.{class_of}

module _ {N : Type 0} (alphabet : Alphabet N) where
  -- two terms differ at most in the names of their binders exactly where their classes are one
  abbrev pub ClassesAreAlpha : Type 0
  ClassesAreAlpha = (t u : Named N) → IsAlphaEqual alphabet t u ↔ (class_of alphabet t ≡ class_of alphabet u)

  -- the list of a class holds the free variables of the term
  abbrev pub FreesAreFree : Type 0
  FreesAreFree = (v : Variable N) (t : Named N) → IsMember v (class_of alphabet t).frees ↔ IsFreeIn alphabet v t

  -- each once
  abbrev pub FreesAreDistinct : Type 0
  FreesAreDistinct = (t : Named N) → AreDistinct (class_of alphabet t).frees
