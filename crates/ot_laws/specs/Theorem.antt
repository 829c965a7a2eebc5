-- Sequents that are kept: assumptions and theorems.
use Rattle.std.specs.Prelude.{◌≡◌, ℕ, List, Some, slice_get}
use Rattle.ot_logic.specs.Lists.{AreDistinct}
use Rattle.ot_logic.specs.Trees.{Alphabet, Sequent, Definition}
use Rattle.ot_logic.specs.Hol.{Derivable, IsSequent}

module _ {N : Type 0} (alphabet : Alphabet N) where
  -- derivable over these assumptions and definitions, of propositions alone, and no hypothesis twice
  pub record IsTheorem (al : List (Sequent N)) (dl : List (Definition N)) (q : Sequent N) : Type 0 where
    pub derivable : Derivable alphabet al dl q.hyps q.concl
    pub sequent : IsSequent alphabet q
    pub distinct : AreDistinct q.hyps

  -- each of the list is of propositions alone
  abbrev pub AreSequents : List (Sequent N) → Type 0
  AreSequents qs = (i : ℕ) (q : Sequent N) → slice_get qs i ≡ Some q → IsSequent alphabet q
