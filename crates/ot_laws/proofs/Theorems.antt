-- Theorems, as assumptions and definitions grow.
use Rattle.std.specs.Prelude.{slice_get}
use Rattle.std.proofs.Common.{◌≡◌, ℕ, List, [], ◌∷◌, ◌++◌, length, Some, sym, subst}
use Rattle.ot_logic.specs.Lists.{AreDistinct}
use Rattle.ot_logic.specs.Table.{Extends}
use Rattle.ot_logic.specs.Trees.{Alphabet, Sequent, Definition}
use Rattle.ot_logic.specs.Hol.{IsSequent, theorems, IsFine, Assumption, Defined}
use Rattle.ot_logic.proofs.InternedLemmas.{slice_get-last}
use Rattle.ot_laws.specs.Theorem.{IsTheorem}
use Rattle.ot_laws.proofs.Tests.{Tells}
use Rattle.ot_laws.proofs.Grown.{grown-derivable}
use Rattle.ot_laws.proofs.Definitions.{HasPremise, definition-sequents, no_hyps-theorems}

module _ {N : Type 0} (alphabet : Alphabet N) where
  pub grown-theorem : {al bl : List (Sequent N)} {dl el : List (Definition N)} → Extends al bl → Extends dl el
      → (q : Sequent N) → IsTheorem alphabet al dl q → IsTheorem alphabet bl el q
  grown-theorem a d q t =
      record { derivable = grown-derivable alphabet a d t.derivable; sequent = t.sequent; distinct = t.distinct }

  -- an assumption
  pub assumption-theorem : (al : List (Sequent N)) (dl : List (Definition N)) (i : ℕ) (q : Sequent N)
      → slice_get al i ≡ Some q → IsSequent alphabet q → AreDistinct q.hyps → IsTheorem alphabet al dl q
  assumption-theorem al dl i q e s d = record { derivable = Assumption i e; sequent = s; distinct = d }

-- a theorem of a definition that is added
pub defined-theorem : {N : Type 0} (alphabet : Alphabet N) (tells : Tells alphabet) (al : List (Sequent N))
    (dl : List (Definition N)) (d : Definition N) → IsFine alphabet al dl d → HasPremise alphabet d
    → (j : ℕ) (q : Sequent N) → slice_get (theorems alphabet d) j ≡ Some q → IsTheorem alphabet al (dl ++ d ∷ []) q
defined-theorem alphabet tells al dl d f h j q e = record {
  derivable = Defined (length dl) j (slice_get-last dl d) e;
  sequent = definition-sequents alphabet tells al dl d f h j q e;
  distinct = subst AreDistinct (sym (no_hyps-theorems alphabet d j q e)) tt;
}
