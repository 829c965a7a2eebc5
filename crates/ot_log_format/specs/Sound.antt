-- What a log that is accepted proves.
use Rattle.std.specs.Prelude.{◌≡◌, ℕ, Some, slice_get}
use Rattle.ot_logic.specs.Trees.{Alphabet, Sequent}
use Rattle.ot_logic.specs.Hol.{Accepted}
use Rattle.ot_laws.specs.Theorem.{IsTheorem, AreSequents}
use Rattle.ot_log_format.specs.Tokens.{Tokens}
use Rattle.ot_log_format.specs.State.{LogState}
use Rattle.ot_log_format.specs.Check.{Ends, check_log}

module _ {N : Type 0} (alphabet : Alphabet N) where
  -- the definitions are accepted, the assumptions are of propositions alone, and each result is a theorem over both
  pub record IsProved (st : LogState N) : Type 0 where
    pub accepted : Accepted alphabet st.assumptions st.definitions
    pub assumptions : AreSequents alphabet st.assumptions
    pub results : (i : ℕ) (q : Sequent N) → slice_get st.results i ≡ Some q
        → IsTheorem alphabet st.assumptions st.definitions q

  -- where the check of a log ends, what it ends with is proved
  abbrev pub LogsAreSound : Type 0
  LogsAreSound = (tokens : Tokens N) (st : LogState N) → check_log alphabet tokens ≡ Ends st → IsProved st
