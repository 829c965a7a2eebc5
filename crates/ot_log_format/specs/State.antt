-- What the records of a log made so far.
use Rattle.std.specs.Prelude.{List, [], ◌∷◌, ◌++◌, if◌then◌else◌, Result, Ok, nat_le}
use Rattle.std.specs.List.{list_all, list_any}
use Rattle.ot_logic.specs.Trees.{Alphabet, Ty, Tm, Sequent, Definition}
use Rattle.ot_logic.specs.Hol.{depth_ty, depth_tm, same_sequent, theorems}
use Rattle.ot_logic.specs.Answers.{◌>>=◌, unless}
use Rattle.ot_log_format.specs.Tokens.{LogFault, LogNesting}
use Rattle.ot_log_format.specs.Steps.{log_depth, is_sequent_within}

-- types, terms and sequents by number, in the order of the records that made them; assumptions, definitions and
-- results
pub record LogState (N : Type 0) : Type 0 where
  pub types : List (Ty N)
  pub terms : List (Tm N)
  pub sequents : List (Sequent N)
  pub assumptions : List (Sequent N)
  pub definitions : List (Definition N)
  pub results : List (Sequent N)

-- nothing is made yet
abbrev pub nothing_made : {N : Type 0} → LogState N
nothing_made = record { types = []; terms = []; sequents = []; assumptions = []; definitions = []; results = [] }

module _ {N : Type 0} (alphabet : Alphabet N) where
  -- what a record makes of what is there
  abbrev pub Change : Type 0
  Change = LogState N → Result (LogState N) LogFault

  -- the list, and q at the end where it isn't there yet
  abbrev pub kept_once : List (Sequent N) → Sequent N → List (Sequent N)
  kept_once qs q = if list_any (λ r. same_sequent alphabet r q) qs then qs else qs ++ q ∷ []

  -- a type, within the limit
  abbrev pub makes_type : Ty N → Change
  makes_type t st = do
    _ ← unless LogNesting (nat_le (depth_ty alphabet t) log_depth)
    Ok (record st { types = st.types ++ t ∷ [] })

  -- a term, within the limit
  abbrev pub makes_term : Tm N → Change
  makes_term t st = do
    _ ← unless LogNesting (nat_le (depth_tm alphabet t) log_depth)
    Ok (record st { terms = st.terms ++ t ∷ [] })

  -- the sequent of a case that holds, within the limit
  abbrev pub makes_sequent : Result (Sequent N) LogFault → Change
  makes_sequent step st = do
    q ← step
    _ ← unless LogNesting (is_sequent_within alphabet q)
    Ok (record st { sequents = st.sequents ++ q ∷ [] })

  -- such a sequent, which is an assumption
  abbrev pub makes_assumption : Result (Sequent N) LogFault → Change
  makes_assumption step st = do
    q ← step
    _ ← unless LogNesting (is_sequent_within alphabet q)
    Ok (record st { sequents = st.sequents ++ q ∷ []; assumptions = kept_once st.assumptions q })

  -- a definition after those that are there, and its theorems, within the limit
  abbrev pub makes_definition : (List (Definition N) → Result (Definition N) LogFault) → Change
  makes_definition step st = do
    d ← step st.definitions
    _ ← unless LogNesting (list_all (is_sequent_within alphabet) (theorems alphabet d))
    Ok (record st { sequents = st.sequents ++ theorems alphabet d; definitions = st.definitions ++ d ∷ [] })

  -- a result
  abbrev pub makes_result : Sequent N → Change
  makes_result q st = Ok (record st { results = kept_once st.results q })
