-- The check of a log: over its tokens, to the end or to the first fault with its line.
use Rattle.std.specs.Prelude.{ℕ, List, codes, Bool, false, ◌==◌, Result, Ok, Err, slice_get}
use Rattle.std.specs.Str.{bytes_eq}
use Rattle.ot_logic.specs.Answers.{◌>>=◌, unless, some_or}
use Rattle.ot_logic.specs.Trees.{Alphabet}
use Rattle.ot_log_format.specs.Tokens.{LogFault, BadToken, BadHeader, UnknownRecord, BadReference, LogEnds}
use Rattle.ot_log_format.specs.Tokens.{Token, Number, Named, Word, Tokens, NoMore, Stopped, Then, record_of}
use Rattle.ot_log_format.specs.declared.word.RecordWord.{RecordWord}
use Rattle.ot_log_format.specs.State.{LogState, nothing_made}
use Rattle.ot_log_format.specs.Records.{Makes, AskName, AskCount, AskType, AskTerm, AskSequent, RecordForm, form}

-- a log ends with what its records made, or stops at a fault with its line
pub data Outcome (N : Type 0) : Type 0 where
  Ends : LogState N → Outcome N
  Stops : ℕ → LogFault → Outcome N

-- ---- what a token says, where it is of the kind that is wanted

abbrev pub as_number : {N : Type 0} → Token N → Result ℕ LogFault
as_number (Number n) = Ok n
as_number _ = Err BadToken

abbrev pub as_name : {N : Type 0} → Token N → Result N LogFault
as_name (Named n) = Ok n
as_name _ = Err BadToken

-- the word of a record
abbrev pub as_record : {N : Type 0} → Token N → Result RecordWord LogFault
as_record (Word text) = some_or UnknownRecord (record_of text)
as_record _ = Err BadToken

-- what an earlier record made
abbrev pub as_earlier : {N A : Type 0} → List A → Token N → Result A LogFault
as_earlier xs t = as_number t >>= λ i. some_or BadReference (slice_get xs i)

-- the two tokens of the header
abbrev pub is_first : {N : Type 0} → Token N → Bool
is_first (Word text) = bytes_eq text (codes "otlog")
is_first _ = false

abbrev pub is_second : {N : Type 0} → Token N → Bool
is_second (Number n) = n == 1
is_second _ = false

module _ {N : Type 0} (alphabet : Alphabet N) where
  -- where the check is: before the header's tokens, between two records, or in a record that began at a line and asks
  -- for more
  pub data Place : Type 0 where
    AtFirst : Place
    AtSecond : Place
    Between : LogState N → Place
    Within : ℕ → LogState N → RecordForm alphabet → Place

  -- what the form asks for, of this token
  abbrev pub answered : LogState N → RecordForm alphabet → Token N → Result (RecordForm alphabet) LogFault
  answered st (Makes change) t = Err BadToken
  answered st (AskName next) t = as_name t >>= λ n. Ok (next n)
  answered st (AskCount next) t = as_number t >>= λ k. Ok (next k)
  answered st (AskType next) t = as_earlier st.types t >>= λ ty. Ok (next ty)
  answered st (AskTerm next) t = as_earlier st.terms t >>= λ e. Ok (next e)
  answered st (AskSequent next) t = as_earlier st.sequents t >>= λ q. Ok (next q)

  -- a fault at this line
  abbrev pub at_line : {A : Type 0} → ℕ → Result A LogFault → Result A (ℕ × LogFault)
  at_line line (Ok x) = Ok x
  at_line line (Err fault) = Err (line, fault)

  -- a record that asks for nothing more makes what it makes; what it can't make is a fault at its first line
  abbrev pub settled : ℕ → LogState N → RecordForm alphabet → Result Place (ℕ × LogFault)
  settled first st (Makes change) = at_line first (change st) >>= λ now. Ok (Between now)
  settled first st f = Ok (Within first st f)

  -- one token more
  abbrev pub token_step : ℕ → Place → Token N → Result Place (ℕ × LogFault)
  token_step line AtFirst t = at_line line (unless BadHeader (is_first t)) >>= λ _. Ok AtSecond
  token_step line AtSecond t = at_line line (unless BadHeader (is_second t)) >>= λ _. Ok (Between nothing_made)
  token_step line (Between st) t = at_line line (as_record t) >>= λ w. settled line st (form alphabet w)
  token_step line (Within first st f) t = at_line line (answered st f t) >>= λ g. settled first st g

  -- a log may end between two records alone
  abbrev pub ended : ℕ → Place → Outcome N
  ended last (Between st) = Ends st
  ended last _ = Stops last LogEnds

  abbrev pub go_on : Result Place (ℕ × LogFault) → (Place → Outcome N) → Outcome N
  go_on (Ok p) next = next p
  go_on (Err e) next = Stops e.0 e.1

  -- token after token; the last token so far was at this line
  abbrev pub check : ℕ → Place → Tokens N → Outcome N
  check last p NoMore = ended last p
  check last p (Stopped line fault) = Stops line fault
  check last p (Then line t rest) = go_on (token_step line p t) (λ q. check line q rest)

  -- the check of a log's tokens
  abbrev pub check_log : Tokens N → Outcome N
  check_log = check 0 AtFirst
