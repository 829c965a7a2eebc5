-- The tokens of a proof log, and the words of its records.
use Rattle.std.specs.Prelude.{ℕ, List, [], ◌∷◌, codes, Option, find}
use Rattle.std.specs.Str.{bytes_eq}
use Rattle.ot_log_format.specs.declared.word.RecordWord.{RecordWord}
use Rattle.ot_log_format.specs.declared.word.RecordWord.TheVariants as words

-- why a log is refused
pub data LogFault : Type 0 where
  LineTooLong : LogFault
  LogTooLong : LogFault
  BadToken : LogFault
  BadHeader : LogFault
  UnknownRecord : LogFault
  BadReference : LogFault
  BadStep : LogFault
  LogNesting : LogFault
  LogEnds : LogFault

-- a token: a number from 0 up, a name, or a word of letters
pub data Token (N : Type 0) : Type 0 where
  Number : ℕ → Token N
  Named : N → Token N
  Word : List ℕ → Token N

-- ---- the tokens of a log

-- the tokens to come: the end, what stops the lines, or a token with its line, and more
pub data Tokens (N : Type 0) : Type 0 where
  NoMore : Tokens N
  Stopped : ℕ → LogFault → Tokens N
  Then : ℕ → Token N → Tokens N → Tokens N

-- ---- the words of records

-- how a record begins
abbrev pub spelling : RecordWord → List ℕ
spelling words.TyVar = codes "tyvar"
spelling words.TyOp = codes "tyop"
spelling words.Free = codes "free"
spelling words.Con = codes "con"
spelling words.Bound = codes "bound"
spelling words.App = codes "app"
spelling words.Lam = codes "lam"
spelling words.Refl = codes "refl"
spelling words.Assume = codes "assume"
spelling words.EqMp = codes "eqMp"
spelling words.AbsThm = codes "absThm"
spelling words.AppThm = codes "appThm"
spelling words.DeductAntisym = codes "deductAntisym"
spelling words.BetaConv = codes "betaConv"
spelling words.Subst = codes "subst"
spelling words.Assumption = codes "assumption"
spelling words.Constant = codes "constant"
spelling words.Constants = codes "constants"
spelling words.TypeOperator = codes "typeOperator"
spelling words.Result = codes "result"

-- all of them
abbrev pub record_words : List RecordWord
record_words =
    words.TyVar ∷ words.TyOp ∷ words.Free ∷ words.Con ∷ words.Bound ∷ words.App ∷ words.Lam ∷ words.Refl
    ∷ words.Assume ∷ words.EqMp ∷ words.AbsThm ∷ words.AppThm ∷ words.DeductAntisym ∷ words.BetaConv ∷ words.Subst
    ∷ words.Assumption ∷ words.Constant ∷ words.Constants ∷ words.TypeOperator ∷ words.Result ∷ []

-- the record that begins so
abbrev pub record_of : List ℕ → Option RecordWord
record_of text = find (λ w. bytes_eq (spelling w) text) record_words
