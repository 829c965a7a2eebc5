-- The header of a log, and the words of its records.
use Rattle.std.specs.Prelude.{true, false, Bool, ◌==◌, Result, Ok, Err, IfOk, IsErrAnd, Option, Some, None, IfNone}
use Rattle.std.proofs.Common.{◌≡◌, ℕ, List, inl, inr, sym, ap, subst, refl, ◌∙◌}
use Rattle.std.proofs.lemmas.Bool.Decides.{eqb_tells}
use Rattle.ot_logic.specs.Names.{Name}
use Rattle.ot_logic.specs.Naming.{names}
use Rattle.ot_logic.specs.Answers.{◌>>=◌, unless, some_or}
use Rattle.ot_log_format.specs.Tokens.{LogFault, Token, BadToken, BadHeader, UnknownRecord, LogEnds}
use Rattle.ot_log_format.specs.State.{LogState, nothing_made}
use Rattle.ot_log_format.specs.Records.{form}
use Rattle.ot_log_format.specs.Check.{Place, AtFirst, AtSecond, Between, Stops, check, ended, go_on, token_step, at_line}
use Rattle.ot_log_format.specs.Check.{settled, is_first, is_second, as_record}
use Rattle.ot_log_format.specs.declared.word.RecordWord.{RecordWord}
use Rattle.ot_verify.specs.Taking.{Takes, TakesFrom, ReadsTokens, IsTaken, Rest, fault_of}
use Rattle.ot_verify.specs.Going.{Heads, HeadsFrom, Begins, BeginsFrom}
use Rattle.ot_verify.specs.declared.reader.Taken.{Taken}
use Rattle.ot_verify.specs.declared.reader.Taken.TheVariants as taken
use Rattle.ot_verify.specs.declared.reader.Reader.{Reader}
use Rattle.ot_verify.specs.declared.fault.VerifyFault.{VerifyFault}
use Rattle.ot_verify.specs.declared.fault.VerifyFault.TheVariants as verify
use Rattle.ot_verify.specs.declared.fault.LogFault as code
use Rattle.ot_verify.specs.declared.fault.LogFault.TheVariants as faults
use Rattle.ot_verify.proofs.Tokens.{tokens-map, tokens-then, tokens-none}
use Rattle.ot_verify.proofs.OneToken.{token-next, token-none, token-stopped}

-- ---- what a token says of the header

abbrev pub header_of : Taken → Bool
header_of (taken.Word header found) = header
header_of (taken.Number n) = false
header_of (taken.Name n) = false

abbrev pub version_of : Taken → Bool
version_of (taken.Number n) = n == 1
version_of (taken.Name n) = false
version_of (taken.Word header found) = false

says-header : (x : Taken) (t : Token Name) → IsTaken x t → is_first t ≡ header_of x
says-header (taken.Number n) t is = ap is_first is
says-header (taken.Name n) t is = ap is_first is
says-header (taken.Word header found) t is = ap is_first is.1 ∙ sym is.2

says-version : (x : Taken) (t : Token Name) → IsTaken x t → is_second t ≡ version_of x
says-version (taken.Number n) t is = ap is_second is
says-version (taken.Name n) t is = ap is_second is
says-version (taken.Word header found) t is = ap is_second is.1

-- ---- how far the check of the header came

-- from the start to a place
abbrev Comes : Place names → Rest → Rest → Type 0
Comes p o r = check names o.last AtFirst o.tokens ≡ check names r.last p r.tokens

-- the check of this place stops
abbrev StopsAt : Place names → VerifyFault → Rest → Type 0
StopsAt p (verify.At line f) o = check names o.last p o.tokens ≡ Stops line (fault_of f)
StopsAt p verify.ReadFault o = Unit {0}
StopsAt p (verify.Memory memory) o = Unit {0}

stops-here : (p : Place names) (e : VerifyFault) (o r : Rest) → Takes (Err e) o r → StopsAt p e o
stops-here p (verify.At line f) o r t = token-stopped p o r line f t
stops-here p verify.ReadFault o r t = tt
stops-here p (verify.Memory memory) o r t = tt

heads-stop : (p : Place names) (e : VerifyFault) (o r s : Rest) → Comes p o r → StopsAt p e r → Heads (Err e) o s
heads-stop p (verify.At line f) o r s c h = c ∙ h
heads-stop p verify.ReadFault o r s c h = tt
heads-stop p (verify.Memory memory) o r s c h = tt

pub starts : {a : Reader} {l : Option (List ℕ)} → ReadsTokens a a l l (Comes AtFirst)
starts = tokens-none (λ x. refl)

module _ {old mid new : Reader} {l m n : Option (List ℕ)} {p : Place names} (c : ReadsTokens old mid l m (Comes p)) where
  stop-at : (result : Result (Option Taken) VerifyFault) (fault : ℕ → VerifyFault)
      → ((o r : Rest) → Takes result o r → StopsAt p (fault r.last) o) → TakesFrom result mid new m n
      → HeadsFrom (Err (fault new.last)) old new l n
  stop-at result fault to t = record { tokens = record { bytes = over.bytes } }
    where
      over : ReadsTokens old new l n (λ o s. Heads (Err (fault s.last)) o s)
      over = tokens-then c t.token (λ o r s k h. heads-stop p (fault s.last) o r s k (to r s h))

  -- another token
  pub header-other : (x : Taken)
      → ((line : ℕ) (t : Token Name) → IsTaken x t → token_step names line p t ≡ Err (line, BadHeader))
      → TakesFrom (Ok (Some x)) mid new m n → HeadsFrom (Err (verify.At new.last faults.BadHeader)) old new l n
  header-other x off =
      stop-at (Ok (Some x)) (λ last. verify.At last faults.BadHeader)
      (λ o r h. token-next p o r x (Err (r.last, BadHeader)) (off r.last) h)

  -- none
  pub header-none : ((last : ℕ) → ended names last p ≡ Stops last LogEnds) → TakesFrom (Ok None) mid new m n
      → HeadsFrom (Err (verify.At new.last faults.LogEnds)) old new l n
  header-none early = stop-at (Ok None) (λ last. verify.At last faults.LogEnds) (λ o r h. token-none p o r early h)

  -- a fault that is handed on
  pub header-stopped : {e : VerifyFault} (q : Result (Unit {0}) VerifyFault) → IsErrAnd q (λ f. f ≡ e)
      → TakesFrom (Err e) mid new m n → HeadsFrom q old new l n
  header-stopped (Ok u) handed t = absurd handed
  header-stopped {e = e} (Err d) handed t =
      stop-at (Err e) (λ last. d)
      (λ o r h. subst (λ f. StopsAt p f o) (sym handed) (stops-here p e o r h)) t

-- ---- the header

step-first : (b : Bool) (x : Taken) → header_of x ≡ b → (line : ℕ) (t : Token Name) → IsTaken x t
    → token_step names line AtFirst t ≡ (at_line names line (unless BadHeader b) >>= λ u. Ok AtSecond)
step-first b x e line t is =
    ap (λ b. at_line names line (unless BadHeader b) >>= λ u. Ok AtSecond) (says-header x t is ∙ e)

step-second : (b : Bool) (x : Taken) → version_of x ≡ b → (line : ℕ) (t : Token Name) → IsTaken x t
    → token_step names line AtSecond t ≡ (at_line names line (unless BadHeader b) >>= λ u. Ok (Between nothing_made))
step-second b x e line t is =
    ap (λ b. at_line names line (unless BadHeader b) >>= λ u. Ok (Between nothing_made)) (says-version x t is ∙ e)

-- another first token
module _ {old new : Reader} {l n : Option (List ℕ)} where
  pub no-header : (x : Taken) → ((found : Option RecordWord) → x ≡ taken.Word true found → ⊥)
      → TakesFrom (Ok (Some x)) old new l n → HeadsFrom (Err (verify.At new.last faults.BadHeader)) old new l n
  no-header x other = header-other starts x (step-first false x (says-no x other))
    where
      says-no : (x : Taken) → ((found : Option RecordWord) → x ≡ taken.Word true found → ⊥) → header_of x ≡ false
      says-no (taken.Number n) other = refl
      says-no (taken.Name n) other = refl
      says-no (taken.Word true found) other = absurd (other found refl)
      says-no (taken.Word false found) other = refl

-- another version
module _ {old mid new : Reader} {l m n : Option (List ℕ)} where
  pub no-version : ReadsTokens old mid l m (Comes AtSecond) → (x : Taken) → (x ≡ taken.Number 1 → ⊥)
      → TakesFrom (Ok (Some x)) mid new m n → HeadsFrom (Err (verify.At new.last faults.BadHeader)) old new l n
  no-version c x other = header-other c x (step-second false x (says-no x other))
    where
      says-no : (x : Taken) → (x ≡ taken.Number 1 → ⊥) → version_of x ≡ false
      says-no (taken.Number n) other =
          elim (eqb_tells n 1) [ inl e ↦ absurd (other (ap taken.Number e.1)) | inr e ↦ e.0 ]
      says-no (taken.Name n) other = refl
      says-no (taken.Word header found) other = refl

-- its word was read
pub header-begun : {old mid : Reader} {l m : Option (List ℕ)} (x : Taken) → header_of x ≡ true
    → TakesFrom (Ok (Some x)) old mid l m → ReadsTokens old mid l m (Comes AtSecond)
header-begun x e t =
    tokens-map t.token (λ o r h. token-next AtFirst o r x (Ok AtSecond) (step-first true x e r.last) h)

-- and its version
pub header-read : {old mid new : Reader} {l m n : Option (List ℕ)} {u : Unit {0}} (x : Taken)
    → ReadsTokens old mid l m (Comes AtSecond) → version_of x ≡ true → TakesFrom (Ok (Some x)) mid new m n
    → HeadsFrom (Ok u) old new l n
header-read x c e t = record {
  tokens = tokens-then c t.token (λ o r s k h. k
      ∙ token-next AtSecond r s x (Ok (Between nothing_made)) (step-second true x e s.last) h);
}

-- ---- the word of a record

word-next : (st : LogState Name) (o r : Rest) (x : Taken) (z : Result RecordWord LogFault)
    → ((t : Token Name) → IsTaken x t → as_record t ≡ z) → Takes (Ok (Some x)) o r
    → check names o.last (Between st) o.tokens
    ≡ go_on names (at_line names r.last z >>= λ w. settled names r.last st (form names w))
    (λ q. check names r.last q r.tokens)
word-next st o r x z says =
    token-next (Between st) o r x (at_line names r.last z >>= λ w. settled names r.last st (form names w))
    (λ t is. ap (λ z. at_line names r.last z >>= λ w. settled names r.last st (form names w)) (says t is))

begins-fault : (e : VerifyFault) (o r : Rest) → Takes (Err e) o r → Begins (Err e) o r
begins-fault (verify.At line f) o r t = λ st. token-stopped (Between st) o r line f t
begins-fault verify.ReadFault o r t = tt
begins-fault (verify.Memory memory) o r t = tt

module _ {old new : Reader} {l m : Option (List ℕ)} where
  begins-over : (result : Result (Option Taken) VerifyFault) (answer : ℕ → Result (Option RecordWord) VerifyFault)
      → ((o r : Rest) → Takes result o r → Begins (answer r.last) o r)
      → IfOk (answer new.last) (λ o. IfNone o (new.lines.ended ≡ true)) → TakesFrom result old new l m
      → BeginsFrom (answer new.last) old new l m
  begins-over result answer to end t = record { tokens = record { bytes = over.bytes }; end = end }
    where
      over : ReadsTokens old new l m (λ o r. Begins (answer r.last) o r)
      over = tokens-map t.token to

  -- it was read
  pub begins-word : (header : Bool) (word : RecordWord)
      → TakesFrom (Ok (Some (taken.Word header (Some word)))) old new l m → BeginsFrom (Ok (Some word)) old new l m
  begins-word header word =
      begins-over (Ok (Some (taken.Word header (Some word)))) (λ last. Ok (Some word))
      (λ o r h. λ st. word-next st o r (taken.Word header (Some word)) (Ok word)
      (λ t is. ap as_record is.1 ∙ ap (some_or UnknownRecord) (sym is.3)) h) tt

  -- a token that is no word of a record
  pub no-record : (x : Taken) (f : code.LogFault) → ((t : Token Name) → IsTaken x t → as_record t ≡ Err (fault_of f))
      → TakesFrom (Ok (Some x)) old new l m → BeginsFrom (Err (verify.At new.last f)) old new l m
  no-record x f says =
      begins-over (Ok (Some x)) (λ last. Err (verify.At last f))
      (λ o r h. λ st. word-next st o r x (Err (fault_of f)) says h) tt

  -- the end of the log
  pub begins-none : TakesFrom (Ok None) old new l m → BeginsFrom (Ok None) old new l m
  begins-none t =
      begins-over (Ok None) (λ last. Ok None)
      (λ o r h. λ st. ap (check names o.last (Between st)) h.0) t.end t

  -- a fault that is handed on
  pub begins-stopped : {e : VerifyFault} (q : Result (Option RecordWord) VerifyFault) → IsErrAnd q (λ f. f ≡ e)
      → TakesFrom (Err e) old new l m → BeginsFrom q old new l m
  begins-stopped (Ok w) handed t = absurd handed
  begins-stopped {e = e} (Err d) handed t =
      begins-over (Err e) (λ last. Err d)
      (λ o r h. subst (λ f. Begins (Err f) o r) (sym handed) (begins-fault e o r h)) tt t

-- words that are no words of records
pub unknown-word : (header : Bool) (t : Token Name) → IsTaken (taken.Word header None) t
    → as_record t ≡ Err UnknownRecord
unknown-word header t is = ap as_record is.1 ∙ ap (some_or UnknownRecord) (sym is.3)

pub no-word : (x : Taken) → ((header : Bool) (found : Option RecordWord) → x ≡ taken.Word header found → ⊥)
    → (t : Token Name) → IsTaken x t → as_record t ≡ Err BadToken
no-word (taken.Number n) other t is = ap as_record is
no-word (taken.Name n) other t is = ap as_record is
no-word (taken.Word header found) other t is = absurd (other header found refl)
