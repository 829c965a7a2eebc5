-- The check of a log, from one record to the next, over the bytes that were read of a source.
use Rattle.std.specs.Prelude.{true, false, Result, Ok, Err, IsOk, Option, Some, None}
use Rattle.std.proofs.Common.{◌≡◌, ℕ, List, [], sym, ap, subst, refl, ◌∙◌}
use Rattle.ot_io.specs.Reading.{Reads, HasRead}
use Rattle.ot_io.proofs.Reading.{Reads-then, Reads-none}
use Rattle.ot_logic.specs.Names.{Name}
use Rattle.ot_logic.specs.Naming.{names}
use Rattle.ot_logic.specs.RanOut.{ran_out}
use Rattle.ot_log_format.specs.State.{LogState, nothing_made}
use Rattle.ot_log_format.specs.Records.{form}
use Rattle.ot_log_format.specs.Check.{Outcome, AtFirst, Between, check}
use Rattle.ot_log_format.specs.declared.word.RecordWord.{RecordWord}
use Rattle.ot_verify.specs.Reading.{log_check}
use Rattle.ot_verify.specs.Taking.{Rest, rest, ReadsTokens}
use Rattle.ot_verify.specs.Asking.{outcome_in}
use Rattle.ot_verify.specs.Logged.{Recorded, RecordedFrom}
use Rattle.ot_verify.specs.Verifying.{Proved, Verifies, proved_by}
use Rattle.ot_verify.specs.Going.{Heads, Begins, BeginsFrom, HeadsFrom}
use Rattle.ot_verify.specs.declared.reader.Reader.{Reader}
use Rattle.ot_verify.specs.declared.fault.VerifyFault.{VerifyFault}
use Rattle.ot_verify.specs.declared.fault.VerifyFault.TheVariants as verify

-- the reader before the header
abbrev pub first_reader : ℕ → Reader
first_reader max =
    record { lines = record { max = max; held = []; before = 0; number = 0; ended = false }; last = 0 }

-- ---- where the check is, of these bytes, when those are left

-- before the header
abbrev AtHeader : ℕ → Reader → List ℕ → List ℕ → Type 0
AtHeader max r bytes left = log_check max bytes ≡ check names r.last AtFirst (rest r left).tokens

-- between two records, which made this
abbrev AtRecord : ℕ → LogState Name → Reader → List ℕ → List ℕ → Type 0
AtRecord max st r bytes left = log_check max bytes ≡ check names r.last (Between st) (rest r left).tokens

-- behind the word of a record
abbrev AtWord : ℕ → LogState Name → RecordWord → Reader → List ℕ → List ℕ → Type 0
AtWord max st w r bytes left = log_check max bytes ≡ outcome_in r.last st (form names w) (rest r left)

-- the check so far, of the bytes that were read and any that may follow
pub record Follows (max : ℕ) (st : LogState Name) (r : Reader) (all left : Option (List ℕ)) : Type 0 where
  pub bytes : Reads false r.lines.ended all left (AtRecord max st r)

-- the answer is that of the check of the bytes that were read, which are all where the log is accepted
abbrev pub Checked : ℕ → Result Proved VerifyFault → Option (List ℕ) → Option (List ℕ) → Type 0
Checked max result all left = HasRead all left (IsOk result) (λ bytes after. Verifies result (log_check max bytes))

module _ {old new : Reader} {all l m : Option (List ℕ)} (P : List ℕ → List ℕ → Type 0) (Q : Rest → Rest → Type 0)
    (f : Reads false old.lines.ended all l P) (q : ReadsTokens old new l m Q) where
  -- tokens more
  read-on : (R : List ℕ → List ℕ → Type 0) → ((x y z : List ℕ) → P x y → Q (rest old y) (rest new z) → R x z)
      → Reads false new.lines.ended all m R
  read-on R to =
      Reads-then false old.lines.ended new.lines.ended all l m P (λ y z. Q (rest old y) (rest new z)) R to f
      q.bytes

  -- the answer
  answers : (max : ℕ) (result : Result Proved VerifyFault)
      → ((x y z : List ℕ) → P x y → Q (rest old y) (rest new z) → Verifies result (log_check max x))
      → (IsOk result → new.lines.ended ≡ true) → Checked max result all m
  answers max result to end = record {
    ended = new.lines.ended;
    to_end = end;
    reads = read-on (λ x z. Verifies result (log_check max x)) to;
  }

-- ---- the header

at-header : (max : ℕ) (old : Reader) (all : Option (List ℕ)) → old ≡ first_reader max
    → Reads false old.lines.ended all all (AtHeader max old)
at-header max old all is =
    subst (λ r. Reads false r.lines.ended all all (AtHeader max r)) (sym is)
    (Reads-none false all (AtHeader max (first_reader max)) (λ x may. refl))

stops-header : (e : VerifyFault) (out : Outcome Name) (o r : Rest) → out ≡ check names o.last AtFirst o.tokens
    → Heads (Err e) o r → Verifies (Err e) out
stops-header (verify.At line fault) out o r p q = p ∙ q
stops-header verify.ReadFault out o r p q = tt
stops-header (verify.Memory memory) out o r p q = tt

module _ (max : ℕ) {old new : Reader} {all l : Option (List ℕ)} (is : old ≡ first_reader max) where
  -- it was read
  pub follows-header : {st : LogState Name} {u : Unit {0}} → st ≡ nothing_made → HeadsFrom (Ok u) old new all l
      → Follows max st new all l
  follows-header {st = st} {u = u} e h = record {
    bytes = read-on (AtHeader max old) (Heads (Ok u)) (at-header max old all is) h.tokens (AtRecord max st new)
        (λ x y z p q. p ∙ q ∙ ap (λ s. check names new.last (Between s) (rest new z).tokens) (sym e));
  }

  -- it was not
  pub header-refused : {e : VerifyFault} → HeadsFrom (Err e) old new all l → Checked max (Err e) all l
  header-refused {e = e} h =
      answers (AtHeader max old) (Heads (Err e)) (at-header max old all is) h.tokens max (Err e)
      (λ x y z p q. stops-header e (log_check max x) (rest old y) (rest new z) p q) (λ ok. cc)

-- ---- a record

stops-word : (st : LogState Name) (e : VerifyFault) (out : Outcome Name) (o r : Rest)
    → out ≡ check names o.last (Between st) o.tokens → Begins (Err e) o r → Verifies (Err e) out
stops-word st (verify.At line fault) out o r p q = p ∙ q st
stops-word st verify.ReadFault out o r p q = tt
stops-word st (verify.Memory memory) out o r p q = tt

stops-record : (first : ℕ) (w : RecordWord) (st now : LogState Name) (e : VerifyFault) (out : Outcome Name) (o r : Rest)
    → out ≡ outcome_in first st (form names w) o → Recorded (Err e) (form names w) first st now o r
    → Verifies (Err e) out
stops-record first w st now (verify.At line fault) out o r p q = p ∙ q
stops-record first w st now verify.ReadFault out o r p q = tt
stops-record first w st now (verify.Memory memory) out o r p q = tt

module _ {max : ℕ} {st : LogState Name} {old mid : Reader} {all l m : Option (List ℕ)}
    (f : Follows max st old all l) where
  -- the end
  pub follows-end : BeginsFrom (Ok None) old mid l m → Checked max (Ok (proved_by st)) all m
  follows-end b =
      answers (AtRecord max st old) (Begins (Ok None)) f.bytes b.tokens max (Ok (proved_by st))
      (λ x y z e h. (st, e ∙ h st, refl)) (λ ok. b.end)

  -- no word of a record
  pub word-refused : {e : VerifyFault} → BeginsFrom (Err e) old mid l m → Checked max (Err e) all m
  word-refused {e = e} b =
      answers (AtRecord max st old) (Begins (Err e)) f.bytes b.tokens max (Err e)
      (λ x y z p q. stops-word st e (log_check max x) (rest old y) (rest mid z) p q) (λ ok. cc)

  -- a word
  begun : (w : RecordWord) → BeginsFrom (Ok (Some w)) old mid l m
      → Reads false mid.lines.ended all m (AtWord max st w mid)
  begun w b =
      read-on (AtRecord max st old) (Begins (Ok (Some w))) f.bytes b.tokens (AtWord max st w mid)
      (λ x y z e h. e ∙ h st)

  module _ {w : RecordWord} {new : Reader} {n : Option (List ℕ)} {now : LogState Name}
      (b : BeginsFrom (Ok (Some w)) old mid l m) where
    -- the record was read
    pub follows-record : {u : Unit {0}} → RecordedFrom (Ok u) (form names w) mid.last st now mid new m n
        → Follows max now new all n
    follows-record {u = u} r = record {
      bytes = read-on (AtWord max st w mid) (Recorded (Ok u) (form names w) mid.last st now) (begun w b) r.tokens
          (AtRecord max now new) (λ x y z e h. e ∙ h);
    }

    -- it was not
    pub record-refused : {e : VerifyFault} → RecordedFrom (Err e) (form names w) mid.last st now mid new m n
        → Checked max (Err e) all n
    record-refused {e = e} r =
        answers (AtWord max st w mid) (Recorded (Err e) (form names w) mid.last st now) (begun w b) r.tokens max
        (Err e)
        (λ x y z p q. stops-record mid.last w st now e (log_check max x) (rest mid y) (rest new z) p q) (λ ok. cc)

-- ---- what the answer says

-- want of memory before the first byte
pub none-checked : (max : ℕ) (all : Option (List ℕ)) → Checked max (Err (verify.Memory ran_out)) all all
none-checked max all = record {
  ended = false;
  to_end = λ ok. cc;
  reads = Reads-none false all (λ x y. Verifies (Err (verify.Memory ran_out)) (log_check max x)) (λ x may. tt);
}
