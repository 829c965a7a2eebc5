-- A record, token after token.
use Rattle.std.specs.Prelude.{Ok, Err, Result, IsErrAnd, Option}
use Rattle.std.proofs.Common.{◌≡◌, ℕ, List, sym, ap, subst, ◌∙◌}
use Rattle.ot_logic.specs.Names.{Name}
use Rattle.ot_logic.specs.Naming.{names}
use Rattle.ot_logic.specs.Answers.{◌>>=◌}
use Rattle.ot_log_format.specs.Tokens as stated
use Rattle.ot_log_format.specs.State.{LogState, Change}
use Rattle.ot_log_format.specs.Records.{RecordForm, Makes}
use Rattle.ot_log_format.specs.Check.{Between, Stops, at_line, go_on, check}
use Rattle.ot_verify.specs.Taking.{Rest}
use Rattle.ot_verify.specs.Asking.{outcome_in, StopsWith, AnsweredFrom}
use Rattle.ot_verify.specs.Logged.{MadeBy, settled_at, Recorded, RecordedFrom}
use Rattle.ot_verify.specs.declared.reader.Reader.{Reader}
use Rattle.ot_verify.specs.declared.log.Refusal.{Refusal}
use Rattle.ot_verify.specs.declared.log.Refusal.TheVariants as refusals
use Rattle.ot_verify.specs.declared.fault.VerifyFault.{VerifyFault}
use Rattle.ot_verify.specs.declared.fault.VerifyFault.TheVariants as verify
use Rattle.ot_verify.proofs.Tokens.{tokens-then, tokens-map, tokens-none}

-- the check goes on alike
recorded-on : (q : Result (Unit {0}) VerifyFault) (f g : RecordForm names)
    (first : ℕ) (st now : LogState Name) (old mid new : Rest)
    → outcome_in first st f old ≡ outcome_in first st g mid → Recorded q g first st now mid new
    → Recorded q f first st now old new
recorded-on (Ok u) f g first st now old mid new e h = e ∙ h
recorded-on (Err (verify.At line fault)) f g first st now old mid new e h = e ∙ h
recorded-on (Err verify.ReadFault) f g first st now old mid new e h = tt
recorded-on (Err (verify.Memory memory)) f g first st now old mid new e h = tt

stops-record : {A : Type 0} (st now : LogState Name) (ask : (A → RecordForm names) → RecordForm names)
    (e : VerifyFault) (next : A → RecordForm names) (first : ℕ) (o r : Rest)
    → StopsWith st ask e o → Recorded (Err e) (ask next) first st now o r
stops-record st now ask (verify.At line fault) next first o r a = a first next
stops-record st now ask verify.ReadFault next first o r a = tt
stops-record st now ask (verify.Memory memory) next first o r a = tt

module _ {A X : Type 0} {st was now : LogState Name} {ask : (A → RecordForm names) → RecordForm names}
    {is : X → A → Type 0} {first : ℕ} (same : st ≡ was) (next : A → RecordForm names) where
  -- what was asked for was read, and then the rest
  pub answered-then : {x : X} {q : Result (Unit {0}) VerifyFault} {old mid new : Reader} {l m n : Option (List ℕ)}
      → AnsweredFrom st ask is (Ok x) old mid l m
      → ((a : A) → is x a → RecordedFrom q (next a) first was now mid new m n)
      → RecordedFrom q (ask next) first was now old new l n
  answered-then {q = q} a h =
      let (y, found, reads) = a.answer in
      record {
        tokens = tokens-then reads (h y found).tokens (λ o r s e. recorded-on q (ask next) (next y) first was now o r s
            (subst (λ t. outcome_in first t (ask next) o ≡ outcome_in first t (next y) r) same (e first next)));
      }

  -- what was asked for was not read: the fault is handed on
  pub answered-stop : {e : VerifyFault} {old new : Reader} {l m : Option (List ℕ)} (q : Result (Unit {0}) VerifyFault)
      → IsErrAnd q (λ f. f ≡ e) → AnsweredFrom st ask is (Err e) old new l m
      → RecordedFrom q (ask next) first was now old new l m
  answered-stop (Ok u) handed a = absurd handed
  answered-stop {e = e} (Err f) handed a = record {
    tokens = tokens-map a.stop
        (λ o r s. subst (λ d. Recorded (Err d) (ask next) first was now o r) (sym handed)
        (stops-record was now ask e next first o r (subst (λ t. StopsWith t ask e o) same s)));
  }

-- the record makes what it makes
makes-ok : (change : Change names) (first : ℕ) (st now : LogState Name) (r : Rest) → change st ≡ Ok now
    → outcome_in first st (Makes change) r ≡ check names r.last (Between now) r.tokens
makes-ok change first st now r e =
    ap (λ z. go_on names (at_line names first z >>= λ s. Ok (Between s)) (λ p. check names r.last p r.tokens)) e

makes-err : (change : Change names) (first : ℕ) (st : LogState Name) (fault : stated.LogFault) (r : Rest)
    → change st ≡ Err fault
    → outcome_in first st (Makes change) r ≡ Stops first fault
makes-err change first st fault r e =
    ap (λ z. go_on names (at_line names first z >>= λ s. Ok (Between s)) (λ p. check names r.last p r.tokens)) e

made-here : (change : Change names) (first : ℕ) (st now : LogState Name) (made : Result (Unit {0}) Refusal) (r : Rest)
    → MadeBy made change st now → Recorded (settled_at first made) (Makes change) first st now r r
made-here change first st now (Ok u) r m = makes-ok change first st now r m
made-here change first st now (Err refusals.BadStep) r m = makes-err change first st stated.BadStep r m
made-here change first st now (Err refusals.LogNesting) r m = makes-err change first st stated.LogNesting r m
made-here change first st now (Err refusals.NoSuch) r m = absurd m
made-here change first st now (Err (refusals.Memory memory)) r m = tt

-- both answers of a record
module _ {change : Change names} {first : ℕ} {st was now : LogState Name} {r : Reader} {l : Option (List ℕ)}
    (same : st ≡ was) (made : Result (Unit {0}) Refusal) where
  pub made-settled : MadeBy made change st now
      → RecordedFrom (settled_at first made) (Makes change) first was now r r l l
  made-settled m = record {
    tokens = tokens-none (λ s. made-here change first was now made s (subst (λ z. MadeBy made change z now) same m));
  }
