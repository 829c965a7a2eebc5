-- A token that was taken, for what a record asks.
use Rattle.std.specs.Prelude.{Result, Ok, Err, IsErrAnd, Option, Some, None, slice_get}
use Rattle.std.proofs.Common.{◌≡◌, ℕ, zero, suc, ◌<◌, ◌≤◌, List, [], ◌∷◌, length, sym, ap, subst}
use Rattle.std.proofs.Common.{◌∙◌, refl, arith}
use Rattle.ot_logic.specs.Names.{Name}
use Rattle.ot_logic.specs.Naming.{names}
use Rattle.ot_logic.specs.Answers.{◌>>=◌, some_or}
use Rattle.ot_logic.proofs.Elements.{slice_get-there}
use Rattle.ot_log_format.specs.Tokens.{LogFault, BadToken, BadReference, Token}
use Rattle.ot_log_format.specs.State.{LogState}
use Rattle.ot_log_format.specs.Records.{RecordForm, AskName, AskCount, AskType, AskTerm, AskSequent}
use Rattle.ot_log_format.specs.Check.{Within, check, settled, go_on, at_line, answered}
use Rattle.ot_log_format.specs.Check.{as_name, as_number, as_earlier}
use Rattle.ot_verify.specs.Taking.{Takes, TakesFrom, ReadsTokens, IsTaken, Rest, fault_of}
use Rattle.ot_verify.specs.Asking.{outcome_in, GoesOnWith, StopsWith, AnsweredFrom, IsAt}
use Rattle.ot_verify.specs.declared.reader.Taken.{Taken}
use Rattle.ot_verify.specs.declared.reader.Taken.TheVariants as taken
use Rattle.ot_verify.specs.declared.reader.Reader.{Reader}
use Rattle.ot_verify.specs.declared.fault.VerifyFault.{VerifyFault}
use Rattle.ot_verify.specs.declared.fault.VerifyFault.TheVariants as verify
use Rattle.ot_verify.specs.declared.fault.LogFault as code
use Rattle.ot_verify.specs.declared.fault.LogFault.TheVariants as faults
use Rattle.ot_verify.proofs.Tokens.{tokens-map}
use Rattle.ot_verify.proofs.OneToken.{token-next, token-none, token-stopped}

-- the form asks for a token that says such a thing
pub record AsksFor {A : Type 0} (st : LogState Name) (ask : (A → RecordForm names) → RecordForm names)
    (as_asked : Token Name → Result A LogFault) : Type 0 where
  pub unsettled : (first : ℕ) (next : A → RecordForm names)
      → settled names first st (ask next) ≡ Ok (Within first st (ask next))
  pub answer : (next : A → RecordForm names) (t : Token Name)
      → answered names st (ask next) t ≡ (as_asked t >>= λ x. Ok (next x))

module _ {A : Type 0} {st : LogState Name} {ask : (A → RecordForm names) → RecordForm names}
    {as_asked : Token Name → Result A LogFault} (k : AsksFor st ask as_asked) where
  -- ---- over what is left
  within : (first : ℕ) (next : A → RecordForm names) (o : Rest)
      → outcome_in first st (ask next) o ≡ check names o.last (Within first st (ask next)) o.tokens
  within first next o = ap (λ z. go_on names z (λ p. check names o.last p o.tokens)) (k.unsettled first next)

  step-on : (first line : ℕ) (next : A → RecordForm names) (t : Token Name) (z : Result A LogFault)
      → as_asked t ≡ z
      → (at_line names line (answered names st (ask next) t) >>= λ g. settled names first st g)
      ≡ (at_line names line (z >>= λ x. Ok (next x)) >>= λ g. settled names first st g)
  step-on first line next t z e =
      ap (λ y. at_line names line y >>= λ g. settled names first st g)
      (k.answer next t ∙ ap (λ y. y >>= λ x. Ok (next x)) e)

  goes-on : (x : Taken) (a : A) (o r : Rest) → ((t : Token Name) → IsTaken x t → as_asked t ≡ Ok a)
      → Takes (Ok (Some x)) o r → GoesOnWith st ask a o r
  goes-on x a o r says t = λ first next.
      within first next o
      ∙ token-next (Within first st (ask next)) o r x (settled names first st (next a))
      (λ s is. step-on first r.last next s (Ok a) (says s is)) t

  no-such : (x : Taken) (f : code.LogFault) (o r : Rest)
      → ((t : Token Name) → IsTaken x t → as_asked t ≡ Err (fault_of f)) → Takes (Ok (Some x)) o r
      → StopsWith st ask (verify.At r.last f) o
  no-such x f o r says t = λ first next.
      within first next o
      ∙ token-next (Within first st (ask next)) o r x (Err (r.last, fault_of f))
      (λ s is. step-on first r.last next s (Err (fault_of f)) (says s is)) t

  too-early : (o r : Rest) → Takes (Ok None) o r → StopsWith st ask (verify.At r.last faults.LogEnds) o
  too-early o r t = λ first next.
      within first next o ∙ token-none (Within first st (ask next)) o r (λ last. refl) t

  stopped : (e : VerifyFault) (o r : Rest) → Takes (Err e) o r → StopsWith st ask e o
  stopped (verify.At line f) o r t = λ first next.
      within first next o ∙ token-stopped (Within first st (ask next)) o r line f t
  stopped verify.ReadFault o r t = tt
  stopped (verify.Memory memory) o r t = tt

  -- ---- over a source
  module _ {X : Type 0} {is : X → A → Type 0} {old new : Reader} {l m : Option (List ℕ)} where
    pub asked-token : (x : Taken) (v : X) (a : A) → is v a → ((t : Token Name) → IsTaken x t → as_asked t ≡ Ok a)
        → TakesFrom (Ok (Some x)) old new l m → AnsweredFrom st ask is (Ok v) old new l m
    asked-token x v a h says t =
        record { answer = (a, h, tokens-map t.token (λ o r. goes-on x a o r says)); stop = tt }

    -- a fault, perhaps at the last line so far
    stop-over : (result : Result (Option Taken) VerifyFault) (fault : ℕ → VerifyFault)
        → ((o r : Rest) → Takes result o r → StopsWith st ask (fault r.last) o) → TakesFrom result old new l m
        → AnsweredFrom st ask is (Err (fault new.last)) old new l m
    stop-over result fault to t = record { answer = tt; stop = at-last }
      where
        over : ReadsTokens old new l m (λ o r. StopsWith st ask (fault r.last) o)
        over = tokens-map t.token to

        at-last : ReadsTokens old new l m (λ o r. StopsWith st ask (fault new.last) o)
        at-last = record { bytes = over.bytes }

    pub asked-other : (x : Taken) (f : code.LogFault) → ((t : Token Name) → IsTaken x t → as_asked t ≡ Err (fault_of f))
        → TakesFrom (Ok (Some x)) old new l m → AnsweredFrom st ask is (Err (verify.At new.last f)) old new l m
    asked-other x f says = stop-over (Ok (Some x)) (λ last. verify.At last f) (λ o r. no-such x f o r says)

    pub asked-none : TakesFrom (Ok None) old new l m
        → AnsweredFrom st ask is (Err (verify.At new.last faults.LogEnds)) old new l m
    asked-none = stop-over (Ok None) (λ last. verify.At last faults.LogEnds) too-early

    -- a fault that is handed on
    pub asked-stopped : {e : VerifyFault} (q : Result X VerifyFault) → IsErrAnd q (λ f. f ≡ e)
        → TakesFrom (Err e) old new l m → AnsweredFrom st ask is q old new l m
    asked-stopped (Ok v) handed t = absurd handed
    asked-stopped {e = e} (Err d) handed t =
        stop-over (Err e) (λ last. d) (λ o r h. subst (λ f. StopsWith st ask f o) (sym handed) (stopped e o r h)) t

-- ---- the number of an earlier node

none-at : {A : Type 0} (xs : List A) (i : ℕ) → length xs ≤ i → slice_get xs i ≡ None
none-at [] i h = refl
none-at (x ∷ xs) zero h = absurd (omega arith)
none-at (x ∷ xs) (suc i) h = none-at xs i (omega arith)

module _ {A : Type 0} {st : LogState Name} {ask : (A → RecordForm names) → RecordForm names} (xs : List A)
    (k : AsksFor st ask (as_earlier xs)) {old new : Reader} {l m : Option (List ℕ)} (n : ℕ)
    (t : TakesFrom (Ok (Some (taken.Number n))) old new l m) where
  pub from-some : n < length xs → AnsweredFrom st ask (IsAt xs) (Ok n) old new l m
  from-some h =
      let (x, e) = slice_get-there xs n h in
      asked-token k (taken.Number n) n x e (λ s is. ap (as_earlier xs) is ∙ ap (some_or BadReference) e) t

  pub from-none : length xs ≤ n
      → AnsweredFrom st ask (IsAt xs) (Err (verify.At new.last faults.BadReference)) old new l m
  from-none h =
      asked-other k (taken.Number n) faults.BadReference
      (λ s is. ap (as_earlier xs) is ∙ ap (some_or BadReference) (none-at xs n h)) t

-- ---- a name, a count

pub asks-name : (st : LogState Name) → AsksFor st AskName as_name
asks-name st = record { unsettled = λ first next. refl; answer = λ next t. refl }

pub asks-count : (st : LogState Name) → AsksFor st AskCount as_number
asks-count st = record { unsettled = λ first next. refl; answer = λ next t. refl }

-- a token that is no name
pub no-name : (x : Taken) → ((n : Name) → x ≡ taken.Name n → ⊥) → (t : Token Name) → IsTaken x t
    → as_name t ≡ Err BadToken
no-name (taken.Number n) other t is = ap as_name is
no-name (taken.Name n) other t is = absurd (other n refl)
no-name (taken.Word header found) other t is = ap as_name is.1

-- a token that is no number
pub no-number : (x : Taken) → ((n : ℕ) → x ≡ taken.Number n → ⊥) → (t : Token Name) → IsTaken x t
    → as_number t ≡ Err BadToken
no-number (taken.Number n) other t is = absurd (other n refl)
no-number (taken.Name n) other t is = ap as_number is
no-number (taken.Word header found) other t is = ap as_number is.1

-- ---- an earlier type, term or sequent

pub asks-type : (st : LogState Name) → AsksFor st AskType (as_earlier st.types)
asks-type st = record { unsettled = λ first next. refl; answer = λ next t. refl }

pub asks-term : (st : LogState Name) → AsksFor st AskTerm (as_earlier st.terms)
asks-term st = record { unsettled = λ first next. refl; answer = λ next t. refl }

pub asks-sequent : (st : LogState Name) → AsksFor st AskSequent (as_earlier st.sequents)
asks-sequent st = record { unsettled = λ first next. refl; answer = λ next t. refl }

pub no-earlier : {A : Type 0} (xs : List A) (x : Taken) → ((n : ℕ) → x ≡ taken.Number n → ⊥) → (t : Token Name)
    → IsTaken x t → as_earlier xs t ≡ Err BadToken
no-earlier xs x other t is = ap (λ z. z >>= λ i. some_or BadReference (slice_get xs i)) (no-number x other t is)
