-- What a record asks for, as the code reads it.
use Rattle.std.specs.Prelude.{◌≡◌, ℕ, List, [], ◌∷◌, ◌++◌, Result, IfOk, IfErr, Option, Some, slice_get}
use Rattle.ot_logic.specs.Names.{Name}
use Rattle.ot_logic.specs.Naming.{names}
use Rattle.ot_log_format.specs.State.{LogState}
use Rattle.ot_log_format.specs.Records.{RecordForm, ask_each, ask_list}
use Rattle.ot_log_format.specs.Check.{Outcome, Stops, settled, go_on, check}
use Rattle.ot_verify.specs.Taking.{fault_of, Rest, ReadsTokens}
use Rattle.ot_verify.specs.declared.reader.Reader.{Reader}
use Rattle.ot_verify.specs.declared.fault.VerifyFault.{VerifyFault}
use Rattle.ot_verify.specs.declared.fault.VerifyFault.TheVariants as verify

-- how the check goes on, in a record that began at a line and asks so
abbrev pub outcome_in : ℕ → LogState Name → RecordForm names → Rest → Outcome Name
outcome_in first st f r = go_on names (settled names first st f) (λ p. check names r.last p r.tokens)

-- a record that asks so goes on with what was asked for
abbrev pub GoesOnWith : {A : Type 0} → LogState Name → ((A → RecordForm names) → RecordForm names) → A → Rest → Rest
    → Type 0
GoesOnWith {A} st ask a old new =
    (first : ℕ) (next : A → RecordForm names) → outcome_in first st (ask next) old ≡ outcome_in first st (next a) new

-- a record that asks so stops with this fault
abbrev pub StopsWith : {A : Type 0} → LogState Name → ((A → RecordForm names) → RecordForm names) → VerifyFault → Rest
    → Type 0
StopsWith {A} st ask (verify.At line f) old =
    (first : ℕ) (next : A → RecordForm names) → outcome_in first st (ask next) old ≡ Stops line (fault_of f)
StopsWith st ask verify.ReadFault old = Unit {0}
StopsWith st ask (verify.Memory memory) old = Unit {0}

-- what was asked for was read, and the record goes on with it; or the check stops. What was read is the same whatever
-- may follow
pub record AnsweredFrom {A X : Type 0} (st : LogState Name) (ask : (A → RecordForm names) → RecordForm names)
    (is : X → A → Type 0) (result : Result X VerifyFault) (old new : Reader) (left left' : Option (List ℕ)) : Type 0
  where
    pub answer : IfOk result (λ x. (a : A) × is x a × ReadsTokens old new left left' (GoesOnWith st ask a))
    pub stop : IfErr result (λ e. ReadsTokens old new left left' (λ before after. StopsWith st ask e before))

-- the value itself
abbrev pub IsValue : {A : Type 0} → A → A → Type 0
IsValue x y = x ≡ y

-- the place has the element
abbrev pub IsAt : {A : Type 0} → List A → ℕ → A → Type 0
IsAt xs i x = slice_get xs i ≡ Some x

-- the items that were read are those elements, one for one
abbrev pub AreEach : {X A : Type 0} → (X → A → Type 0) → List X → List A → Type 0
AreEach is [] [] = Unit {0}
AreEach is (x ∷ xs) (y ∷ ys) = is x y × AreEach is xs ys
AreEach is _ _ = ⊥

-- a record that asks for a list goes on with these items, and asks for so many more
abbrev pub GoesOnAfter : {A : Type 0} → LogState Name → ((A → RecordForm names) → RecordForm names) → List A → ℕ → Rest
    → Rest → Type 0
GoesOnAfter {A} st ask ys k old new =
    (first : ℕ) (next : List A → RecordForm names)
    → outcome_in first st (ask_list ask next) old ≡ outcome_in first st (ask_each ask k (λ us. next (ys ++ us))) new

-- items were read for a record that asks for so many more
pub record CollectsFrom {A X : Type 0} (st : LogState Name) (ask : (A → RecordForm names) → RecordForm names)
    (is : X → A → Type 0) (xs : List X) (k : ℕ) (old new : Reader) (left left' : Option (List ℕ)) : Type 0 where
  pub items : List A
  pub each : AreEach is xs items
  pub tokens : ReadsTokens old new left left' (GoesOnAfter st ask items k)
