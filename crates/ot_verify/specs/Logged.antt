-- What contracts see of a log that is checked, and what its records do.
use Rattle.std.specs.Prelude.{◌≡◌, ℕ, List, Result, Ok, Err, Option, Some, slice_get, refl}
use Rattle.std.specs.Coded.{Coded, code_by, coded×, coded_list}
use Rattle.ot_logic.specs.Table.{Extends}
use Rattle.ot_log_nodes.specs.Items.{Item, coded_item, IsName}
use Rattle.ot_logic.specs.Trees.{Ty, Variable, Tm, Sequent, Definition}
use Rattle.ot_verify.specs.declared.operand.NamedType.{NamedType}
use Rattle.ot_verify.specs.declared.operand.TermPair.{TermPair}
use Rattle.ot_verify.specs.declared.operand.ConstantPair.{ConstantPair}
use Rattle.ot_logic.specs.Codes.{coded_name, coded_ty, coded_tm, coded_sequent, coded_definition}
use Rattle.ot_logic.specs.Names.{Name}
use Rattle.ot_logic.specs.Naming.{names}
use Rattle.ot_log_format.specs.Tokens as stated
use Rattle.ot_log_format.specs.State.{LogState, Change}
use Rattle.ot_log_format.specs.Records.{RecordForm}
use Rattle.ot_log_format.specs.Check.{Stops, Between, check}
use Rattle.ot_verify.specs.Taking.{fault_of, Rest, ReadsTokens}
use Rattle.ot_verify.specs.Asking.{outcome_in}
use Rattle.ot_verify.specs.declared.reader.Reader.{Reader}
use Rattle.ot_verify.specs.declared.log.Refusal.{Refusal}
use Rattle.ot_verify.specs.declared.log.Refusal.TheVariants as refusals
use Rattle.ot_verify.specs.declared.fault.VerifyFault.{VerifyFault}
use Rattle.ot_verify.specs.declared.fault.VerifyFault.TheVariants as verify
use Rattle.ot_verify.specs.declared.fault.LogFault.TheVariants as faults

-- the table of names, types and terms, and what the records made
pub record LogView : Type 0 where
  pub items : List Item
  pub state : LogState Name

abbrev coded_state : Coded (LogState Name)
coded_state =
    code_by (List (Ty Name)
    × (List (Tm Name)
    × (List (Sequent Name) × (List (Sequent Name) × (List (Definition Name) × List (Sequent Name))))))
    (coded× (coded_list (coded_ty coded_name))
    (coded× (coded_list (coded_tm coded_name))
    (coded× (coded_list (coded_sequent coded_name))
    (coded× (coded_list (coded_sequent coded_name))
    (coded× (coded_list (coded_definition coded_name)) (coded_list (coded_sequent coded_name)))))))
    (λ s. (s.types, (s.terms, (s.sequents, (s.assumptions, (s.definitions, s.results))))))
    (λ p. record {
      types = p.0;
      terms = p.1.0;
      sequents = p.1.1.0;
      assumptions = p.1.1.1.0;
      definitions = p.1.1.1.1.0;
      results = p.1.1.1.1.1;
    })
    (λ _. refl)

abbrev pub coded_log : Coded LogView
coded_log =
    code_by (List Item × LogState Name) (coded× (coded_list coded_item) coded_state)
    (λ l. (l.items, l.state)) (λ p. record { items = p.0; state = p.1 }) (λ _. refl)

-- the number is that of a name, and of a name with a type
abbrev pub IsNamed : LogView → ℕ → Name → Type 0
IsNamed l i n = IsName l.items i n

abbrev pub IsVariable : LogView → NamedType → Variable Name → Type 0
IsVariable l x v = IsNamed l x.name v.name × (slice_get l.state.types x.ty ≡ Some v.ty)

abbrev pub IsTypePair : LogView → NamedType → Name × Ty Name → Type 0
IsTypePair l x p = IsNamed l x.name p.0 × (slice_get l.state.types x.ty ≡ Some p.1)

abbrev pub IsTermPair : LogView → TermPair → Variable Name × Tm Name → Type 0
IsTermPair l x p = IsVariable l x.variable p.0 × (slice_get l.state.terms x.term ≡ Some p.1)

abbrev pub IsConstantPair : LogView → ConstantPair → Name × Variable Name → Type 0
IsConstantPair l x p = IsNamed l x.constant p.0 × IsVariable l x.variable p.1

-- names may have been added to the table; what the records made is the same
pub record MeetsNames (old new : LogView) : Type 0 where
  pub items : Extends old.items new.items
  pub state : new.state ≡ old.state

-- the record made what it makes, or was refused; then all is as before
abbrev pub MadeBy : Result (Unit {0}) Refusal → Change names → LogState Name → LogState Name → Type 0
MadeBy (Ok u) change old new = change old ≡ Ok new
MadeBy (Err refusals.BadStep) change old new = change old ≡ Err stated.BadStep
MadeBy (Err refusals.LogNesting) change old new = change old ≡ Err stated.LogNesting
MadeBy (Err refusals.NoSuch) change old new = ⊥
MadeBy (Err (refusals.Memory memory)) change old new = Unit {0}

-- the refusal of the record that began at this line
abbrev pub refused : ℕ → Refusal → VerifyFault
refused first refusals.BadStep = verify.At first faults.BadStep
refused first refusals.LogNesting = verify.At first faults.LogNesting
refused first refusals.NoSuch = verify.At first faults.BadReference
refused first (refusals.Memory memory) = verify.Memory memory

-- what the record that began at this line answers
abbrev pub settled_at : ℕ → Result (Unit {0}) Refusal → Result (Unit {0}) VerifyFault
settled_at first (Ok u) = Ok u
settled_at first (Err e) = Err (refused first e)

-- a record was read and made what it makes, or the check stops
abbrev pub Recorded : Result (Unit {0}) VerifyFault → RecordForm names → ℕ → LogState Name → LogState Name → Rest
    → Rest → Type 0
Recorded (Ok u) f first st now old new = outcome_in first st f old ≡ check names new.last (Between now) new.tokens
Recorded (Err (verify.At line fault)) f first st now old new = outcome_in first st f old ≡ Stops line (fault_of fault)
Recorded (Err verify.ReadFault) f first st now old new = Unit {0}
Recorded (Err (verify.Memory memory)) f first st now old new = Unit {0}

-- of the bytes that were read, and any that may follow
pub record RecordedFrom (result : Result (Unit {0}) VerifyFault) (f : RecordForm names) (first : ℕ)
    (st now : LogState Name) (old new : Reader) (left left' : Option (List ℕ)) : Type 0 where
  pub tokens : ReadsTokens old new left left' (Recorded result f first st now)
