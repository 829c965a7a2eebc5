-- What the tables of a log hold.
use Rattle.std.specs.Prelude.{◌≡◌, ℕ, List, map, Result, Ok, Err}
use Rattle.std.specs.List.{All}
use Rattle.ot_logic.specs.Names.{Name}
use Rattle.ot_logic.specs.Naming.{names}
use Rattle.ot_laws.specs.Theorem.{IsTheorem}
use Rattle.ot_log_format.specs.State.{LogState, makes_sequent, makes_definition}
use Rattle.ot_log_nodes.specs.Items.{Item, HasType, HasTerm, type_at, term_at}
use Rattle.ot_log_rules.specs.Statements.{sequent_at, HasStatement}
use Rattle.ot_log_rules.specs.Accepting.{accepted_at, HasAccepted}
use Rattle.ot_log_rules.specs.declared.definition.Accepted.{Accepted}
use Rattle.ot_log_rules.specs.Symbols.{IsSignature}
use Rattle.ot_log_rules.specs.Keeping.{AreKeyed}
use Rattle.ot_log_rules.specs.declared.signature.Signature.{Signature}
use Rattle.ot_log_rules.specs.declared.kept.Kept.{Kept}
use Rattle.ot_log_nodes.specs.Typing.{AreTypings}
use Rattle.ot_log_nodes.specs.declared.table.typing.Entries.{Entries}
use Rattle.ot_log_rules.specs.declared.statement.Statement.{Statement}
use Rattle.ot_log_rules.specs.declared.statement.StepFault.{StepFault}
use Rattle.ot_log_rules.specs.declared.statement.StepFault.TheVariants as step
use Rattle.std.specs.Global.{Vec}
use Rattle.ot_logic.specs.Lists.{IsMember, AreDistinct}
use Rattle.ot_logic.specs.Trees.{Sequent, Definition, ConDef, ListDef, TyDef}
use Rattle.ot_logic.specs.Hol.{theorems, Accepted as AreAccepted, IsNext, IsSequent}
use Rattle.ot_verify.specs.Logged.{LogView, MadeBy}
use Rattle.ot_verify.specs.declared.log.Refusal.{Refusal}
use Rattle.ot_verify.specs.declared.log.Refusal.TheVariants as refusals

-- types, terms and sequents by number; assumptions, definitions and results
pub record Held : Type 0 where
  pub types : List ℕ
  pub terms : List ℕ
  pub sequents : List Statement
  pub assumptions : List Statement
  pub definitions : List Accepted
  pub results : List Statement

-- what they stand for
abbrev pub state_of : List Item → Held → LogState Name
state_of ts h = record {
  types = map (type_at ts) h.types;
  terms = map (term_at ts) h.terms;
  sequents = map (sequent_at ts) h.sequents;
  assumptions = map (sequent_at ts) h.assumptions;
  definitions = map (accepted_at ts) h.definitions;
  results = map (sequent_at ts) h.results;
}

abbrev pub view_of : List Item → Held → LogView
view_of ts h = record { items = ts; state = state_of ts h }

-- all that was made is proved
pub record IsSound (st : LogState Name) : Type 0 where
  pub sequents : (q : Sequent Name) → IsMember q st.sequents → IsTheorem names st.assumptions st.definitions q
  pub assumptions : (q : Sequent Name) → IsMember q st.assumptions → IsSequent names q × AreDistinct q.hyps
  pub accepted : AreAccepted names st.assumptions st.definitions
  pub results : (q : Sequent Name) → IsMember q st.results → IsTheorem names st.assumptions st.definitions q

-- the premise of a definition is a sequent
abbrev pub HasPremise : Definition Name → Type 0
HasPremise (ConDef n t) = Unit {0}
HasPremise (ListDef ps q) = IsSequent names q
HasPremise (TyDef n abs rep vs q) = IsSequent names q

-- a definition that may be next, of a premise that is a sequent
pub record IsAcceptable (al : List (Sequent Name)) (dl : List (Definition Name)) (d : Definition Name) : Type 0 where
  pub next : IsNext names al dl d
  pub premise : HasPremise d

-- the numbers are of the table, and all that was made is proved
pub record IsLog (ts : List Item) (h : Held) : Type 0 where
  pub types : All (HasType ts) h.types
  pub terms : All (HasTerm ts) h.terms
  pub sequents : All (HasStatement ts) h.sequents
  pub assumptions : All (HasStatement ts) h.assumptions
  pub definitions : All (HasAccepted ts) h.definitions
  pub results : All (HasStatement ts) h.results
  pub sound : IsSound (state_of ts h)

-- and what is kept beside: types of terms, the symbols of the definitions, keys of assumptions and results
pub record IsWhole (ts : List Item) (h : Held) (es : Entries) (s : Signature)
    (al ql : Kept) : Type 0 where
  pub log : IsLog ts h
  pub typings : AreTypings ts es
  pub signature : IsSignature ts (map (accepted_at ts) h.definitions) s
  pub assumptions : AreKeyed al
  pub results : AreKeyed ql

-- a sequent that was made is of the table, and follows
abbrev pub Supports : LogView → Result Statement StepFault → Type 0
Supports l (Ok q) = HasStatement l.items q × IsTheorem names l.state.assumptions l.state.definitions
    (sequent_at l.items q)
Supports l (Err e) = Unit {0}

-- the refusal of a step
abbrev pub of_step : StepFault → Refusal
of_step step.BadStep = refusals.BadStep
of_step (step.Memory memory) = refusals.Memory memory

-- the sequent was added, within the limit; a refusal stays
abbrev pub AddsSequent : Result (Unit {0}) Refusal → Result Statement StepFault → LogView → LogView → Type 0
AddsSequent result (Ok q) old new = MadeBy result (makes_sequent names (Ok (sequent_at old.items q))) old.state
    new.state
AddsSequent result (Err e) old new = result ≡ Err (of_step e)

-- the theorems of a definition that may be next
abbrev pub Establishes : LogView → Definition Name → Result (Vec Statement) StepFault → Type 0
Establishes l d (Ok v) =
    All (HasStatement l.items) v.items × (map (sequent_at l.items) v.items ≡ theorems names d)
    × IsAcceptable l.state.assumptions l.state.definitions d
Establishes l d (Err e) = Unit {0}

-- the definition was added with its theorems, within the limit; a refusal stays
abbrev pub AddsDefinition : Result (Unit {0}) Refusal → Definition Name → Result (Vec Statement) StepFault → LogView
    → LogView
    → Type 0
AddsDefinition result d (Ok v) old new = MadeBy result (makes_definition names (λ dl. Ok d)) old.state new.state
AddsDefinition result d (Err e) old new = result ≡ Err (of_step e)
