-- A log whose tokens are read back: records of definitions.
use Rattle.std.specs.Prelude.{slice_get}
use Rattle.std.specs.List.{flat_map, list_all}
use Rattle.std.specs.Option.{option_and_then}
use Rattle.std.proofs.Common.{◌≡◌, ℕ, ◌+◌, true, List, [], ◌∷◌, ◌++◌, map, length}
use Rattle.std.proofs.Common.{Some, Result, Ok, refl, ap, ◌∙◌, length-append}
use Rattle.ot_logic.specs.Names.{Name}
use Rattle.ot_logic.specs.Naming.{names}
use Rattle.ot_logic.specs.Trees.{Variable, Tm, Sequent, Definition}
use Rattle.ot_logic.specs.Hol.{theorems}
use Rattle.ot_logic.specs.Answers.{◌>>=◌, unless}
use Rattle.ot_log_format.specs.declared.word.RecordWord.TheVariants as words
use Rattle.ot_log_format.specs.Tokens.{LogFault, LogNesting}
use Rattle.ot_log_format.specs.Steps.{is_sequent_within, constant_step, constants_step, type_operator_step}
use Rattle.ot_log_format.specs.State.{LogState, makes_definition}
use Rattle.ot_log_format.specs.Records.{RecordForm, AskName, ask_each, ask_constant_pair}
use Rattle.ot_log_records.specs.Entries.{Operand, Count, AName, AType, ATerm, ASequent, Entry, nodes_before}
use Rattle.ot_log_records.specs.Logged.{Log, write_entry}
use Rattle.ot_log_records.proofs.Feeding.{feed}
use Rattle.ot_log_records.proofs.Standing.{Stands, AreWithin, operands-stand, entry-takes}
use Rattle.ot_log_records.proofs.Sequents.{Feeds}

-- a log with so many sequents more
abbrev pub with_theorems : Log → ℕ → Log
with_theorems x k = record x { sequents = x.sequents + k }

-- the log with the record, and with the definition's theorems, stands for one definition more
pub record MakesDefinition (x : Log) (st : LogState Name) (e : Entry) (d : Definition Name) : Type 0 where
  pub now : LogState Name
  pub stands : Stands (with_theorems (write_entry e x) (length (theorems names d))) now
  pub sequents : now.sequents ≡ st.sequents ++ theorems names d
  pub definitions : now.definitions ≡ st.definitions ++ d ∷ []
  pub assumptions : now.assumptions ≡ st.assumptions
  pub results : now.results ≡ st.results

pub definition-stands : (x : Log) (st : LogState Name) (e : Entry)
    (step : List (Definition Name) → Result (Definition Name) LogFault) (d : Definition Name)
    → Stands x st → AreWithin (nodes_before e)
    → Feeds st e (makes_definition names step) → step st.definitions ≡ Ok d
    → list_all (is_sequent_within names) (theorems names d) ≡ true → MakesDefinition x st e d
definition-stands x st e step d stand w f k v =
    let (mid, before, same) = operands-stand e.operands x st w stand in
    let now : LogState Name =
    record mid { sequents = mid.sequents ++ theorems names d; definitions = mid.definitions ++ d ∷ [] } in
    let stepped : step mid.definitions ≡ Ok d = ap step same.definitions ∙ k in
    let made : makes_definition names step mid ≡ Ok now =
    ap (λ r. r
    >>= λ z. unless LogNesting (list_all (is_sequent_within names) (theorems names z))
    >>= λ _. Ok (record mid { sequents = mid.sequents ++ theorems names z; definitions = mid.definitions ++ z ∷ [] }))
    stepped
    ∙ ap (λ b. unless LogNesting b >>= λ _. Ok now) v in
    let t = entry-takes e x mid now (makes_definition names step) before (f mid same.sequents) made in
    record {
      now = now;
      stands = record {
        body = t.body;
        tokens = t.tokens;
        reads = t.reads;
        types = before.types;
        terms = before.terms;
        sequents = length-append mid.sequents (theorems names d)
            ∙ ap (λ z. z + length (theorems names d)) before.sequents;
      };
      sequents = ap (λ z. z ++ theorems names d) same.sequents;
      definitions = ap (λ z. z ++ d ∷ []) same.definitions;
      assumptions = same.assumptions;
      results = same.results;
    }

-- ---- what each record asks for

here : (st mid : LogState Name) (i : ℕ) (q : Sequent Name) → mid.sequents ≡ st.sequents → slice_get st.sequents i
    ≡ Some q
    → slice_get mid.sequents i ≡ Some q
here st mid i q e h = ap (λ z. slice_get z i) e ∙ h

pub constant-feeds : (st : LogState Name) (n : Name) (t : Tm Name)
    → Feeds st (record { word = words.Constant; operands = AName n ∷ ATerm t ∷ [] })
    (makes_definition names (λ dl. constant_step names dl n t))
constant-feeds st n t = λ mid e. refl

abbrev pair_operands : Name × Variable Name → List Operand
pair_operands p = AName p.0 ∷ AName p.1.name ∷ AType p.1.ty ∷ []

feed-pairs : (st : LogState Name) (ps : List (Name × Variable Name))
    (os : List Operand) (next : List (Name × Variable Name) → RecordForm names)
    → feed st (flat_map pair_operands ps ++ os) (ask_each ask_constant_pair (length ps) next) ≡ feed st os (next ps)
feed-pairs st [] os next = refl
feed-pairs st (p ∷ ps) os next = feed-pairs st ps os (λ us. next (p ∷ us))

feed-names : (st : LogState Name) (ns : List Name) (os : List Operand) (next : List Name → RecordForm names)
    → feed st (map AName ns ++ os) (ask_each AskName (length ns) next) ≡ feed st os (next ns)
feed-names st [] os next = refl
feed-names st (n ∷ ns) os next = feed-names st ns os (λ us. next (n ∷ us))

pub constants-feeds : (st : LogState Name) (ps : List (Name × Variable Name)) (i : ℕ) (q : Sequent Name)
    → slice_get st.sequents i ≡ Some q
    → Feeds st
    (record {
      word = words.Constants;
      operands = Count (length ps)
          ∷ (flat_map pair_operands ps ++ ASequent i ∷ []);
    })
    (makes_definition names (λ dl. constants_step names dl ps q))
constants-feeds st ps i q h = λ mid e.
    feed-pairs mid ps (ASequent i ∷ []) _
    ∙ ap (λ o. option_and_then (λ a. Some (makes_definition names (λ dl. constants_step names dl ps a))) o)
    (here st mid i q e h)

pub type_operator-feeds : (st : LogState Name) (n abs rep : Name) (vars : List Name) (i : ℕ) (q : Sequent Name)
    → slice_get st.sequents i ≡ Some q
    → Feeds st (record {
      word = words.TypeOperator;
      operands = AName n ∷ AName abs ∷ AName rep ∷ Count (length vars) ∷ (map AName vars ++ ASequent i ∷ []);
    }) (makes_definition names (λ dl. type_operator_step names dl n abs rep vars q))
type_operator-feeds st n abs rep vars i q h = λ mid e.
    feed-names mid vars (ASequent i ∷ []) _
    ∙ ap (λ o. option_and_then
    (λ a. Some (makes_definition names (λ dl. type_operator_step names dl n abs rep vars a))) o)
    (here st mid i q e h)
