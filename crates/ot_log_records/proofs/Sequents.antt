-- A log whose tokens are read back: records that make sequents.
use Rattle.std.specs.Prelude.{slice_get}
use Rattle.std.specs.List.{flat_map}
use Rattle.std.specs.Option.{option_and_then}
use Rattle.std.proofs.Common.{◌≡◌, ℕ, suc, ◌+◌, true, List, [], ◌∷◌, ◌++◌, map}
use Rattle.std.proofs.Common.{length, Some, Ok, refl, ap, ◌∙◌, arith, length-append}
use Rattle.ot_logic.specs.Names.{Name}
use Rattle.ot_logic.specs.Naming.{names}
use Rattle.ot_logic.specs.Trees.{Variable, Tm, Sequent}
use Rattle.ot_logic.specs.Hol.{TypeMap, TermMap}
use Rattle.ot_logic.specs.Answers.{◌>>=◌, unless}
use Rattle.ot_log_format.specs.declared.word.RecordWord.TheVariants as words
use Rattle.ot_log_format.specs.Tokens.{LogNesting}
use Rattle.ot_log_format.specs.Steps.{Step, is_sequent_within, refl_step, assume_step, eq_mp_step, abs_thm_step}
use Rattle.ot_log_format.specs.Steps.{app_thm_step, deduct_antisym_step, beta_step, subst_step, assumption_step}
use Rattle.ot_log_format.specs.State.{LogState, Change, kept_once, makes_sequent, makes_assumption}
use Rattle.ot_log_format.specs.Records.{RecordForm, Makes, AskTerm, ask_each}
use Rattle.ot_log_format.specs.Records.{ask_list, ask_type_pair, ask_term_pair, form}
use Rattle.ot_log_records.specs.Entries.{Operand, Count, ATerm, Entry, nodes_before}
use Rattle.ot_log_records.specs.Expansions.{of_term, of_two, abs_thm_entry, type_pair}
use Rattle.ot_log_records.specs.Expansions.{term_pair, subst_entry, by_text, assumption_entry}
use Rattle.ot_log_records.specs.Logged.{Log, write_entry, count_sequent}
use Rattle.ot_log_records.proofs.Feeding.{feed}
use Rattle.ot_log_records.proofs.Standing.{Stands, AreWithin, operands-stand, entry-takes}

-- ---- a record that makes a sequent

-- the log with the record stands for one sequent more, and these assumptions
pub record MakesOne (x : Log) (st : LogState Name) (e : Entry) (s : Sequent Name)
    (assumed : List (Sequent Name)) : Type 0 where
  pub now : LogState Name
  pub stands : Stands (count_sequent (write_entry e x)) now
  pub sequents : now.sequents ≡ st.sequents ++ s ∷ []
  pub assumptions : now.assumptions ≡ assumed
  pub definitions : now.definitions ≡ st.definitions
  pub results : now.results ≡ st.results

-- what a record makes of each state with these sequents
abbrev pub Feeds : LogState Name → Entry → Change names → Type 0
Feeds st e c = (mid : LogState Name) → mid.sequents ≡ st.sequents → feed mid e.operands (form names e.word) ≡ Some c

counted : (xs : List (Sequent Name)) (s : Sequent Name) (k : ℕ) → length xs ≡ k → length (xs ++ s ∷ []) ≡ suc k
counted xs s k h = length-append xs (s ∷ []) ∙ ap (λ z. z + 1) h ∙ more
  where
    more : k + 1 ≡ suc k
    more = omega arith

pub sequent-stands : (x : Log) (st : LogState Name) (e : Entry) (step : Step names) (s : Sequent Name) → Stands x st
    → AreWithin (nodes_before e) → Feeds st e (makes_sequent names step) → step ≡ Ok s → is_sequent_within names s
    ≡ true
    → MakesOne x st e s st.assumptions
sequent-stands x st e step s stand w f k v =
    let (mid, before, same) = operands-stand e.operands x st w stand in
    let now : LogState Name = record mid { sequents = mid.sequents ++ s ∷ [] } in
    let made : makes_sequent names step mid ≡ Ok now =
    ap
    (λ r. r >>= λ q. unless LogNesting (is_sequent_within names q)
    >>= λ _. Ok (record mid { sequents = mid.sequents ++ q ∷ [] }))
    k
    ∙ ap (λ b. unless LogNesting b >>= λ _. Ok now) v in
    let t = entry-takes e x mid now (makes_sequent names step) before (f mid same.sequents) made in
    record {
      now = now;
      stands = record {
        body = t.body;
        tokens = t.tokens;
        reads = t.reads;
        types = before.types;
        terms = before.terms;
        sequents = counted mid.sequents s _ before.sequents;
      };
      sequents = ap (λ z. z ++ s ∷ []) same.sequents;
      assumptions = same.assumptions;
      definitions = same.definitions;
      results = same.results;
    }

pub assumption-stands : (x : Log) (st : LogState Name) (e : Entry) (step : Step names) (s : Sequent Name)
    → Stands x st
    → AreWithin (nodes_before e) → Feeds st e (makes_assumption names step) → step ≡ Ok s → is_sequent_within names s
    ≡ true
    → MakesOne x st e s (kept_once names st.assumptions s)
assumption-stands x st e step s stand w f k v =
    let (mid, before, same) = operands-stand e.operands x st w stand in
    let now : LogState Name =
    record mid { sequents = mid.sequents ++ s ∷ []; assumptions = kept_once names mid.assumptions s } in
    let made : makes_assumption names step mid ≡ Ok now =
    ap (λ r. r
    >>= λ q. unless LogNesting (is_sequent_within names q)
    >>= λ _. Ok (record mid { sequents = mid.sequents ++ q ∷ []; assumptions = kept_once names mid.assumptions q }))
    k
    ∙ ap (λ b. unless LogNesting b >>= λ _. Ok now) v in
    let t = entry-takes e x mid now (makes_assumption names step) before (f mid same.sequents) made in
    record {
      now = now;
      stands = record {
        body = t.body;
        tokens = t.tokens;
        reads = t.reads;
        types = before.types;
        terms = before.terms;
        sequents = counted mid.sequents s _ before.sequents;
      };
      sequents = ap (λ z. z ++ s ∷ []) same.sequents;
      assumptions = ap (λ z. kept_once names z s) same.assumptions;
      definitions = same.definitions;
      results = same.results;
    }

-- ---- what each record asks for

here : (st mid : LogState Name) (i : ℕ) (q : Sequent Name) → mid.sequents ≡ st.sequents → slice_get st.sequents i
    ≡ Some q
    → slice_get mid.sequents i ≡ Some q
here st mid i q e h = ap (λ z. slice_get z i) e ∙ h

pub refl-feeds : (st : LogState Name) (t : Tm Name)
    → Feeds st (of_term words.Refl t) (makes_sequent names (refl_step names t))
refl-feeds st t = λ mid e. refl

pub assume-feeds : (st : LogState Name) (t : Tm Name)
    → Feeds st (of_term words.Assume t) (makes_sequent names (assume_step names t))
assume-feeds st t = λ mid e. refl

pub beta-feeds : (st : LogState Name) (t : Tm Name)
    → Feeds st (of_term words.BetaConv t) (makes_sequent names (beta_step names t))
beta-feeds st t = λ mid e. refl

-- of two earlier sequents
two-feed : (st mid : LogState Name) (i j : ℕ) (q r : Sequent Name) (step : Sequent Name → Sequent Name → Step names)
    → mid.sequents ≡ st.sequents → slice_get st.sequents i ≡ Some q → slice_get st.sequents j ≡ Some r
    → option_and_then (λ a. option_and_then (λ b. Some (makes_sequent names (step a b))) (slice_get mid.sequents j))
    (slice_get mid.sequents i) ≡ Some (makes_sequent names (step q r))
two-feed st mid i j q r step e h k =
    ap (λ o. option_and_then
    (λ a. option_and_then (λ b. Some (makes_sequent names (step a b))) (slice_get mid.sequents j)) o)
    (here st mid i q e h)
    ∙ ap (λ o. option_and_then (λ b. Some (makes_sequent names (step q b))) o) (here st mid j r e k)

pub eq_mp-feeds : (st : LogState Name) (i j : ℕ) (q r : Sequent Name) → slice_get st.sequents i ≡ Some q
    → slice_get st.sequents j ≡ Some r → Feeds st (of_two words.EqMp i j) (makes_sequent names (eq_mp_step names q r))
eq_mp-feeds st i j q r h k = λ mid e. two-feed st mid i j q r (eq_mp_step names) e h k

pub app_thm-feeds : (st : LogState Name) (i j : ℕ) (q r : Sequent Name) → slice_get st.sequents i ≡ Some q
    → slice_get st.sequents j ≡ Some r
    → Feeds st (of_two words.AppThm i j) (makes_sequent names (app_thm_step names q r))
app_thm-feeds st i j q r h k = λ mid e. two-feed st mid i j q r (app_thm_step names) e h k

pub deduct_antisym-feeds : (st : LogState Name) (i j : ℕ) (q r : Sequent Name) → slice_get st.sequents i ≡ Some q
    → slice_get st.sequents j ≡ Some r
    → Feeds st (of_two words.DeductAntisym i j) (makes_sequent names (deduct_antisym_step names q r))
deduct_antisym-feeds st i j q r h k = λ mid e. two-feed st mid i j q r (deduct_antisym_step names) e h k

pub abs_thm-feeds : (st : LogState Name) (v : Variable Name) (i : ℕ) (q : Sequent Name) → slice_get st.sequents i
    ≡ Some q
    → Feeds st (abs_thm_entry v i) (makes_sequent names (abs_thm_step names v q))
abs_thm-feeds st v i q h =
    λ mid e. ap (λ o. option_and_then (λ a. Some (makes_sequent names (abs_thm_step names v a))) o)
    (here st mid i q e h)

-- lists
pub feed-terms : (st : LogState Name) (ts : List (Tm Name)) (next : List (Tm Name) → RecordForm names)
    → feed st (map ATerm ts) (ask_each AskTerm (length ts) next) ≡ feed st [] (next ts)
feed-terms st [] next = refl
feed-terms st (t ∷ ts) next = feed-terms st ts (λ us. next (t ∷ us))

pub feed-type_pairs : (st : LogState Name) (s : TypeMap names) (os : List Operand)
    (next : TypeMap names → RecordForm names)
    → feed st (flat_map type_pair s ++ os) (ask_each ask_type_pair (length s) next) ≡ feed st os (next s)
feed-type_pairs st [] os next = refl
feed-type_pairs st (p ∷ s) os next = feed-type_pairs st s os (λ us. next (p ∷ us))

pub feed-term_pairs : (st : LogState Name) (m : TermMap names) (next : TermMap names → RecordForm names)
    → feed st (flat_map term_pair m) (ask_each ask_term_pair (length m) next) ≡ feed st [] (next m)
feed-term_pairs st [] next = refl
feed-term_pairs st (p ∷ m) next = feed-term_pairs st m (λ us. next (p ∷ us))

pub assumption-feeds : (st : LogState Name) (hyps : List (Tm Name)) (p : Tm Name)
    → Feeds st (assumption_entry hyps p) (makes_assumption names (assumption_step names (by_text hyps) p))
assumption-feeds st hyps p =
    λ mid e. feed-terms mid (by_text hyps) (λ hs. Makes (makes_assumption names (assumption_step names hs p)))

pub subst-feeds : (st : LogState Name) (s : TypeMap names) (m : TermMap names) (i : ℕ) (q : Sequent Name)
    → slice_get st.sequents i ≡ Some q → Feeds st (subst_entry s m i) (makes_sequent names (subst_step names s m q))
subst-feeds st s m i q h = λ mid e.
    let rest : List Operand = Count (length m) ∷ flat_map term_pair m in
    let next : Sequent Name → TypeMap names → RecordForm names =
    λ a u. ask_list ask_term_pair (λ z. Makes (makes_sequent names (subst_step names u z a))) in
    ap (λ o. option_and_then
    (λ a. feed mid (flat_map type_pair s ++ rest) (ask_each ask_type_pair (length s) (next a))) o)
    (here st mid i q e h)
    ∙ feed-type_pairs mid s rest (next q)
    ∙ feed-term_pairs mid m (λ z. Makes (makes_sequent names (subst_step names s z q)))
