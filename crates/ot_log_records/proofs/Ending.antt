-- A log whose tokens are read back: its header, its definitions and results, and its end.
use Rattle.std.specs.Prelude.{slice_get}
use Rattle.std.specs.Option.{option_and_then}
use Rattle.std.proofs.Common.{◌≡◌, ℕ, [], ◌∷◌, Some, refl, ap, ◌∙◌}
use Rattle.ot_logic.specs.Names.{Name}
use Rattle.ot_logic.specs.Naming.{names}
use Rattle.ot_logic.specs.Trees.{Sequent}
use Rattle.ot_log_format.specs.declared.word.RecordWord.TheVariants as words
use Rattle.ot_log_format.specs.Tokens.{NoMore}
use Rattle.ot_log_format.specs.State.{LogState, nothing_made, kept_once, makes_result}
use Rattle.ot_log_format.specs.Check.{Ends, check_log}
use Rattle.ot_log_records.specs.Entries.{Entry, ASequent}
use Rattle.ot_log_records.specs.Logged.{Log, header, write_entry}
use Rattle.ot_log_records.proofs.Reading.{lined}
use Rattle.ot_log_records.proofs.Standing.{Stands, entry-takes}

-- the header stands for nothing
pub header-stands : Stands header nothing_made
header-stands =
    record { body = []; tokens = refl; reads = λ line rest. refl; types = refl; terms = refl; sequents = refl }

-- the check of a log's tokens, one on a line, ends with what it stands for
pub stands-ends : (x : Log) (st : LogState Name) → Stands x st → check_log names (lined names 0 x.tokens NoMore)
    ≡ Ends st
stands-ends x st s = ap (λ ts. check_log names (lined names 0 ts NoMore)) s.tokens ∙ s.reads 2 NoMore

-- the record of a result
abbrev pub result_of : ℕ → Entry
result_of i = record { word = words.Result; operands = ASequent i ∷ [] }

pub record MakesResult (x : Log) (st : LogState Name) (i : ℕ) (q : Sequent Name) : Type 0 where
  pub now : LogState Name
  pub stands : Stands (write_entry (result_of i) x) now
  pub results : now.results ≡ kept_once names st.results q
  pub sequents : now.sequents ≡ st.sequents
  pub assumptions : now.assumptions ≡ st.assumptions
  pub definitions : now.definitions ≡ st.definitions

pub result-stands : (x : Log) (st : LogState Name) (i : ℕ) (q : Sequent Name) → Stands x st → slice_get st.sequents i
    ≡ Some q
    → MakesResult x st i q
result-stands x st i q s h =
    let now : LogState Name = record st { results = kept_once names st.results q } in
    let t = entry-takes (result_of i) x st now (makes_result names q) s
    (ap (λ o. option_and_then (λ a. Some (makes_result names a)) o) h) refl in
    record {
      now = now;
      stands = record {
        body = t.body;
        tokens = t.tokens;
        reads = t.reads;
        types = s.types;
        terms = s.terms;
        sequents = s.sequents;
      };
      results = refl;
      sequents = refl;
      assumptions = refl;
      definitions = refl;
    }
