-- The commands that run an input and print a part of its result: `check`, `info`, `link`, `minimise` and `prove`.
use Rattle.std.specs.Fmt.{decimal}
use Rattle.ot_logic.specs.Limits.{article_limit, summary_limit, written_limit}
use Rattle.std.specs.List.{concat, All}
use Rattle.std.specs.Prelude.{ℕ, List, [], ◌∷◌, Bool, true, length, codes, nat_le, ◌≡◌}
use Rattle.ot_args.specs.declared.sections.Sections.{Sections}
use Rattle.ot_link.specs.Blocks.{Ran}
use Rattle.ot_link.specs.Stops.{Stop}
use Rattle.ot_minimise.specs.Minimised.{minimised, IsMinimised}
use Rattle.ot_print.specs.Texts.{summary_text}
use Rattle.ot_log_law.specs.Checked.{run_log, IsLogOf}
use Rattle.ot_uses.specs.Suffices.{IsSupported}
use Rattle.ot_uses.specs.Texts.{uses_text}
use Rattle.ot_uses.specs.Used.{support_of}
use Rattle.ot_program.specs.Command.{run_lists, LeavesOther, LastInput, IsInputPath, Command}
use Rattle.ot_program.specs.Runs.{run_at, opened_at, assumptions_of, definitions_of, exports_of, stop_status}
use Rattle.ot_program.specs.Runs.{IsInputStop}
use Rattle.ot_program.specs.World.{is_standard}
use Rattle.ot_program.specs.Texts.{stop_line, large_line, large_article_line, large_log_line}
use Rattle.ot_program.specs.declared.task.View.{View}
use Rattle.ot_program.specs.declared.task.View.TheVariants.{Counts, Summary, Uses, Article, Log}

-- ---- what is printed of a run

-- how many theorems, assumptions and definitions there are
abbrev pub line_of_counts : ℕ → ℕ → ℕ → List ℕ
line_of_counts theorems assumptions definitions =
    concat (codes "accepted: " ∷ decimal theorems ∷ codes " theorems, " ∷ decimal assumptions ∷ codes " assumptions, "
    ∷ decimal definitions ∷ codes " definitions\n" ∷ [])

-- the counts of a run's exports, assumptions and definitions
abbrev pub count_line : Ran → List ℕ
count_line r = line_of_counts (length r.exports) (length r.run.assumptions) (length r.run.definitions)

-- the sections of a run's summary
abbrev pub summary : Sections → Ran → List ℕ
summary sections r = summary_text sections (assumptions_of r) (definitions_of r) (exports_of r)

-- what each of its theorems rests on
abbrev pub uses : Ran → List ℕ
uses r = uses_text r.run r.exports

-- the written article of its exports
abbrev pub article_text : Ran → List ℕ
article_text r = minimised r.run r.exports

abbrev pub article_fits : Ran → Bool
article_fits r = nat_le (length (article_text r)) written_limit

-- the proof log of its exports
abbrev pub log_text : Ran → List ℕ
log_text r = run_log r.run r.exports

abbrev pub log_fits : Ran → Bool
log_fits r = nat_le (length (log_text r)) written_limit

-- the part that is printed of a run
abbrev pub run_text : View → Ran → List ℕ
run_text Counts r = count_line r
run_text (Summary sections) r = summary sections r
run_text Uses r = uses r
run_text Article r = article_text r
run_text Log r = log_text r

-- whether it is within the limit, which all but the counts have
abbrev pub run_fits : View → Ran → Bool
run_fits Counts r = true
run_fits (Summary sections) r = nat_le (length (summary sections r)) summary_limit
run_fits Uses r = nat_le (length (uses r)) summary_limit
run_fits Article r = article_fits r
run_fits Log r = log_fits r

-- the line that says that it is past the limit
abbrev pub view_large : View → List ℕ → List ℕ
view_large Counts path = large_line path
view_large (Summary sections) path = large_line path
view_large Uses path = large_line path
view_large Article path = large_article_line path
view_large Log path = large_log_line path

-- ---- what is promised of it

-- the written article of a run is an article of its exports among its definitions: run alone it exports the same,
-- with the needed definitions and assumptions alone, and is lean
abbrev pub IsRewritten : Ran → Type 0
IsRewritten r = IsMinimised written_limit r.run r.exports (article_text r)

-- the check of the proof log of a run ends: with its exports as results, with the definitions that they need in their
-- order, and with the assumptions that they need
abbrev pub IsLogged : Ran → Type 0
IsLogged r = IsLogOf article_limit r.run r.exports (log_text r)

-- each theorem is derivable from what it rests on alone
abbrev pub AreSupported : Ran → Type 0
AreSupported r = All (λ e. IsSupported (support_of r.run e)) r.exports

-- what a view, and what a task, promises of the run besides
abbrev pub IsPromisedIn : View → Ran → Type 0
IsPromisedIn Counts r = Unit {0}
IsPromisedIn (Summary sections) r = Unit {0}
IsPromisedIn Uses r = AreSupported r
IsPromisedIn Article r = IsRewritten r
IsPromisedIn Log r = IsLogged r

-- ---- the command

abbrev pub run_input : (packages path : List ℕ) → View → Command
run_input packages path view = record {
  Product = Ran;
  Halt = Stop;
  result = λ world. (run_at packages path world).answer;
  text = run_text view;
  fits = run_fits view;
  large = view_large view path;
  lists = run_lists;
  IsPromised = IsPromisedIn view;
  status = stop_status;
  line = stop_line;
  IsOwn = IsInputStop path;
  IsFailed = IsInputPath path (opened_at packages path);
  AsksNoFile = is_standard path ≡ true;
  Leaves = LeavesOther path;
  Last = LastInput path;
}
