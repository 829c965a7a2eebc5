-- The commands `sample N` and `sample --article N`.
use Rattle.std.specs.Fmt.{decimal}
use Rattle.std.specs.List.{concat}
use Rattle.std.specs.Prelude.{ℕ, List, [], ◌∷◌, ◌++◌, true, ◌==◌, count_by, length, codes, Ok}
use Rattle.ot_link.specs.Blocks.{Ran, article_end}
use Rattle.ot_link.specs.Stops.{Stop}
use Rattle.ot_minimise.specs.Minimised.{minimised}
use Rattle.ot_sample.specs.Sample.{sample}
use Rattle.ot_program.specs.Command.{run_lists, LeavesBoth, IsInputPath, Command}
use Rattle.ot_program.specs.RunInput.{article_text, article_fits, IsRewritten}
use Rattle.ot_program.specs.Runs.{outcome, stop_status, IsOwnStop}
use Rattle.ot_program.specs.Texts.{stop_line, large_article_line}
use Rattle.ot_program.specs.declared.status.Status.TheVariants.{Refused}

-- what stands for the path of a sample
abbrev pub sample_path : List ℕ
sample_path = codes "sample"

-- ---- what is printed of a sample's run

-- how many lines a text has, each with its newline
abbrev pub line_count : List ℕ → ℕ
line_count = count_by (λ b. b == 10)

-- the result of a sample's run: its size, the lines of its article, and its theorems; then its assumptions, its
-- definitions and the lines of its written article
abbrev pub sample_front : (size lines theorems : ℕ) → List ℕ
sample_front size lines theorems =
    concat
    (codes "sample " ∷ decimal size ∷ codes ": " ∷ decimal lines ∷ codes " lines, " ∷ decimal theorems
    ∷ codes " theorems, " ∷ [])

abbrev pub sample_back : (assumptions definitions minimised : ℕ) → List ℕ
sample_back assumptions definitions minimised =
    concat (decimal assumptions ∷ codes " assumptions, " ∷ decimal definitions ∷ codes " definitions; minimised "
    ∷ decimal minimised ∷ codes " lines\n" ∷ [])

abbrev pub sample_line : ℕ → Ran → List ℕ
sample_line n r =
    sample_front n (line_count (sample n)) (length r.exports)
    ++ sample_back (length r.run.assumptions) (length r.run.definitions) (line_count (article_text r))

-- ---- the commands

-- a sample is run: nothing is read, and no path fails
abbrev pub run_sample : ℕ → Command
run_sample n = record {
  Product = Ran;
  Halt = Stop;
  result = λ world. article_end sample_path (outcome (sample n));
  text = sample_line n;
  fits = article_fits;
  large = large_article_line sample_path;
  lists = run_lists;
  IsPromised = IsRewritten;
  status = stop_status;
  line = stop_line;
  IsOwn = IsOwnStop sample_path;
  IsFailed = IsInputPath sample_path (λ folder. []);
  AsksNoFile = Unit {0};
  Leaves = LeavesBoth;
  Last = λ folder at. Unit {0};
}

-- a sample is printed
abbrev pub make_sample : ℕ → Command
make_sample n = record {
  Product = Unit {0};
  Halt = ⊥;
  result = λ world. Ok tt;
  text = λ made. sample n;
  fits = λ made. true;
  large = large_article_line sample_path;
  lists = λ made. record { assumptions = []; definitions = []; theorems = [] };
  IsPromised = λ made. Unit {0};
  status = λ none. Refused;
  line = λ none. [];
  IsOwn = λ none. Unit {0};
  IsFailed = IsInputPath sample_path (λ folder. []);
  AsksNoFile = Unit {0};
  Leaves = LeavesBoth;
  Last = λ folder at. Unit {0};
}
