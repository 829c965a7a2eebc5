-- The command `find`.
use Rattle.std.specs.List.{All}
use Rattle.std.specs.Prelude.{ℕ, List, [], ◌∷◌, ◌++◌, true, length, map, codes, nat_le, Result, Ok}
use Rattle.std.specs.Prelude.{if◌then◌else◌, ◌≡◌, ◌<◌, ◌-◌, ◌⊎◌, false}
use Rattle.ot_args.specs.Grammar.{is_theory}
use Rattle.ot_blocks.specs.Paths.{package_path}
use Rattle.ot_find.specs.Matches.{Source, Found, matches, AreMatches, exports_of as all_exports}
use Rattle.ot_find.specs.Texts.{find_text}
use Rattle.ot_forms.specs.Refusals.{ReadsAsTerm, IsTermRefused}
use Rattle.ot_forms.specs.Words.{IsNotation}
use Rattle.ot_io.specs.Folder.{Folder}
use Rattle.ot_link.specs.Blocks.{Ran}
use Rattle.ot_link.specs.Stops.{Stop}
use Rattle.ot_logic.specs.Answers.{◌>>=◌}
use Rattle.ot_logic.specs.Lists.{IsMember}
use Rattle.ot_logic.specs.Names.{Name}
use Rattle.ot_logic.specs.Trees.{Tm, Symbol}
use Rattle.ot_logic.specs.Limits.{summary_limit}
use Rattle.ot_read.specs.Lines.{RefusedLine, at_line, term_read}
use Rattle.ot_repo.specs.Laws.{IsWalked}
use Rattle.ot_repo.specs.Required.{Refusal, Missing as NotThere, required}
use Rattle.ot_program.specs.Command.{run_lists, IsProved, LeavesOther, LastInput, IsInputPath, HasNoStop, Command}
use Rattle.ot_program.specs.Runs.{limits, theory_run, exports_of, Noted, theory_shown, noted, noted_at, opened_noted}
use Rattle.ot_program.specs.Runs.{notation, stop_status, stops_as, IsInputStop}
use Rattle.ot_program.specs.Texts.{stop_line, required_line, column_line, large_line}
use Rattle.ot_program.specs.World.{World, Every, is_standard}
use Rattle.ot_program.specs.declared.status.Status.{Status}
use Rattle.ot_program.specs.declared.status.Status.TheVariants.{Refused, NoFile}

-- a required package by its full name, run alone
pub record PackageRun : Type 0 where
  pub name : List ℕ
  pub ran : Ran

-- what is searched: the run of the input with its notation, the term that the pattern stands for under it, and the
-- runs of the required packages
pub record Searched : Type 0 where
  pub noted : Noted
  pub pattern : Tm Name
  pub packages : List PackageRun

-- why nothing is: what the input requires is refused; a run stops; or the pattern is refused
pub data FindStop : Type 0 where
  InRequired : Refusal → FindStop
  InRun : Stop → FindStop
  InPattern : RefusedLine → FindStop

-- the runs of packages, one after another, each alone
abbrev pub package_runs : List ℕ → Folder → List (List ℕ) → Result (List PackageRun) Stop
package_runs packages folder [] = Ok []
package_runs packages folder (full ∷ fulls) =
    (theory_run packages (package_path packages full) folder).answer >>= λ ran.
    package_runs packages folder fulls >>= λ more.
    Ok (record { name = full; ran = ran } ∷ more)

-- the full names of the packages that an input requires: a theory file may require some, an article requires none
abbrev pub required_at : (packages path : List ℕ) → Folder → Result (List (List ℕ)) Refusal
required_at packages path folder =
    if is_theory path then required folder limits.theory_bytes packages path else Ok []

-- what is required comes first, then the run of the input, the pattern under its notation, and the runs of the packages
abbrev pub find_at : (packages pattern path : List ℕ) → World → Result Searched FindStop
find_at packages pattern path world = do
  fulls ← stops_as InRequired (required_at packages path world.folder)
  n ← stops_as InRun (noted_at packages path world)
  p ← stops_as InPattern (at_line 1 (term_read (notation n) pattern))
  runs ← stops_as InRun (package_runs packages world.folder fulls)
  Ok (record { noted = n; pattern = p; packages = runs })

-- the required packages in their order, and the input last
abbrev pub sources : (path : List ℕ) → Searched → List Source
sources path s =
    map (λ p. record { name = p.name; exports = exports_of p.ran }) s.packages
    ++ record { name = path; exports = exports_of s.noted.ran } ∷ []

-- their exports that the pattern matches
abbrev pub found : (path : List ℕ) → Searched → List Found
found path s = matches s.pattern (sources path s)

-- ---- its halts

-- of what the input requires
abbrev pub required_status : Refusal → Status
required_status (NotThere path) = NoFile
required_status _ = Refused

-- of a search
abbrev pub find_status : FindStop → Status
find_status (InRequired refusal) = required_status refusal
find_status (InRun stop) = stop_status stop
find_status (InPattern refused) = Refused

-- what stands for the path of a pattern, which is one line
abbrev pub pattern_path : List ℕ
pattern_path = codes "pattern"

-- the line for what stops a search
abbrev pub find_line : FindStop → List ℕ
find_line (InRequired refusal) = required_line refusal
find_line (InRun stop) = stop_line stop
find_line (InPattern refused) = column_line pattern_path refused.line refused.column refused.fault

-- a pattern is one line, and by the forms it is refused so under a notation
pub record IsPatternStop (pattern : List ℕ) (refused : RefusedLine) : Type 0 where
  pub line_is : refused.line ≡ 1
  pub column_is : 0 < refused.column
  pub hidden : List (Symbol Name)
  pub notation : IsNotation hidden
  pub is_refused : IsTermRefused hidden pattern (refused.column - 1) refused.fault

-- a theory file alone requires packages
abbrev pub IsFindStop : (pattern path : List ℕ) → FindStop → Type 0
IsFindStop pattern path (InRequired refusal) = is_theory path ≡ true
IsFindStop pattern path (InRun stop) = IsInputStop path stop
IsFindStop pattern path (InPattern refused) = IsPatternStop pattern refused

-- ---- what is promised of it

-- the pattern was read by the forms; what is found is exactly what it matches among the exports of the packages and
-- of the input, in order, with the maps; the theorems of each package are proved, and an article requires none
pub record IsSearch (pattern path : List ℕ) (s : Searched) : Type 0 where
  pub reads : ReadsAsTerm (notation s.noted) pattern s.pattern
  pub matches_are : AreMatches s.pattern (all_exports (sources path s)) (found path s)
  pub proved : All (λ p. IsProved (run_lists p.ran)) s.packages
  pub none : is_theory path ≡ false → s.packages ≡ []

-- ---- what it reads besides its input

-- a search needs a file besides: one of the walk over what a theory file requires; or, behind that, the run of the
-- input, the pattern and the runs of the packages before it, one that the run of a package needs
pub data IsSearchFile (packages pattern path : List ℕ) (folder : Folder) : List ℕ → Type 0 where
  OfWalk : (file : List ℕ) → IsWalked folder limits.theory_bytes packages path file
      → IsSearchFile packages pattern path folder file
  OfPackage : (file full : List ℕ) (front back : List (List ℕ)) (n : Noted) (p : Tm Name) (runs : List PackageRun)
      → required folder limits.theory_bytes packages path ≡ Ok (front ++ full ∷ back)
      → noted (theory_shown path folder).answer (theory_run packages path folder).answer ≡ Ok n
      → term_read (notation n) pattern ≡ Ok p
      → package_runs packages folder front ≡ Ok runs
      → IsMember file (theory_run packages (package_path packages full) folder).paths
      → IsSearchFile packages pattern path folder file

-- ---- the command

-- a read fault names a file of the input's run, whose input is run where what it requires was found, or one that the
-- search needs besides
abbrev pub find_pattern : (packages pattern path : List ℕ) → Command
find_pattern packages pattern path = record {
  Product = Searched;
  Halt = FindStop;
  result = find_at packages pattern path;
  text = λ s. find_text (found path s);
  fits = λ s. nat_le (length (find_text (found path s))) summary_limit;
  large = large_line path;
  lists = λ s. run_lists s.noted.ran;
  IsPromised = IsSearch pattern path;
  status = find_status;
  line = find_line;
  IsOwn = IsFindStop pattern path;
  IsFailed = λ May InputFails FileFails failed.
      (IsInputPath path (opened_noted packages path) May InputFails FileFails failed
      × Every May (λ world. HasNoStop (required_at packages path world.folder)))
      ⊎ ((is_theory path ≡ true) × Every May (λ world. IsSearchFile packages pattern path world.folder failed)
      × FileFails failed);
  AsksNoFile = is_standard path ≡ true;
  Leaves = LeavesOther path;
  Last = LastInput path;
}
