-- How the parts of a search end. Only contracts of private functions and proofs speak of it.
use Rattle.std.specs.Prelude.{◌≡◌, ◌≢◌, ◌∷◌, ◌++◌, ℕ, true, List, [], map, Option, Some, None, Result, Ok, Err, Vec}
use Rattle.std.specs.Prelude.{IfOk, IfErr, OnOk, IsSomeAnd, String, string_bytes}
use Rattle.std.specs.Global.{Global}
use Rattle.std.specs.List.{All}
use Rattle.ot_logic.specs.Lists.{IsMember}
use Rattle.ot_logic.specs.declared.memory.Memory.{Memory as NoMemory}
use Rattle.ot_logic.specs.Names.{Name}
use Rattle.ot_logic.specs.Trees.{Tm}
use Rattle.ot_logic.specs.Limits.{summary_limit}
use Rattle.ot_args.specs.Grammar.{is_theory}
use Rattle.ot_io.specs.Folder.{Folder}
use Rattle.ot_blocks.specs.Paths.{package_path}
use Rattle.ot_repo.specs.Required as repo
use Rattle.ot_repo.specs.Answers.{names_of}
use Rattle.ot_repo.specs.declared.fault.RepoFault.{RepoFault}
use Rattle.ot_repo.specs.declared.fault.RepoFault.TheVariants as repos
use Rattle.ot_repo.specs.Laws.{IsWalked}
use Rattle.ot_link.specs.Blocks.{Ran}
use Rattle.ot_machine.specs.declared.session.Session.{Session}
use Rattle.ot_forms.specs.Refusals.{ReadsAsTerm}
use Rattle.ot_read.specs.Lines.{at_line, term_read}
use Rattle.ot_find.specs.Matches.{Source, Found, AreMatches, matches, matches_in, exports_of as all_exports}
use Rattle.ot_find.specs.Texts.{HasFound}
use Rattle.ot_find.specs.declared.search.Search.{Search}
use Rattle.ot_program.specs.Texts.{stop_line, required_line, column_line, read_fault_line}
use Rattle.ot_program.specs.World.{World, Every}
use Rattle.ot_program.specs.Tasks.{ShowReadable, FindPattern, command}
use Rattle.ot_program.specs.Runs.{limits, theory_run, notation, exports_of, Noted, stop_status, IsInputStop}
use Rattle.ot_program.specs.Command.{run_lists, IsProved, End, Stopped, Failed}
use Rattle.ot_program.specs.FindPattern.{PackageRun, Searched, package_runs, required_at, sources, found, pattern_path}
use Rattle.ot_program.specs.FindPattern.{required_status, find_status, find_line, IsSearch, IsFindStop, IsPatternStop}
use Rattle.ot_program.specs.Reply.{fails}
use Rattle.ot_program.specs.Answer.{IsResult}
use Rattle.ot_program.specs.declared.status.Status.{Status}
use Rattle.ot_program.specs.declared.status.Status.TheVariants.{Refused, NoFile, ReadFault}
use Rattle.ot_program.specs.declared.report.Verdict.{Verdict}
use Rattle.ot_program.specs.declared.noted.NotedRun.{NotedRun}
use Rattle.ot_program.specs.declared.finding.Ending.{Ending}
use Rattle.ot_program.specs.declared.finding.Ending.TheVariants as endings
use Rattle.ot_program.specs.Endings.{noted_of}
use Rattle.ot_program.specs.Verdicts.{IsSaid, IsVerdictBy}

-- ---- the search for a pattern

-- a part of a task ended it with this verdict: at a stop that is answered, or at a path that failed
pub data HasEnded {A S : Type 0} (Answers : Result A S → Type 0) (status : S → Status) (line : S → List ℕ)
    (Own : S → Type 0) (Failing : List ℕ → Type 0) (MissRose : Type 0) (v : Verdict) : Type 0 where
  AtStop : (s : S) → IsSaid v (status s) (line s) → Answers (Err s) → Own s → (status s ≡ NoFile → MissRose)
      → HasEnded Answers status line Own Failing MissRose v
  AtFailure : (path : List ℕ) → IsSaid v ReadFault (read_fault_line path) → Failing path
      → HasEnded Answers status line Own Failing MissRose v

-- an ending by a verdict, where there was memory for it
abbrev pub ending_of : Result Verdict NoMemory → Ending
ending_of (Ok v) = endings.Said v
ending_of (Err memory) = endings.Memory memory

-- where memory ran out nothing is said
abbrev pub IfEnded : (Verdict → Type 0) → Ending → Type 0
IfEnded P (endings.Said v) = P v
IfEnded P (endings.Memory memory) = Unit {0}

-- the end that the fault of a walk over packages stands for; none where memory ran out
abbrev pub walk_end : RepoFault → Option (End ⊥ repo.Refusal)
walk_end (repos.Theory path line fault) = Some (Stopped (repo.Theory (string_bytes path) line fault))
walk_end (repos.TheoryTooLarge path) = Some (Stopped (repo.TheoryTooLarge (string_bytes path)))
walk_end (repos.IndexTooLarge path) = Some (Stopped (repo.IndexTooLarge (string_bytes path)))
walk_end (repos.BadIndex path line) = Some (Stopped (repo.BadIndex (string_bytes path) line))
walk_end (repos.NotInstalled path line) = Some (Stopped (repo.NotInstalled (string_bytes path) line))
walk_end (repos.RequiresCycle path line) = Some (Stopped (repo.RequiresCycle (string_bytes path) line))
walk_end (repos.NoFile path) = Some (Stopped (repo.Missing (string_bytes path)))
walk_end (repos.ReadFault path) = Some (Failed (string_bytes path))
walk_end (repos.Memory memory) = None

-- the verdict on a walk that was refused so
abbrev pub IsWalkVerdict : RepoFault → Verdict → Type 0
IsWalkVerdict e v = IsSomeAnd (walk_end e) (IsVerdictBy (λ x w. ⊥) required_status required_line v)

-- what is required, or the runs of packages, are these in each folder that may be
abbrev pub AnswersIn : {A : Type 0} → (May : Folder → Type 0) → (Folder → A) → A → Type 0
AnswersIn May answer result = Every May (λ folder. answer folder ≡ result)

-- the walk over what an input requires ended the task
abbrev pub HasEndedWalk : (packages path : List ℕ) → (FileFails : List ℕ → Type 0) → (MissRose : Type 0) → Verdict
    → (May : Folder → Type 0) → Type 0
HasEndedWalk packages path FileFails MissRose v May =
    HasEnded (AnswersIn May (required_at packages path)) required_status required_line
    (λ refusal. is_theory path ≡ true)
    (λ file. (is_theory path ≡ true)
    × Every May (λ folder. IsWalked folder limits.theory_bytes packages path file) × FileFails file)
    MissRose v

-- the run of the input ended it
abbrev pub HasEndedInput : (packages path : List ℕ) → (InputFails : Type 0) → (FileFails : List ℕ → Type 0)
    → (MissRose : Type 0) → Verdict → (May : World → Type 0) → Type 0
HasEndedInput packages path InputFails FileFails MissRose v May =
    HasEnded (IsResult (ShowReadable packages path) May) stop_status stop_line (IsInputStop path)
    ((command (ShowReadable packages path)).IsFailed May InputFails FileFails) MissRose v

-- the pattern ended it
abbrev pub HasEndedPattern : Noted → (pattern : List ℕ) → Verdict → Type 0
HasEndedPattern n pattern =
    HasEnded (λ answer. at_line 1 (term_read (notation n) pattern) ≡ answer) (λ refused. Refused)
    (λ refused. column_line pattern_path refused.line refused.column refused.fault) (IsPatternStop pattern)
    (λ file. ⊥)
    ⊥

-- the term that a pattern stands for
pub record IsPattern (n : Noted) (pattern : List ℕ) (p : Tm Name) : Type 0 where
  pub is_read : term_read (notation n) pattern ≡ Ok p
  pub reads : ReadsAsTerm (notation n) pattern p

-- a file that the run of one of these packages needs failed, behind the runs of those before it
pub record IsRunFile (packages : List ℕ) (fulls : List (List ℕ)) (FileFails : List ℕ → Type 0)
    (May : Folder → Type 0) (file : List ℕ) : Type 0 where
  pub front : List (List ℕ)
  pub full : List ℕ
  pub back : List (List ℕ)
  pub among : fulls ≡ front ++ full ∷ back
  pub runs : List PackageRun
  pub runs_are : AnswersIn May (λ folder. package_runs packages folder front) (Ok runs)
  pub opened : Every May (λ folder. IsMember file (theory_run packages (package_path packages full) folder).paths)
  pub fails : FileFails file

-- the run of one of them ended the task
abbrev pub HasEndedRuns : (packages : List ℕ) (fulls : List (List ℕ)) → (FileFails : List ℕ → Type 0)
    → (MissRose : Type 0) → Verdict → (May : Folder → Type 0) → Type 0
HasEndedRuns packages fulls FileFails MissRose v May =
    HasEnded (AnswersIn May (λ folder. package_runs packages folder fulls)) stop_status stop_line
    (λ stop. fulls ≢ []) (IsRunFile packages fulls FileFails May) MissRose v

-- the run of a package by its full name ended the task
abbrev pub HasEndedRun : (packages full : List ℕ) → (FileFails : List ℕ → Type 0) → (MissRose : Type 0) → Verdict
    → (May : Folder → Type 0) → Type 0
HasEndedRun packages full FileFails MissRose v May =
    HasEnded (AnswersIn May (λ folder. (theory_run packages (package_path packages full) folder).answer))
    stop_status stop_line (λ stop. Unit {0})
    (λ file. Every May (λ folder. IsMember file (theory_run packages (package_path packages full) folder).paths)
    × FileFails file)
    MissRose v

-- a search has found these matches, and has this limit
pub record HasMatches (search : Search) (fs : List Found) : Type 0 where
  pub has : HasFound search fs
  pub max_is : search.max ≡ summary_limit

-- a package was run, its theorems are proved, and those that the pattern matches were added to what was found
pub record IsSearched (packages full : List ℕ) (pattern : Tm Name) (old new : Search) (May : Folder → Type 0) : Type
    0 where
  pub ran : Ran
  pub ran_is : AnswersIn May (λ folder. (theory_run packages (package_path packages full) folder).answer) (Ok ran)
  pub proved : IsProved (run_lists ran)
  pub found_more : (fs : List Found) → HasMatches old fs
      → HasMatches new (fs ++ matches_in pattern full (exports_of ran))

-- the source that a package is
abbrev pub source_of : PackageRun → Source
source_of p = record { name = p.name; exports = exports_of p.ran }

-- the packages were run, their theorems are proved, and those that the pattern matches were added to what was found
pub record AreSearched (packages : List ℕ) (fulls : List (List ℕ)) (pattern : Tm Name) (old new : Search)
    (May : Folder → Type 0) : Type 0 where
  pub runs : List PackageRun
  pub runs_are : AnswersIn May (λ folder. package_runs packages folder fulls) (Ok runs)
  pub each : map (λ p. p.name) runs ≡ fulls
  pub proved : All (λ p. IsProved (run_lists p.ran)) runs
  pub found_more : (fs : List Found) → HasMatches old fs → HasMatches new (fs ++ matches pattern (map source_of runs))

-- the folders of worlds
abbrev pub folders_of : (May : World → Type 0) → Folder → Type 0
folders_of May folder = (input : List ℕ) × May (record { folder = folder; input = input })

-- behind the run of the input its pattern, or the runs of the packages, ended the task
pub data HasEndedBehind (packages pattern : List ℕ) (n : Noted) (fulls : List (List ℕ)) (FileFails : List ℕ → Type 0)
    (MissRose : Type 0) (v : Verdict) (May : Folder → Type 0) : Type 0 where
  AtPattern : HasEndedPattern n pattern v → HasEndedBehind packages pattern n fulls FileFails MissRose v May
  AtRuns : (p : Tm Name) → IsPattern n pattern p → HasEndedRuns packages fulls FileFails MissRose v May
      → HasEndedBehind packages pattern n fulls FileFails MissRose v May

-- what was searched
abbrev pub searched_of : Noted → Tm Name → List PackageRun → Searched
searched_of n p runs = record { noted = n; pattern = p; packages = runs }

-- or the pattern was read, and the packages and the run of the input were searched for it
pub record HasSearchedBehind (packages pattern path : List ℕ) (n : Noted) (fulls : List (List ℕ)) (search : Search)
    (May : Folder → Type 0) : Type 0 where
  pub term : Tm Name
  pub is_pattern : IsPattern n pattern term
  pub runs : List PackageRun
  pub runs_are : AnswersIn May (λ folder. package_runs packages folder fulls) (Ok runs)
  pub each : map (λ p. p.name) runs ≡ fulls
  pub proved : IsProved (run_lists n.ran)
  pub all_proved : All (λ p. IsProved (run_lists p.ran)) runs
  pub matches_are : let made = searched_of n term runs in
      AreMatches term (all_exports (sources path made)) (found path made)
  pub found : HasMatches search (found path (searched_of n term runs))

-- a search ended with matches
pub record HasSearched (packages pattern path : List ℕ) (search : Search) (May : World → Type 0) : Type 0 where
  pub made : Searched
  pub ended : IsResult (FindPattern packages pattern path) May (Ok made)
  pub proved : IsProved (run_lists made.noted.ran)
  pub promised : IsSearch pattern path made
  pub found : HasMatches search (found path made)

-- a search ended at a stop or a failure
abbrev pub HasEndedSearch : (packages pattern path : List ℕ) → (InputFails : Type 0) → (FileFails : List ℕ → Type 0)
    → (MissRose : Type 0) → Verdict → (May : World → Type 0) → Type 0
HasEndedSearch packages pattern path InputFails FileFails MissRose v May =
    HasEnded (IsResult (FindPattern packages pattern path) May) find_status find_line (IsFindStop pattern path)
    ((command (FindPattern packages pattern path)).IsFailed May InputFails FileFails) MissRose v

-- ---- what the parts of a search answer

-- the full names that an input requires
pub record EndsWalk (packages path : List ℕ) (result : Result (Vec (String Global) Global) Ending)
    (FileFails : List ℕ → Type 0) (MissRose : Type 0) (May : Folder → Type 0) : Type 0 where
  pub ended : IfErr result (IfEnded (λ v. HasEndedWalk packages path FileFails MissRose v May))
  pub found : IfOk result (λ fulls. AnswersIn May (required_at packages path) (Ok (names_of fulls)))

-- the run of the input
pub record EndsInput (packages path : List ℕ) (s : Session) (result : Result NotedRun Ending) (InputFails : Type 0)
    (FileFails : List ℕ → Type 0) (MissRose : Type 0) (May : World → Type 0) : Type 0 where
  pub ended : IfErr result (IfEnded (λ v. HasEndedInput packages path InputFails FileFails MissRose v May))
  pub ran : IfOk result (λ run. IsResult (ShowReadable packages path) May (Ok (noted_of s run)))

-- the run of a package
pub record EndsRun (packages full : List ℕ) (pattern : Tm Name) (old new : Search)
    (result : Result (Unit {0}) Ending) (FileFails : List ℕ → Type 0) (MissRose : Type 0)
    (May : Folder → Type 0) : Type 0 where
  pub ended : IfErr result (IfEnded (λ v. HasEndedRun packages full FileFails MissRose v May))
  pub searched : OnOk result (IsSearched packages full pattern old new May)

-- the runs of packages
pub record EndsRuns (packages : List ℕ) (fulls : List (List ℕ)) (pattern : Tm Name) (old new : Search)
    (result : Result (Unit {0}) Ending) (FileFails : List ℕ → Type 0) (MissRose : Type 0)
    (May : Folder → Type 0) : Type 0 where
  pub ended : IfErr result (IfEnded (λ v. HasEndedRuns packages fulls FileFails MissRose v May))
  pub searched : OnOk result (AreSearched packages fulls pattern old new May)

-- the search behind the run of the input
pub record EndsBehind (packages pattern path : List ℕ) (n : Noted) (fulls : List (List ℕ))
    (result : Result Search Ending) (FileFails : List ℕ → Type 0) (MissRose : Type 0)
    (May : Folder → Type 0) : Type 0 where
  pub ended : IfErr result
      (IfEnded (λ v. HasEndedBehind packages pattern n fulls FileFails MissRose v May))
  pub searched : IfOk result (λ search. HasSearchedBehind packages pattern path n fulls search May)

-- the whole search
pub record EndsSearch (packages pattern path : List ℕ) (result : Result Search Ending) (InputFails : Type 0)
    (FileFails : List ℕ → Type 0) (MissRose : Type 0) (May : World → Type 0) : Type 0 where
  pub ended : IfErr result
      (IfEnded (λ v. HasEndedSearch packages pattern path InputFails FileFails MissRose v May))
  pub searched : IfOk result (λ search. HasSearched packages pattern path search May)
