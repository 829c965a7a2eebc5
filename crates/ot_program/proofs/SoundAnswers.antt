-- What a stated task ends with is proved.
use Rattle.std.specs.Prelude.{Bool, true, false, Result, Ok, Err, IfOk, ◌∷◌}
use Rattle.std.specs.Prelude.{if◌then◌else◌}
use Rattle.std.specs.List.{All}
use Rattle.std.proofs.Common.{◌≡◌, ℕ, List, [], refl}
use Rattle.std.proofs.lemmas.List.Elements.{All-nil, All-cons, All-map}
use Rattle.ot_logic.specs.Names.{Name}
use Rattle.ot_logic.specs.Naming.{names}
use Rattle.ot_logic.specs.Answers.{◌>>=◌, some_or}
use Rattle.ot_logic.specs.Limits.{article_limit}
use Rattle.ot_laws.specs.Theorem.{IsTheorem}
use Rattle.ot_laws.proofs.Grown.{accepted-nil}
use Rattle.ot_io.specs.Folder.{Folder, bytes_at}
use Rattle.ot_args.specs.Grammar.{is_theory}
use Rattle.ot_blocks.specs.Paths.{package_path}
use Rattle.ot_repo.specs.Required.{Refusal}
use Rattle.ot_scan.specs.Lines.{lines_of}
use Rattle.ot_theory.specs.Lines.{lines_of as text_lines}
use Rattle.ot_link.specs.Stops.{Stop, Missing, Linked}
use Rattle.ot_link.specs.Blocks.{Ran, article_end}
use Rattle.ot_link.specs.Laws.{IsAnyName, IsLawfulRan, EndsAreLawful}
use Rattle.ot_uses.specs.Sound.{LawfulIsSound}
use Rattle.ot_log_format.specs.Check.{Outcome as LogOutcome, Ends, Stops}
use Rattle.ot_log_format.specs.Sound.{LogsAreSound}
use Rattle.ot_verify.specs.Reading.{log_check, tokens_of}
use Rattle.ot_verify.specs.Verifying.{proved_by}
use Rattle.ot_read.specs.Lines.{at_line, term_read, lines_read}
use Rattle.ot_sample.specs.Sample.{sample}
use Rattle.ot_program.specs.World.{World, is_standard}
use Rattle.ot_program.specs.Tasks.{TaskValue, RunInput, RunSample, MakeSample, CheckLog, ShowReadable, ReadLines}
use Rattle.ot_program.specs.Tasks.{FindPattern, command}
use Rattle.ot_program.specs.Runs.{run_at, standard_run, article_run, theory_run, outcome, limits, Noted, shown_at}
use Rattle.ot_program.specs.Runs.{noted, noted_at, notation, stops_as}
use Rattle.ot_program.specs.Command.{run_lists, IsProved}
use Rattle.ot_program.specs.Samples.{sample_path}
use Rattle.ot_program.specs.CheckLog.{log_lists, log_end, check_bytes, check_file, check_at, NoLog}
use Rattle.ot_program.specs.ReadLines.{Readings, ReadStop, InInput, InLine, text_in, read_in, read_at}
use Rattle.ot_program.specs.FindPattern.{PackageRun, Searched, FindStop, InRequired, InRun, InPattern, package_runs}
use Rattle.ot_program.specs.FindPattern.{required_at, find_at}
use Rattle.ot_program.specs.Laws.{AnswersAreSound}
use Rattle.ot_uses.proofs.Goodness.{if_bind, any_bind}
use Rattle.ot_program.proofs.FindingLemmas.{ok_more, search}
use Rattle.ot_program.proofs.LogLemmas.{log_proved}

-- ---- where an answer is made of others

as_stop : {A E F : Type 0} (f : E → F) (r : Result A E) (P : A → Type 0) → IfOk r P → IfOk (stops_as f r) P
as_stop f (Ok x) P p = p
as_stop f (Err e) P p = tt

module _ (ends : EndsAreLawful) (sound : LawfulIsSound IsAnyName) where
  -- ---- runs

  abbrev IsProvedRun : Ran → Type 0
  IsProvedRun r = IsProved (run_lists r)

  ran_proved : (r : Ran) → IsLawfulRan r → IsProvedRun r
  ran_proved r h =
      let s = sound r.run h.run in
      record {
        assumptions = s.assumptions;
        accepted = s.accepted;
        theorems = All-map (IsTheorem names _ _) (λ e. e.sequent) r.exports
            (λ i d here. s.theorems _ _ (h.exports i d here).proved);
      }

  proved_if : (r : Result Ran Stop) → IfOk r IsLawfulRan → IfOk r IsProvedRun
  proved_if (Ok r) h = ran_proved r h
  proved_if (Err stop) h = tt

  bytes_proved : (path bytes : List ℕ) → IfOk (article_end path (outcome bytes)) IsProvedRun
  bytes_proved path bytes =
      proved_if (article_end path (outcome bytes)) (ends.articles path (lines_of article_limit bytes))

  theory_proved : (packages path : List ℕ) (folder : Folder)
      → IfOk (theory_run packages path folder).answer IsProvedRun
  unfolding theory_run
  theory_proved packages path folder =
      proved_if _ (ends.theories (record { folder = folder; packages = packages; limits = limits }) path)

  abbrev IsProvedLink : Linked Ran → Type 0
  IsProvedLink l = IfOk l.answer IsProvedRun

  run_proved : (packages path : List ℕ) (world : World) → IsProvedLink (run_at packages path world)
  run_proved packages path world = by (is_standard path) (is_theory path)
    where
      by : (b c : Bool)
          → IsProvedLink (if b then standard_run path world.input
          else if c then theory_run packages path world.folder
          else article_run path world.folder)
      by true c = bytes_proved path world.input
      by false true = theory_proved packages path world.folder
      by false false =
          any_bind (some_or (Missing path) (bytes_at world.folder path))
          (λ bytes. article_end path (outcome bytes)) IsProvedRun (bytes_proved path)

  -- ---- runs with their notation

  abbrev IsProvedNoted : Noted → Type 0
  IsProvedNoted n = IsProvedRun n.ran

  abbrev EndsNoted : Result Noted Stop → Type 0
  EndsNoted r = IfOk r IsProvedNoted

  both_proved : (ns : Result (List Name) Stop) (r : Result Ran Stop) → IfOk r IsProvedRun → EndsNoted (noted ns r)
  both_proved ns r h =
      any_bind ns (λ shown. r >>= λ ran. Ok (record { shown = shown; ran = ran })) IsProvedNoted
      (λ shown. if_bind r (λ ran. Ok (record { shown = shown; ran = ran })) IsProvedRun IsProvedNoted h (λ ran p. p))

  noted_proved : (packages path : List ℕ) (world : World) → EndsNoted (noted_at packages path world)
  noted_proved packages path world =
      both_proved (shown_at path world.folder).answer (run_at packages path world).answer
      (run_proved packages path world)

  -- ---- lines that are read

  abbrev EndsRead : Result Readings ReadStop → Type 0
  EndsRead r = IfOk r (λ read. IsProvedNoted read.noted)

  read_in_proved : (n : Noted) → IsProvedNoted n → (text : List ℕ) (folder : Folder) → EndsRead (read_in n text folder)
  read_in_proved n h text folder =
      any_bind (text_in text folder)
      (λ bytes. stops_as InLine (lines_read (notation n) (text_lines bytes)) >>= λ qs.
      Ok (record { noted = n; lines = text_lines bytes; sequents = qs }))
      (λ read. IsProvedNoted read.noted)
      (λ bytes. any_bind (stops_as InLine (lines_read (notation n) (text_lines bytes)))
      (λ qs. Ok (record { noted = n; lines = text_lines bytes; sequents = qs })) (λ read. IsProvedNoted read.noted)
      (λ qs. h))

  read_proved : (packages path text : List ℕ) (world : World) → EndsRead (read_at packages path text world)
  read_proved packages path text world =
      if_bind (stops_as InInput (noted_at packages path world)) (λ n. read_in n text world.folder) IsProvedNoted
      (λ read. IsProvedNoted read.noted)
      (as_stop InInput (noted_at packages path world) IsProvedNoted (noted_proved packages path world))
      (λ n h. read_in_proved n h text world.folder)

  -- ---- a search

  record IsProvedSearch (s : Searched) : Type 0 where
    input : IsProvedNoted s.noted
    packages : All (λ p. IsProvedRun p.ran) s.packages

  abbrev EndsFound : Result Searched FindStop → Type 0
  EndsFound r = IfOk r IsProvedSearch

  packages_proved : (packages : List ℕ) (folder : Folder) (fulls : List (List ℕ))
      → IfOk (package_runs packages folder fulls) (All (λ p. IsProvedRun p.ran))
  packages_proved packages folder [] = All-nil (λ p. IsProvedRun p.ran)
  packages_proved packages folder (full ∷ fulls) =
      if_bind (theory_run packages (package_path packages full) folder).answer
      (λ ran. package_runs packages folder fulls >>= λ more. Ok (record { name = full; ran = ran } ∷ more))
      IsProvedRun (All (λ p. IsProvedRun p.ran)) (theory_proved packages (package_path packages full) folder)
      (λ ran h. if_bind (package_runs packages folder fulls) (λ more. Ok (record { name = full; ran = ran } ∷ more))
      (All (λ p. IsProvedRun p.ran)) (All (λ p. IsProvedRun p.ran)) (packages_proved packages folder fulls)
      (λ more k. All-cons (λ p. IsProvedRun p.ran) (record { name = full; ran = ran }) more h k))

  search_proved : (pattern : List ℕ) (fulls : Result (List (List ℕ)) Refusal) (ran : Result Noted Stop)
      (runs : List (List ℕ) → Result (List PackageRun) Stop) → EndsNoted ran
      → ((fs : List (List ℕ)) → IfOk (runs fs) (All (λ p. IsProvedRun p.ran)))
      → EndsFound (search pattern fulls ran runs)
  search_proved pattern fulls ran runs h all =
      any_bind (stops_as InRequired fulls)
      (λ fs. stops_as InRun ran >>= λ n. stops_as InPattern (at_line 1 (term_read (notation n) pattern)) >>= λ p.
      stops_as InRun (runs fs) >>= λ ps. Ok (record { noted = n; pattern = p; packages = ps })) IsProvedSearch
      (λ fs. if_bind (stops_as InRun ran)
      (λ n. stops_as InPattern (at_line 1 (term_read (notation n) pattern)) >>= λ p.
      stops_as InRun (runs fs) >>= λ ps. Ok (record { noted = n; pattern = p; packages = ps }))
      IsProvedNoted IsProvedSearch (as_stop InRun ran IsProvedNoted h)
      (λ n k. any_bind (stops_as InPattern (at_line 1 (term_read (notation n) pattern)))
      (λ p. stops_as InRun (runs fs) >>= λ ps. Ok (record { noted = n; pattern = p; packages = ps })) IsProvedSearch
      (λ p. if_bind (stops_as InRun (runs fs)) (λ ps. Ok (record { noted = n; pattern = p; packages = ps }))
      (All (λ p. IsProvedRun p.ran)) IsProvedSearch (as_stop InRun (runs fs) (All (λ p. IsProvedRun p.ran)) (all fs))
      (λ ps l. record { input = k; packages = l }))))

  find_proved : (packages pattern path : List ℕ) (world : World) → EndsFound (find_at packages pattern path world)
  find_proved packages pattern path world =
      search_proved pattern (required_at packages path world.folder) (noted_at packages path world)
      (package_runs packages world.folder) (noted_proved packages path world) (packages_proved packages world.folder)

  -- ---- the law

  module _ (logs : LogsAreSound names) where
    log_bytes_proved : (bytes : List ℕ) → IfOk (check_bytes bytes) (λ p. IsProved (log_lists p))
    log_bytes_proved bytes = by (log_check article_limit bytes) refl
      where
        by : (o : LogOutcome Name) → log_check article_limit bytes ≡ o
            → IfOk (log_end o) (λ p. IsProved (log_lists p))
        by (Ends st) e =
            let h = logs (tokens_of (lines_of article_limit bytes)) st e in
            log_proved (proved_by st)
            (record { accepted = h.accepted; assumptions = h.assumptions; results = h.results })
        by (Stops line fault) e = tt

    log_result : (path : List ℕ) (world : World) → IfOk (check_at path world) (λ p. IsProved (log_lists p))
    log_result path world = by (is_standard path)
      where
        by : (b : Bool)
            → IfOk (if b then check_bytes world.input else check_file path world.folder)
            (λ p. IsProved (log_lists p))
        by true = log_bytes_proved world.input
        by false =
            any_bind (some_or NoLog (bytes_at world.folder path)) check_bytes (λ p. IsProved (log_lists p))
            log_bytes_proved

    result_proved : (t : TaskValue) (world : World) → IfOk ((command t).result world) (λ made. IsProved ((command t).lists made))
    result_proved (RunInput packages path view) world = run_proved packages path world
    result_proved (RunSample n) world = bytes_proved sample_path (sample n)
    result_proved (MakeSample n) world = record {
      assumptions = All-nil _;
      accepted = accepted-nil names [];
      theorems = All-nil _;
    }
    result_proved (CheckLog path) world = log_result path world
    result_proved (ShowReadable packages path) world = noted_proved packages path world
    result_proved (ReadLines packages path text) world = read_proved packages path text world
    result_proved (FindPattern packages pattern path) world =
        ok_more IsProvedSearch (λ s. IsProvedNoted s.noted) (find_at packages pattern path world) (λ s k. k.input)
        (find_proved packages pattern path world)

    pub answers_are_sound : AnswersAreSound
    answers_are_sound = record {
      results = result_proved;
      packages = λ packages pattern path world.
          ok_more IsProvedSearch (λ s. All (λ p. IsProvedRun p.ran) s.packages)
          (find_at packages pattern path world) (λ s k. k.packages) (find_proved packages pattern path world);
    }
