-- The search for a pattern.
use Rattle.std.proofs.Common.{◌≡◌, ◌≢◌, ℕ, suc, get_or, take, drop, ◌<◌, ◌+◌, ◌-◌, List, [], ◌∷◌, ◌++◌, length}
use Rattle.std.proofs.Common.{map, refl, sym, ap, subst, ◌∙◌, inl, inr, ◌⊎◌, arith, append-nil, append_assoc}
use Rattle.std.specs.Prelude.{true, false, Option, Some, None, IfSome, Vec}
use Rattle.std.specs.Prelude.{IsSomeAnd, Result, Ok, Err, IfOk, IfErr, OnOk, String, string_bytes}
use Rattle.std.specs.Global.{Global}
use Rattle.std.specs.Option.{option_map}
use Rattle.std.specs.List.{All}
use Rattle.std.proofs.Math.Seq.{take-suc}
use Rattle.std.proofs.lemmas.List.{map-append, take-append-drop}
use Rattle.std.proofs.lemmas.Simd.{map-map}
use Rattle.std.proofs.lemmas.List.Elements.{All-append, All-cons}
use Rattle.ot_logic.specs.Answers.{◌>>=◌}
use Rattle.ot_logic.specs.Names.{Name}
use Rattle.ot_logic.specs.Trees.{Tm, Sequent, Symbol}
use Rattle.ot_logic.specs.Limits.{summary_limit}
use Rattle.ot_logic.specs.Lists.{IsMember}
use Rattle.ot_logic.specs.declared.memory.Memory.{Memory as NoMemory}
use Rattle.ot_io.specs.Causes.{CountRose}
use Rattle.ot_io.specs.Folder.{Folder}
use Rattle.ot_io.specs.Readings.{HasReadFiles}
use Rattle.ot_args.specs.Grammar.{is_theory}
use Rattle.ot_blocks.specs.Paths.{package_path}
use Rattle.ot_repo.specs.Required.{Refusal, required}
use Rattle.ot_repo.specs.Required as repo
use Rattle.ot_repo.specs.Laws.{IsWalked}
use Rattle.ot_repo.specs.Answers.{Refuses, HasCause as HasWalkCause, FailsAt, IsAnswer as IsWalkAnswer, names_of}
use Rattle.ot_repo.specs.declared.fault.RepoFault.{RepoFault}
use Rattle.ot_repo.specs.declared.fault.RepoFault.TheVariants as repos
use Rattle.ot_kernel.specs.State.{State, theorem_at}
use Rattle.ot_machine.specs.declared.machine.Export.{Export}
use Rattle.ot_machine.specs.declared.session.Session.{Session}
use Rattle.ot_link.specs.Stops.{Stop}
use Rattle.ot_link.specs.Blocks.{Ran}
use Rattle.ot_forms.specs.Refusals.{IsTermRefused}
use Rattle.ot_forms.specs.Words.{IsNotation}
use Rattle.ot_forms.specs.declared.fault.TextFault.{TextFault}
use Rattle.ot_find.specs.Matches.{Found, matches, matches_in, MatchesAreThose, MatchesOfOneMore}
use Rattle.ot_find.specs.Texts.{HasFound, find_text}
use Rattle.ot_find.specs.declared.search.Search.{Search}
use Rattle.ot_read.specs.Lines.{RefusedLine, at_line, term_read}
use Rattle.ot_print.specs.Laws.{TextsNameOne}
use Rattle.ot_program.specs.Texts.{column_line, required_line, large_line}
use Rattle.ot_program.specs.World.{World, Every, HasReadWorld, HasReadFolder, is_standard}
use Rattle.ot_program.specs.Tasks.{FindPattern, ShowReadable}
use Rattle.ot_program.specs.Runs.{Noted, noted, limits, theory_run, theory_shown, noted_at, notation, exports_of}
use Rattle.ot_program.specs.Runs.{stops_as}
use Rattle.ot_program.specs.Command.{run_lists, IsProved, LastInput, LeavesOther, End, Finished, Stopped, Failed}
use Rattle.ot_program.specs.FindPattern.{FindStop, InRequired, InRun, InPattern, PackageRun, Searched, package_runs}
use Rattle.ot_program.specs.FindPattern.{required_at, find_at, sources, found, required_status, pattern_path}
use Rattle.ot_program.specs.FindPattern.{IsSearchFile, OfWalk, OfPackage, IsPatternStop}
use Rattle.ot_program.specs.Answer.{IsResult, FileFailed}
use Rattle.ot_program.specs.Endings.{ran_from, noted_of, HasTaskEnd, HasTheoryEnd, noted_end}
use Rattle.ot_program.specs.Verdicts.{IsSaid, IsPrinted, IsStopVerdict, IsTaskVerdict, IsVerdictOn}
use Rattle.ot_program.specs.Searches.{AnswersIn, ending_of, HasEnded, AtStop, AtFailure, IfEnded, IsWalkVerdict}
use Rattle.ot_program.specs.Searches.{HasEndedWalk, HasEndedInput, HasEndedPattern, HasEndedRun, HasEndedRuns}
use Rattle.ot_program.specs.Searches.{HasEndedBehind, AtPattern, AtRuns, HasEndedSearch, IsPattern, IsRunFile}
use Rattle.ot_program.specs.Searches.{HasMatches, IsSearched, AreSearched, HasSearchedBehind, HasSearched, searched_of}
use Rattle.ot_program.specs.Searches.{source_of, EndsWalk, EndsInput, EndsRun, EndsRuns, EndsBehind, EndsSearch}
use Rattle.ot_program.specs.declared.finding.Ending.{Ending}
use Rattle.ot_program.specs.declared.finding.Ending.TheVariants as endings
use Rattle.ot_program.specs.declared.noted.NotedRun.{NotedRun}
use Rattle.ot_program.specs.declared.report.Verdict.{Verdict}
use Rattle.ot_program.specs.declared.status.Status.{Status}
use Rattle.ot_program.specs.declared.status.Status.TheVariants.{Refused, NoFile}
use Rattle.ot_program.proofs.InputLemmas.{no_standard, no_theory, theory_stop}
use Rattle.ot_program.proofs.NotedLemmas.{more_path}
use Rattle.ot_program.proofs.Options.{no_stop}
use Rattle.ot_program.proofs.RunLemmas.{exports_are}
use Rattle.ot_program.proofs.VerdictLemmas.{task_verdict}
use Rattle.ot_program.proofs.Worlds.{IsPart, HasFolders, folder_of, folder_none, world_of_folder, folder_then_world}
use Rattle.ot_program.proofs.Worlds.{world_then_folder}

-- ---- answers

pub ok_more : {X E : Type 0} (P Q : X → Type 0) (r : Result X E) → ((x : X) → P x → Q x) → IfOk r P → IfOk r Q
ok_more P Q (Ok x) more h = more x h
ok_more P Q (Err e) more h = tt

pub on_ok_more : {X E : Type 0} (P Q : Type 0) (r : Result X E) → (P → Q) → OnOk r P → OnOk r Q
on_ok_more P Q (Ok x) more h = more h
on_ok_more P Q (Err e) more h = tt

pub if_ended : (P Q : Verdict → Type 0) (e : Ending) → ((v : Verdict) → P v → Q v) → IfEnded P e → IfEnded Q e
if_ended P Q (endings.Said v) more has = more v has
if_ended P Q (endings.Memory memory) more has = tt

pub err_ended : {X : Type 0} (P Q : Verdict → Type 0) (r : Result X Ending) → ((v : Verdict) → P v → Q v)
    → IfErr r (IfEnded P)
    → IfErr r (IfEnded Q)
err_ended P Q (Ok x) more has = tt
err_ended P Q (Err e) more has = if_ended P Q e more has

-- what was counted since is counted from before, and what is answered in more worlds is in fewer
pub ended_more : {A S : Type 0} (P Q : Result A S → Type 0) (status : S → Status)
    (line : S → List ℕ) (Own : S → Type 0) (F G : List ℕ → Type 0) (M N : Type 0)
    → ((r : Result A S) → P r → Q r) → ((file : List ℕ) → F file → G file) → (M → N) → (v : Verdict)
    → HasEnded P status line Own F M v → HasEnded Q status line Own G N v
ended_more P Q status line Own F G M N answers failed missed v (AtStop s said is own cause) =
    AtStop s said (answers (Err s) is) own (λ none. missed (cause none))
ended_more P Q status line Own F G M N answers failed missed v (AtFailure path said has) =
    AtFailure path said (failed path has)

-- a verdict that was made ends it
pub ends_by : (P Q : Verdict → Type 0) (r : Result Verdict NoMemory) → ((v : Verdict) → P v → Q v) → IfOk r P
    → IfEnded Q (ending_of r)
ends_by P Q (Ok v) more has = more v has
ends_by P Q (Err memory) more has = tt

-- ---- the walk over required packages

no_file : {X : Type 0} → Refused ≡ NoFile → X
no_file e = absurd cc

module _ (packages path : List ℕ) (at : Option (List ℕ)) (m m' f f' : ℕ) (theory : is_theory path ≡ true)
    (May : Folder → Type 0) where
  walk_stop : (r : Refusal) (v : Verdict) → required_status r ≡ Refused → IsSaid v Refused (required_line r)
      → Every May (λ folder. required folder limits.theory_bytes packages path ≡ Err r)
      → HasEndedWalk packages path (FileFailed at f f') (CountRose m m') v May
  walk_stop r v refused said is =
      AtStop r (record { status_is = said.status_is ∙ sym refused; text_is = said.text_is })
      (λ folder may. rw theory (is folder may)) theory (λ none. no_file (sym refused ∙ none))

  walk_ended : (e : RepoFault)
      → Every May (λ folder. Refuses e (required folder limits.theory_bytes packages path))
      → HasWalkCause e m m' f f' at
      → Every May (λ folder. FailsAt (IsWalked folder limits.theory_bytes packages path) e) → (v : Verdict)
      → IsWalkVerdict e v
      → HasEndedWalk packages path (FileFailed at f f') (CountRose m m') v May
  walk_ended (repos.Theory p line fault) gives cause fails v said =
      walk_stop (repo.Theory (string_bytes p) line fault) v refl said gives
  walk_ended (repos.TheoryTooLarge p) gives cause fails v said =
      walk_stop (repo.TheoryTooLarge (string_bytes p)) v refl said gives
  walk_ended (repos.IndexTooLarge p) gives cause fails v said =
      walk_stop (repo.IndexTooLarge (string_bytes p)) v refl said gives
  walk_ended (repos.BadIndex p line) gives cause fails v said =
      walk_stop (repo.BadIndex (string_bytes p) line) v refl said gives
  walk_ended (repos.NotInstalled p line) gives cause fails v said =
      walk_stop (repo.NotInstalled (string_bytes p) line) v refl said gives
  walk_ended (repos.RequiresCycle p line) gives cause fails v said =
      walk_stop (repo.RequiresCycle (string_bytes p) line) v refl said gives
  walk_ended (repos.NoFile p) gives cause fails v said =
      AtStop (repo.Missing (string_bytes p)) said (λ folder may. rw theory (gives folder may)) theory (λ none. cause)
  walk_ended (repos.ReadFault p) gives cause fails v said =
      AtFailure (string_bytes p) said (theory, fails, cause)
  walk_ended (repos.Memory memory) gives cause fails v said = absurd said

  -- the walk was refused, and the verdict says so
  pub walk_refused : (e : RepoFault) (r : Result Verdict NoMemory)
      → Every May (λ folder. Refuses e (required folder limits.theory_bytes packages path))
      → HasWalkCause e m m' f f' at
      → Every May (λ folder. FailsAt (IsWalked folder limits.theory_bytes packages path) e)
      → IfOk r (IsWalkVerdict e)
      → EndsWalk packages path (Err (ending_of r)) (FileFailed at f f') (CountRose m m') May
  walk_refused e r gives cause fails said = record {
    ended =
        ends_by (IsWalkVerdict e) (λ v. HasEndedWalk packages path (FileFailed at f f') (CountRose m m') v May) r
        (walk_ended e gives cause fails) said;
    found = tt;
  }

pub walk_refused_in : (packages path : List ℕ) (told : Option Folder) (at : Option (List ℕ)) (m m' f f' : ℕ)
    → is_theory path ≡ true → (e : RepoFault) (r : Result Verdict NoMemory)
    → HasReadFiles told (λ folder. IsWalkAnswer names_of (IsWalked folder limits.theory_bytes packages path) (Err e)
    (required folder limits.theory_bytes packages path))
    → HasWalkCause e m m' f f' at → IfOk r (IsWalkVerdict e)
    → HasReadFolder told (EndsWalk packages path (Err (ending_of r)) (FileFailed at f f') (CountRose m m'))
walk_refused_in packages path told at m m' f f' theory e r gives cause said =
    folder_of told _ _ (λ May h. walk_refused packages path at m m' f f' theory May e r (λ folder may. (h folder may).gives)
    cause (λ folder may. (h folder may).fails) said) gives

pub walk_found : (packages path : List ℕ) (told : Option Folder) (fulls : Vec (String Global) Global)
    (F : List ℕ → Type 0) (M : Type 0) → is_theory path ≡ true
    → HasReadFiles told (λ folder. IsWalkAnswer names_of (IsWalked folder limits.theory_bytes packages path) (Ok fulls)
    (required folder limits.theory_bytes packages path))
    → HasReadFolder told (EndsWalk packages path (Ok fulls) F M)
walk_found packages path told fulls F M theory gives =
    folder_of told _ _ (λ May h. record { ended = tt; found = λ folder may. rw theory (h folder may).gives }) gives

-- an article requires none
pub article_walk : (packages path : List ℕ) (told : Option Folder) (fulls : Vec (String Global) Global)
    (F : List ℕ → Type 0) (M : Type 0) → is_theory path ≡ false → names_of fulls ≡ []
    → HasReadFolder told (EndsWalk packages path (Ok fulls) F M)
article_walk packages path told fulls F M article none =
    folder_none told _ (λ May. record { ended = tt; found = λ folder may. rw article (ap Ok (sym none)) })

-- where memory ran out the verdict says nothing
pub theory_ending : (P : Type 0) (r : Result Verdict NoMemory) → P → IfEnded (λ v. P) (ending_of r)
theory_ending P (Ok v) h = h
theory_ending P (Err memory) h = tt

-- ---- the run of the input

input_ended : (packages path : List ℕ) (I : Type 0) (F : List ℕ → Type 0) (M : Type 0) (May : World → Type 0)
    (o : Option (End Ran Stop))
    → IfSome (option_map (noted_end []) o) (λ e. HasTaskEnd (ShowReadable packages path) I F M e May) → (v : Verdict)
    → IsSomeAnd o (IsStopVerdict v) → HasEndedInput packages path I F M v May
input_ended packages path I F M May None ended v said = absurd said
input_ended packages path I F M May (Some (Finished r)) ended v said = absurd said
input_ended packages path I F M May (Some (Stopped s)) ended v said =
    AtStop s said ended.end ended.cause.0 ended.cause.1
input_ended packages path I F M May (Some (Failed p)) ended v said = AtFailure p said ended.cause

pub input_stopped : (packages path : List ℕ) (s : Session) (I : Type 0) (F : List ℕ → Type 0) (M : Type 0)
    (May : World → Type 0) (o : Option (End Ran Stop)) (r : Result Verdict NoMemory)
    → IfSome (option_map (noted_end []) o) (λ e. HasTaskEnd (ShowReadable packages path) I F M e May)
    → IfOk r (λ v. IsSomeAnd o (IsStopVerdict v)) → EndsInput packages path s (Err (ending_of r)) I F M May
input_stopped packages path s I F M May o r ended said = record {
  ended =
      ends_by (λ v. IsSomeAnd o (IsStopVerdict v)) (λ v. HasEndedInput packages path I F M v May) r
      (input_ended packages path I F M May o ended) said;
  ran = tt;
}

pub input_last : (P : Type 0) (o : Option (End Ran Stop)) → IfSome (option_map (noted_end []) o) (λ _. P)
    → (v : Verdict)
    → IsSomeAnd o (IsStopVerdict v) → P
input_last P None last v said = absurd said
input_last P (Some e) last v said = last

-- ---- the pattern

pub pattern_ended : (n : Noted) (pattern : List ℕ) (column : ℕ) (fault : TextFault) → 0 < column
    → (hidden : List (Symbol Name)) → IsNotation hidden → IsTermRefused hidden pattern (column - 1) fault
    → term_read (notation n) pattern ≡ Err (column - 1, fault)
    → (v : Verdict) → IsSaid v Refused (column_line pattern_path 1 column fault) → HasEndedPattern n pattern v
pattern_ended n pattern column fault first hidden is_notation by is v said =
    let same : column - 1 + 1 ≡ column = omega (arith, first) in
    let refused : RefusedLine = record { line = 1; column = column; fault = fault } in
    let own : IsPatternStop pattern refused = record {
      line_is = refl;
      column_is = first;
      hidden = hidden;
      notation = is_notation;
      is_refused = by;
    } in
    AtStop refused said (ap (at_line 1) is ∙ ap (λ k. Err (record { line = 1; column = k; fault = fault })) same)
    own (λ none. no_file none)

-- ---- an item of a list, between those before and behind it

pub cut_at : {X : Type 0} (xs : List X) (k : ℕ) (x : X) → k < length xs → x ≡ get_or xs k x
    → xs ≡ take k xs ++ x ∷ drop (suc k) xs
cut_at xs k x h is =
    sym (take-append-drop (suc k) xs)
    ∙ ap (λ ys. ys ++ drop (suc k) xs) (take-suc xs k x h ∙ ap (λ y. take k xs ++ y ∷ []) (sym is))
    ∙ append_assoc (take k xs) (x ∷ []) (drop (suc k) xs)

pub texts_cut : (xs : List (String Global)) (k : ℕ) (x : String Global) → k < length xs → x ≡ get_or xs k x
    → map string_bytes xs ≡ map string_bytes (take k xs) ++ string_bytes x ∷ map string_bytes (drop (suc k) xs)
texts_cut xs k x h is = ap (map string_bytes) (cut_at xs k x h is)
    ∙ map-append string_bytes (take k xs) (x ∷ drop (suc k) xs)

pub texts_more : (xs : List (String Global)) (k : ℕ) (x : String Global) → k < length xs → x ≡ get_or xs k x
    → map string_bytes (take k xs) ++ string_bytes x ∷ [] ≡ map string_bytes (take (k + 1) xs)
texts_more xs k x h is =
    let one : suc k ≡ k + 1 = omega arith in
    sym (map-append string_bytes (take k xs) (x ∷ []))
    ∙ ap (map string_bytes) (sym (take-suc xs k x h ∙ ap (λ y. take k xs ++ y ∷ []) (sym is))
    ∙ ap (λ n. take n xs) one)

pub middle_member : (front back : List (List ℕ)) (full : List ℕ) → IsMember full (front ++ full ∷ back)
middle_member [] back full = inl refl
middle_member (x ∷ front) back full = inr (middle_member front back full)

pub no_texts : (front back : List (List ℕ)) (full : List ℕ) → front ++ full ∷ back ≢ []
no_texts [] back full e = cc
no_texts (x ∷ front) back full e = cc

-- ---- the runs of packages

none_all : {X : Type 0} (P : X → Type 0) → All P []
none_all P i d here = absurd (omega (arith, here))

bind_ok : {A E : Type 0} (r : Result A E) → r ≡ r >>= λ x. Ok x
bind_ok (Ok x) = refl
bind_ok (Err e) = refl

bind_append : {X A E : Type 0} (a : Result X E) (b c : Result (List A) E) (one : X → A)
    → (a >>= λ x. (b >>= λ xs. c >>= λ ys. Ok (xs ++ ys)) >>= λ more. Ok (one x ∷ more))
    ≡ (a >>= λ x. b >>= λ more. Ok (one x ∷ more)) >>= λ xs. c >>= λ ys. Ok (xs ++ ys)
bind_append (Err e) b c one = refl
bind_append (Ok x) (Err e) c one = refl
bind_append (Ok x) (Ok xs) (Err e) one = refl
bind_append (Ok x) (Ok xs) (Ok ys) one = refl

module _ (packages : List ℕ) where
  module _ (folder : Folder) where
    abbrev one_run : List ℕ → Result Ran Stop
    one_run full = (theory_run packages (package_path packages full) folder).answer

    abbrev named : List ℕ → Ran → PackageRun
    named full ran = record { name = full; ran = ran }

    runs-append : (xs ys : List (List ℕ))
        → package_runs packages folder (xs ++ ys)
        ≡ package_runs packages folder xs >>= λ a. package_runs packages folder ys >>= λ b. Ok (a ++ b)
    runs-append [] ys = bind_ok (package_runs packages folder ys)
    runs-append (x ∷ xs) ys =
        ap (λ r. one_run x >>= λ ran. r >>= λ more. Ok (named x ran ∷ more)) (runs-append xs ys)
        ∙ bind_append (one_run x) (package_runs packages folder xs) (package_runs packages folder ys) (named x)

    runs_more : (front : List (List ℕ)) (full : List ℕ) (rs : List PackageRun) (r : Ran)
        → package_runs packages folder front ≡ Ok rs → one_run full ≡ Ok r
        → package_runs packages folder (front ++ full ∷ []) ≡ Ok (rs ++ named full r ∷ [])
    runs_more front full rs r before one = runs-append front (full ∷ []) ∙ rw (before, one) refl

    runs_stop : (front back : List (List ℕ)) (full : List ℕ) (rs : List PackageRun) (s : Stop)
        → package_runs packages folder front ≡ Ok rs → one_run full ≡ Err s
        → package_runs packages folder (front ++ full ∷ back) ≡ Err s
    runs_stop front back full rs s before one = runs-append front (full ∷ back) ∙ rw (before, one) refl

  -- none is run yet
  pub none_searched : (p : Tm Name) (s : Search) (May : Folder → Type 0) → AreSearched packages [] p s s May
  none_searched p s May = record {
    runs = [];
    runs_are = λ folder may. refl;
    each = refl;
    proved = none_all (λ q. IsProved (run_lists q.ran));
    found_more = λ fs has. subst (HasMatches s) (sym (append-nil fs)) has;
  }

  module _ (May Before Behind : Folder → Type 0) (first : IsPart May Before) (second : IsPart May Behind) where
    -- and one more
    pub one_searched : MatchesOfOneMore → (front : List (List ℕ)) (full : List ℕ) (p : Tm Name) (old mid new : Search)
        → AreSearched packages front p old mid Before
        → IsSearched packages full p mid new Behind → AreSearched packages (front ++ full ∷ []) p old new May
    one_searched law front full p old mid new a b =
        let r : PackageRun = record { name = full; ran = b.ran } in
        let more : matches p (map source_of (a.runs ++ r ∷ []))
        ≡ matches p (map source_of a.runs) ++ matches_in p full (exports_of b.ran) =
        ap (matches p) (map-append source_of a.runs (r ∷ [])) ∙ law p (map source_of a.runs) (source_of r) in
        record {
          runs = a.runs ++ r ∷ [];
          runs_are = λ folder may.
              runs_more folder front full a.runs b.ran (a.runs_are folder (first folder may))
              (b.ran_is folder (second folder may));
          each = map-append (λ q. q.name) a.runs (r ∷ []) ∙ ap (λ xs. xs ++ full ∷ []) a.each;
          proved =
              All-append (λ q. IsProved (run_lists q.ran)) a.runs (r ∷ []) a.proved
              (All-cons (λ q. IsProved (run_lists q.ran)) r [] b.proved (none_all (λ q. IsProved (run_lists q.ran))));
          found_more = λ fs has.
              subst (HasMatches new)
              (append_assoc fs (matches p (map source_of a.runs)) (matches_in p full (exports_of b.ran))
              ∙ ap (λ ms. fs ++ ms) (sym more))
              (b.found_more (fs ++ matches p (map source_of a.runs)) (a.found_more fs has));
        }

    -- the run of one ends the task
    pub runs_ended : (front back : List (List ℕ)) (full : List ℕ) (p : Tm Name)
        (old mid : Search) (F G : List ℕ → Type 0) (M N : Type 0)
        → ((file : List ℕ) → F file → G file) → (M → N) → AreSearched packages front p old mid Before
        → (v : Verdict) → HasEndedRun packages full F M v Behind
        → HasEndedRuns packages (front ++ full ∷ back) G N v May
    runs_ended front back full p old mid F G M N failed missed a v (AtStop s said is has cause) =
        AtStop s said
        (λ folder may. runs_stop folder front back full a.runs s (a.runs_are folder (first folder may))
        (is folder (second folder may)))
        (no_texts front back full) (λ none. missed (cause none))
    runs_ended front back full p old mid F G M N failed missed a v (AtFailure file said has) =
        AtFailure file said (record {
          front = front;
          full = full;
          back = back;
          among = refl;
          runs = a.runs;
          runs_are = λ folder may. a.runs_are folder (first folder may);
          opened = λ folder may. has.0 folder (second folder may);
          fails = failed file has.1;
        })

  pub package_ends : (fulls front back : List (List ℕ)) (full : List ℕ) (p : Tm Name) (old mid new : Search)
      (F G : List ℕ → Type 0) (M N : Type 0) (May Before Behind : Folder → Type 0) → IsPart May Before
      → IsPart May Behind → front ++ full ∷ back ≡ fulls → ((file : List ℕ) → F file → G file) → (M → N)
      → AreSearched packages front p old mid Before → (e : Ending)
      → EndsRun packages full p mid new (Err e) F M Behind → EndsRuns packages fulls p old new (Err e) G N May
  package_ends fulls front back full p old mid new F G M N May Before Behind first second cut failed missed a e h =
      record {
        ended =
            if_ended (λ v. HasEndedRun packages full F M v Behind) (λ v. HasEndedRuns packages fulls G N v May) e
            (λ v has. subst (λ (fs : List (List ℕ)). HasEndedRuns packages fs G N v May) cut
            (runs_ended May Before Behind first second front back full p old mid F G M N failed missed a v has))
            h.ended;
        searched = tt;
      }

  pub all_searched : (fulls : List (List ℕ)) (p : Tm Name) (old new : Search) (F : List ℕ → Type 0) (M : Type 0)
      (May : Folder → Type 0) → AreSearched packages fulls p old new May
      → EndsRuns packages fulls p old new (Ok tt) F M May
  all_searched fulls p old new F M May a = record { ended = tt; searched = a }

  -- the run of a package ends the task
  run_ended : (full : List ℕ) (F : List ℕ → Type 0) (M : Type 0) (May : Folder → Type 0) (o : Option (End Ran Stop))
      → IfSome o (λ e. HasTheoryEnd packages (package_path packages full) F M e May) → (v : Verdict)
      → IsSomeAnd o (IsStopVerdict v) → HasEndedRun packages full F M v May
  run_ended full F M May None ended v said = absurd said
  run_ended full F M May (Some (Finished r)) ended v said = absurd said
  run_ended full F M May (Some (Stopped s)) ended v said = AtStop s said ended.end tt ended.cause.1
  run_ended full F M May (Some (Failed file)) ended v said = AtFailure file said ended.cause

  pub run_stopped : (full : List ℕ) (p : Tm Name) (old new : Search) (F : List ℕ → Type 0) (M : Type 0)
      (May : Folder → Type 0) (o : Option (End Ran Stop)) (r : Result Verdict NoMemory)
      → IfSome o (λ e. HasTheoryEnd packages (package_path packages full) F M e May)
      → IfOk r (λ v. IsSomeAnd o (IsStopVerdict v))
      → EndsRun packages full p old new (Err (ending_of r)) F M May
  run_stopped full p old new F M May o r ended said = record {
    ended =
        ends_by (λ v. IsSomeAnd o (IsStopVerdict v)) (λ v. HasEndedRun packages full F M v May) r
        (run_ended full F M May o ended) said;
    searched = tt;
  }

  -- a package that was run, and searched
  pub run_searched : (full : List ℕ) (p : Tm Name) (old new : Search) (r : Result (Unit {0}) Ending)
      (F : List ℕ → Type 0) (M : Type 0) (May : Folder → Type 0) (ran : Ran)
      → AnswersIn May (λ folder. (theory_run packages (package_path packages full) folder).answer) (Ok ran)
      → IsProved (run_lists ran)
      → OnOk r ((fs : List Found) → HasMatches old fs → HasMatches new (fs ++ matches_in p full (exports_of ran)))
      → IfErr r (IfEnded (λ v. ⊥)) → EndsRun packages full p old new r F M May
  run_searched full p old new r F M May ran is proved found ended = record {
    ended = err_ended (λ v. ⊥) (λ v. HasEndedRun packages full F M v May) r (λ v none. absurd none) ended;
    searched =
        on_ok_more _ (IsSearched packages full p old new May) r
        (λ more. record { ran = ran; ran_is = is; proved = proved; found_more = more }) found;
  }

-- ---- the exports that are searched

pub found_exports : (s : Session) (seen : State) (es : List Export) (ths : List ℕ) → seen ≡ s.kernel
    → ths ≡ map (λ e. e.th) es
    → map (theorem_at seen) ths ≡ exports_of (ran_from s es)
found_exports s seen es ths same are =
    (λ i. map (theorem_at (same i)) (are i)) ∙ map-map (theorem_at s.kernel) (λ e. e.th) es ∙ sym (exports_are s es)

pub more_found : (p : Tm Name) (source : List ℕ) (old new : Search) (qs rs : List (Sequent Name)) (fs : List Found)
    → qs ≡ rs
    → new.max ≡ old.max → HasMatches old fs
    → HasFound new (fs ++ matches_in p source qs) → HasMatches new (fs ++ matches_in p source rs)
more_found p source old new qs rs fs same max h found = record {
  has = subst (λ (xs : List (Sequent Name)). HasFound new (fs ++ matches_in p source xs)) same found;
  max_is = max ∙ h.max_is;
}

-- ---- the search

theory_last : (path : List ℕ) (folder : Option Folder) (at : Option (List ℕ)) → is_theory path ≡ true
    → LastInput path folder at
theory_last path folder at theory = rw (no_standard path theory, theory) tt

pub leaves_more : {F S : Type 0} (path : List ℕ) (f g h : F) (i j : S) → LeavesOther path f g i j
    → (is_theory path ≡ true) ⊎ (h ≡ g) → LeavesOther path f h i j
leaves_more path f g h i j other (inl theory) = rw (no_standard path theory) (rw (no_standard path theory) at other)
leaves_more path f g h i j other (inr same) = subst (λ x. LeavesOther path f x i j) (sym same) other

pub last_more : {F : Type 0} (path : List ℕ) (folder : Option Folder) (at : F → Option (List ℕ)) (g h : F)
    → LastInput path folder (at g) → (is_theory path ≡ true) ⊎ (h ≡ g) → LastInput path folder (at h)
last_more path folder at g h last (inl theory) = theory_last path folder (at h) theory
last_more path folder at g h last (inr same) = subst (λ x. LastInput path folder (at x)) (sym same) last

pub theory_last_of : (path : List ℕ) (told : Option Folder) (at : Option (List ℕ)) (e : Ending)
    → IfEnded (λ v. is_theory path ≡ true) e → IfEnded (λ v. LastInput path told at) e
theory_last_of path told at e theory =
    if_ended (λ v. is_theory path ≡ true) (λ v. LastInput path told at) e (λ v. theory_last path told at) theory

no_runs : (rs : List PackageRun) (fulls : List (List ℕ)) → map (λ p. p.name) rs ≡ fulls → fulls ≡ [] → rs ≡ []
no_runs [] fulls each none = refl
no_runs (r ∷ rs) fulls each none = let e : r.name ∷ map (λ p. p.name) rs ≡ [] = each ∙ none in absurd cc

-- an article requires none
none_required : (path : List ℕ) (fulls : List (List ℕ)) → (is_theory path ≡ true) ⊎ (fulls ≡ [])
    → is_theory path ≡ false → fulls ≡ []
none_required path fulls (inl theory) article = let no : true ≡ false = sym theory ∙ article in absurd cc
none_required path fulls (inr none) article = none

pub none_asked : (path : List ℕ) (fulls : List (List ℕ)) → (is_theory path ≡ true) ⊎ (fulls ≡ [])
    → is_standard path ≡ true → fulls ≡ []
none_asked path fulls article standard = none_required path fulls article (no_theory path standard)

some_theory : (path : List ℕ) (fulls : List (List ℕ)) → (is_theory path ≡ true) ⊎ (fulls ≡ []) → fulls ≢ []
    → is_theory path ≡ true
some_theory path fulls (inl theory) some = theory
some_theory path fulls (inr none) some = absurd (some none)

-- a search by what each of its parts answers
abbrev pub search : (pattern : List ℕ) → Result (List (List ℕ)) Refusal → Result Noted Stop
    → (List (List ℕ) → Result (List PackageRun) Stop) → Result Searched FindStop
search pattern fulls ran runs =
    stops_as InRequired fulls >>= λ fs.
    stops_as InRun ran >>= λ n.
    stops_as InPattern (at_line 1 (term_read (notation n) pattern)) >>= λ p.
    stops_as InRun (runs fs) >>= λ ps.
    Ok (record { noted = n; pattern = p; packages = ps })

module _ (packages pattern path : List ℕ) where
  -- ---- how the stated search goes on

  module _ (world : World) where
    find_required : (r : Refusal) → required_at packages path world.folder ≡ Err r
        → find_at packages pattern path world ≡ Err (InRequired r)
    find_required r is =
        ap (λ a. search pattern a (noted_at packages path world) (package_runs packages world.folder)) is

    module _ (fulls : List (List ℕ)) (required : required_at packages path world.folder ≡ Ok fulls) where
      find_run : (s : Stop) → noted_at packages path world ≡ Err s
          → find_at packages pattern path world ≡ Err (InRun s)
      find_run s is = λ i. search pattern (required i) (is i) (package_runs packages world.folder)

      module _ (n : Noted) (ran : noted_at packages path world ≡ Ok n) where
        behind : (x : Result Searched FindStop)
            → search pattern (Ok fulls) (Ok n) (package_runs packages world.folder) ≡ x
            → find_at packages pattern path world ≡ x
        behind x is = (λ i. search pattern (required i) (ran i) (package_runs packages world.folder)) ∙ is

        find_pattern : (r : RefusedLine) → at_line 1 (term_read (notation n) pattern) ≡ Err r
            → find_at packages pattern path world ≡ Err (InPattern r)
        find_pattern r is = behind (Err (InPattern r)) (rw is refl)

        find_packages : (p : Tm Name) → term_read (notation n) pattern ≡ Ok p → (s : Stop)
            → package_runs packages world.folder fulls ≡ Err s
            → find_at packages pattern path world ≡ Err (InRun s)
        find_packages p reads s is = behind (Err (InRun s)) (rw (reads, is) refl)

        find_ends : (p : Tm Name) → term_read (notation n) pattern ≡ Ok p → (rs : List PackageRun)
            → package_runs packages world.folder fulls ≡ Ok rs
            → find_at packages pattern path world ≡ Ok (searched_of n p rs)
        find_ends p reads rs is = behind (Ok (searched_of n p rs)) (rw (reads, is) refl)

  -- ---- what ends its parts ends it

  walk_ends : (I : Type 0) (F : List ℕ → Type 0) (M : Type 0) (May : World → Type 0) (Folders : Folder → Type 0)
      → HasFolders May Folders → (v : Verdict) → HasEndedWalk packages path F M v Folders
      → HasEndedSearch packages pattern path I F M v May
  walk_ends I F M May Folders has v (AtStop r said is theory cause) =
      AtStop (InRequired r) said (λ world may. find_required world r (is world.folder (has world may))) theory cause
  walk_ends I F M May Folders has v (AtFailure file said h) =
      AtFailure file said (inr (h.0, λ world may. OfWalk file (h.1 world.folder (has world may)), h.2))

  pub walk_ends_search : (told : Option Folder) (left : Option (List ℕ)) (I : Type 0) (F : List ℕ → Type 0) (M : Type 0)
      (e : Ending) → HasReadFolder told (EndsWalk packages path (Err e) F M)
      → HasReadWorld told left left (EndsSearch packages pattern path (Err e) I F M)
  walk_ends_search told left I F M e walk =
      world_of_folder told left _ _ (λ May Folders has w. record {
        ended =
            if_ended (λ v. HasEndedWalk packages path F M v Folders)
            (λ v. HasEndedSearch packages pattern path I F M v May) e (walk_ends I F M May Folders has) w.ended;
        searched = tt;
      }) walk

  -- the packages are those that are required
  abbrev Require : (fulls : List (List ℕ)) → (May : World → Type 0) → Type 0
  Require fulls May = Every May (λ world. required_at packages path world.folder ≡ Ok fulls)

  input_ends : (fulls : List (List ℕ)) (I : Type 0) (F G : List ℕ → Type 0) (M N : Type 0)
      (May Behind : World → Type 0) → Require fulls May → IsPart May Behind
      → ((file : List ℕ) → F file → G file) → (M → N) → (v : Verdict) → HasEndedInput packages path I F M v Behind
      → HasEndedSearch packages pattern path I G N v May
  input_ends fulls I F G M N May Behind required part failed missed v (AtStop s said is own cause) =
      AtStop (InRun s) said
      (λ world may. find_run world fulls (required world may) s (is world (part world may))) own
      (λ none. missed (cause none))
  input_ends fulls I F G M N May Behind required part failed missed v (AtFailure file said h) =
      AtFailure file said (inl (
        more_path (is_standard path) ((file ≡ path) × I) _ _ (F file) (G file)
            (λ needed world may. needed world (part world may)) (failed file) h,
        λ world may. no_stop fulls (required_at packages path world.folder) (required world may),
      ))

  pub input_ends_search : (told : Option Folder) (left left' : Option (List ℕ)) (fulls : Vec (String Global) Global)
      (s : Session) (I : Type 0) (F₀ F G : List ℕ → Type 0) (M₀ M N : Type 0) (e : Ending)
      → ((file : List ℕ) → F file → G file) → (M → N)
      → HasReadFolder told (EndsWalk packages path (Ok fulls) F₀ M₀)
      → HasReadWorld told left left' (EndsInput packages path s (Err e) I F M)
      → HasReadWorld told left left' (EndsSearch packages pattern path (Err e) I G N)
  input_ends_search told left left' fulls s I F₀ F G M₀ M N e failed missed walk input =
      folder_then_world told left left' _ _ _ (λ May Folders Behind has part w i. record {
        ended =
            if_ended (λ v. HasEndedInput packages path I F M v Behind)
            (λ v. HasEndedSearch packages pattern path I G N v May) e
            (input_ends (names_of fulls) I F G M N May Behind (λ world may. w.found world.folder (has world may)) part
            failed missed)
            i.ended;
        searched = tt;
      }) walk input

  -- behind the run of the input
  module _ (fulls : List (List ℕ)) (n : Noted) (article : (is_theory path ≡ true) ⊎ (fulls ≡ []))
      (May : World → Type 0) (needs : Require fulls May) (ran : IsResult (ShowReadable packages path) May (Ok n))
      (Folders : Folder → Type 0) (has : HasFolders May Folders) (I : Type 0) (F G : List ℕ → Type 0) (M N : Type 0)
      (failed : (file : List ℕ) → F file → G file) (missed : M → N) where
    of_package : (p : Tm Name) → IsPattern n pattern p → (file : List ℕ) → is_theory path ≡ true
        → (h : IsRunFile packages fulls F Folders file)
        → Every May (λ world. IsSearchFile packages pattern path world.folder file)
    of_package p is_p file theory h = λ world may.
        let walked : required world.folder limits.theory_bytes packages path ≡ Ok fulls =
        rw theory at (needs world may) in
        let ended : noted (theory_shown path world.folder).answer (theory_run packages path world.folder).answer
        ≡ Ok n = rw (no_standard path theory, theory) at (ran world may) in
        OfPackage file h.full h.front h.back n p h.runs (walked ∙ ap Ok h.among) ended is_p.is_read
        (h.runs_are world.folder (has world may)) (h.opened world.folder (has world may))

    runs_end : (p : Tm Name) → IsPattern n pattern p → (v : Verdict) → HasEndedRuns packages fulls F M v Folders
        → HasEndedSearch packages pattern path I G N v May
    runs_end p is_p v (AtStop s said is some cause) =
        AtStop (InRun s) said
        (λ world may. find_packages world fulls (needs world may) n (ran world may) p is_p.is_read s
        (is world.folder (has world may)))
        (theory_stop path s (some_theory path fulls article some)) (λ none. missed (cause none))
    runs_end p is_p v (AtFailure file said h) =
        let theory = some_theory path fulls article (λ none. no_texts h.front h.back h.full (sym h.among ∙ none)) in
        AtFailure file said (inr (theory, of_package p is_p file theory h, failed file h.fails))

    behind_ends : (v : Verdict) → HasEndedBehind packages pattern n fulls F M v Folders
        → HasEndedSearch packages pattern path I G N v May
    behind_ends v (AtPattern (AtStop r said is own cause)) =
        AtStop (InPattern r) said
        (λ world may. find_pattern world fulls (needs world may) n (ran world may) r is) own (λ none. no_file none)
    behind_ends v (AtPattern (AtFailure file said none)) = absurd none
    behind_ends v (AtRuns p is_p ended) = runs_end p is_p v ended

    searched_ends : (search : Search) → HasSearchedBehind packages pattern path n fulls search Folders
        → HasSearched packages pattern path search May
    searched_ends search h = record {
      made = searched_of n h.term h.runs;
      ended = λ world may.
          find_ends world fulls (needs world may) n (ran world may) h.term h.is_pattern.is_read h.runs
          (h.runs_are world.folder (has world may));
      proved = h.proved;
      promised = record {
        reads = h.is_pattern.reads;
        matches_are = h.matches_are;
        proved = h.all_proved;
        none = λ no. no_runs h.runs fulls h.each (none_required path fulls article no);
      };
      found = h.found;
    }

    ends_search : (result : Result Search Ending)
        → EndsBehind packages pattern path n fulls result F M Folders
        → EndsSearch packages pattern path result I G N May
    ends_search result h = record {
      ended =
          err_ended (λ v. HasEndedBehind packages pattern n fulls F M v Folders)
          (λ v. HasEndedSearch packages pattern path I G N v May) result behind_ends h.ended;
      searched =
          ok_more (λ search. HasSearchedBehind packages pattern path n fulls search Folders)
          (λ search. HasSearched packages pattern path search May) result searched_ends h.searched;
    }

  -- what is required, and the run of the input, are these
  record HasInput (fulls : List (List ℕ)) (n : Noted) (May : World → Type 0) : Type 0 where
    needs : Require fulls May
    ran : IsResult (ShowReadable packages path) May (Ok n)

  pub search_ends_search : (told : Option Folder) (left left' : Option (List ℕ)) (fulls : Vec (String Global) Global)
      (s : Session) (run : NotedRun) (result : Result Search Ending) (I : Type 0) (F₀ F₁ F G : List ℕ → Type 0)
      (M₀ M₁ M N : Type 0)
      → (is_theory path ≡ true) ⊎ (names_of fulls ≡ []) → ((file : List ℕ) → F file → G file) → (M → N)
      → HasReadFolder told (EndsWalk packages path (Ok fulls) F₀ M₀)
      → HasReadWorld told left left' (EndsInput packages path s (Ok run) I F₁ M₁)
      → HasReadFolder told (EndsBehind packages pattern path (noted_of s run) (names_of fulls) result F M)
      → HasReadWorld told left left' (EndsSearch packages pattern path result I G N)
  search_ends_search told left left' fulls s run result I F₀ F₁ F G M₀ M₁ M N article failed missed walk input behind =
      let n = noted_of s run in
      let both : HasReadWorld told left left' (HasInput (names_of fulls) n) =
      folder_then_world told left left' _ _ _ (λ May Folders Behind has part w i. record {
        needs = λ world may. w.found world.folder (has world may);
        ran = λ world may. i.ran world (part world may);
      }) walk input in
      world_then_folder told left left' _ _ _ (λ May Before Folders part has h b.
      ends_search (names_of fulls) n article May (λ world may. h.needs world (part world may))
      (λ world may. h.ran world (part world may)) Folders has I F G M N failed missed result b) both behind

  -- ---- behind the run of the input

  module _ (n : Noted) (fulls : List (List ℕ)) (F : List ℕ → Type 0) (M : Type 0) (May : Folder → Type 0) where
    pub pattern_behind : (e : Ending) → IfEnded (HasEndedPattern n pattern) e
        → EndsBehind packages pattern path n fulls (Err e) F M May
    pattern_behind e ended = record {
      ended =
          if_ended (HasEndedPattern n pattern) (λ v. HasEndedBehind packages pattern n fulls F M v May) e
          (λ v has. AtPattern has) ended;
      searched = tt;
    }

    pub runs_behind : (p : Tm Name) → IsPattern n pattern p → (old new : Search) (e : Ending)
        → EndsRuns packages fulls p old new (Err e) F M May
        → EndsBehind packages pattern path n fulls (Err e) F M May
    runs_behind p is_p old new e h = record {
      ended =
          if_ended (λ v. HasEndedRuns packages fulls F M v May)
          (λ v. HasEndedBehind packages pattern n fulls F M v May) e (λ v has. AtRuns p is_p has) h.ended;
      searched = tt;
    }

    pub exports_behind : (e : Ending) → IfEnded (λ v. ⊥) e → EndsBehind packages pattern path n fulls (Err e) F M May
    exports_behind e none = record {
      ended =
          if_ended (λ v. ⊥) (λ v. HasEndedBehind packages pattern n fulls F M v May) e (λ v h. absurd h) none;
      searched = tt;
    }

    pub searched_behind : MatchesAreThose → MatchesOfOneMore → (p : Tm Name) → IsPattern n pattern p
        → (start mid end : Search) → IsProved (run_lists n.ran) → HasMatches start []
        → AreSearched packages fulls p start mid May
        → ((fs : List Found) → HasMatches mid fs → HasMatches end (fs ++ matches_in p path (exports_of n.ran)))
        → EndsBehind packages pattern path n fulls (Ok end) F M May
    searched_behind those more p is_p start mid end proved empty a last =
        let made = searched_of n p a.runs in
        record {
          ended = tt;
          searched = record {
            term = p;
            is_pattern = is_p;
            runs = a.runs;
            runs_are = a.runs_are;
            each = a.each;
            proved = proved;
            all_proved = a.proved;
            matches_are = (those p (sources path made) (found path made)).1 refl;
            found =
                subst (HasMatches end)
                (sym (more p (map source_of a.runs) (record { name = path; exports = exports_of n.ran })))
                (last (matches p (map source_of a.runs)) (a.found_more [] empty));
          };
        }

  -- ---- its verdict

  verdict_at : (I : Type 0) (F : List ℕ → Type 0) (M : Type 0) (May : World → Type 0) (v : Verdict)
      (e : End Searched FindStop) → IsVerdictOn (FindPattern packages pattern path) v e → HasTaskEnd (FindPattern packages pattern path) I F M e May → IsTaskVerdict (FindPattern packages pattern path) I F M v May
  verdict_at I F M May v e on ended = task_verdict {E = Unit {0}} I F M (FindPattern packages pattern path) May (Some e) (Ok v) on ended

  -- of a search that ended so
  ended_end : (I : Type 0) (F : List ℕ → Type 0) (M : Type 0) (May : World → Type 0) (v : Verdict)
      → HasEndedSearch packages pattern path I F M v May → IsTaskVerdict (FindPattern packages pattern path) I F M v May
  ended_end I F M May v (AtStop s said is own cause) =
      verdict_at I F M May v (Stopped s) said (record { end = is; cause = (own, cause) })
  ended_end I F M May v (AtFailure file said has) =
      verdict_at I F M May v (Failed file) said (record { end = λ world may. tt; cause = has })

  pub said_verdict : (I : Type 0) (F : List ℕ → Type 0) (M : Type 0) (May : World → Type 0) (v : Verdict)
      → EndsSearch packages pattern path (Err (endings.Said v)) I F M May → IsTaskVerdict (FindPattern packages pattern path) I F M v May
  said_verdict I F M May v h = ended_end I F M May v h.ended

  found_end : (I : Type 0) (F : List ℕ → Type 0) (M : Type 0) (May : World → Type 0) (search : Search)
      (h : HasSearched packages pattern path search May) → TextsNameOne → (v : Verdict)
      → IsPrinted summary_limit (find_text (found path h.made)) (large_line path) v
      → IsTaskVerdict (FindPattern packages pattern path) I F M v May
  found_end I F M May search h one v ends =
      verdict_at I F M May v (Finished h.made)
      (record { ends = ends; proved = h.proved; promised = λ fit. h.promised; one_text = one })
      (record { end = h.ended; cause = tt })

  pub found_verdict : {E : Type 0} (I : Type 0) (F : List ℕ → Type 0) (M : Type 0) (May : World → Type 0)
      (search : Search) (r : Result Verdict E) → TextsNameOne
      → ((fs : List Found) → HasMatches search fs
      → IfOk r (IsPrinted summary_limit (find_text fs) (large_line path)))
      → EndsSearch packages pattern path (Ok search) I F M May → IfOk r (λ v. IsTaskVerdict (FindPattern packages pattern path) I F M v May)
  found_verdict I F M May search r one ends h =
      let s = h.searched in
      ok_more (IsPrinted summary_limit (find_text (found path s.made)) (large_line path)) (λ v. IsTaskVerdict (FindPattern packages pattern path) I F M v May) r
      (found_end I F M May search s one) (ends (found path s.made) s.found)
