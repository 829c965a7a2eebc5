-- How the run of an input ends.
use Rattle.std.proofs.Common.{◌≡◌, ◌∙◌, ℕ, List, [], inl, refl, sym, ap, subst}
use Rattle.std.specs.Prelude.{Bool, true, false, if◌then◌else◌, MatchBool, codes, Option, Some, None, IfSome, IfOk, IfErr}
use Rattle.std.specs.Prelude.{Result, Ok, Err, Vec, string_bytes}
use Rattle.std.proofs.lemmas.Slice.Eq.{bytes_eq-Decides}
use Rattle.std.specs.Global.{Global}
use Rattle.std.specs.Option.{option_map}
use Rattle.ot_logic.specs.Names.{Name}
use Rattle.ot_logic.specs.Faults.{Fault}
use Rattle.ot_logic.specs.declared.limits.Limits.{Limits}
use Rattle.ot_logic.specs.Limits.{article_limit, standard_limits}
use Rattle.ot_io.specs.Causes.{CountRose}
use Rattle.ot_io.specs.Folder.{Folder, bytes_at, GivesFile}
use Rattle.ot_io.specs.Reading.{HasRead}
use Rattle.ot_io.specs.Readings.{HasReadFiles}
use Rattle.ot_io.proofs.Reading.{HasRead-map}
use Rattle.ot_io.proofs.Readings.{Files-map, Files-one, Files-missing}
use Rattle.ot_args.specs.Grammar.{is_theory}
use Rattle.ot_machine.specs.declared.session.Session.{Session}
use Rattle.ot_machine.specs.declared.machine.Export.{Export}
use Rattle.ot_scan.specs.Lines.{lines_of}
use Rattle.ot_machine.specs.States.{no_context}
use Rattle.ot_machine.specs.Run.{run}
use Rattle.ot_link.specs.Stops.{Stop, InArticle, Missing, Linked, answered_by}
use Rattle.ot_link.specs.Blocks.{Ran, article_end}
use Rattle.ot_link.specs.Lawful.{IsLawfulSession, AreLawfulOnce}
use Rattle.ot_link.specs.Link.{link}
use Rattle.ot_link.specs.Answers.{Comes, ran_of, IsOfArticle, HasFailed, HasCause as HasLinkCause}
use Rattle.ot_link.specs.declared.fault.LinkFault.{LinkFault}
use Rattle.ot_link.specs.declared.fault.LinkFault.TheVariants as faults
use Rattle.ot_program.specs.World.{World, Every, HasReadWorld, HasReadFolder, is_standard}
use Rattle.ot_program.specs.Tasks.{RunInput}
use Rattle.ot_program.specs.Runs.{limits, start, outcome, theory_run, standard_run, article_run, run_at, IsOwnStop}
use Rattle.ot_program.specs.Runs.{IsInputStop}
use Rattle.ot_program.specs.Answer.{FileFailed}
use Rattle.ot_program.specs.Endings.{end_of, HasTaskCause, HasTaskEnd, HasOwnCause, HasTheoryCause, HasTheoryEnd}
use Rattle.ot_program.specs.Command.{End, Finished, Stopped, Failed, IsAnswer}
use Rattle.ot_program.specs.Verdicts.{IsLawfulEnds}
use Rattle.ot_program.specs.declared.task.View.{View}
use Rattle.ot_program.proofs.Options.{if_some}
use Rattle.ot_program.proofs.TaskEnds.{every_some, task_ended, input_path, file_path}
use Rattle.ot_program.proofs.Worlds.{HasFolders, folder_of, world_of_input, world_of_folder, world_of_files}

-- ---- theory files

pub limits_are : (l : Limits) → l ≡ standard_limits → l ≡ limits
unfolding limits
limits_are l same = same

-- a link with the limits of the program
linked : (s : Session) (r : Result (Vec Export Global) LinkFault) (packages path : List ℕ) (folder : Folder)
    (l : Limits)
    → l ≡ limits
    → Comes s.kernel (ran_of s) r (link (record { folder = folder; packages = packages; limits = l }) path)
    → Comes s.kernel (ran_of s) r (theory_run packages path folder)
unfolding theory_run
linked s r packages path folder l same comes =
    subst (λ (m : Limits). Comes s.kernel (ran_of s) r
    (link (record { folder = folder; packages = packages; limits = m }) path))
    same comes

comes_answer : (s : Session) (r : Result (Vec Export Global) LinkFault) (l : Linked Ran)
    → Comes s.kernel (ran_of s) r l
    → IfSome (end_of s r) (IsAnswer l.answer)
comes_answer s (Ok exports) l comes = comes
comes_answer s (Err (faults.Article path line fault)) l comes = rw comes.1 comes.2
comes_answer s (Err (faults.Theory path line fault)) l comes = comes
comes_answer s (Err (faults.Structure path line fault)) l comes = comes
comes_answer s (Err (faults.TheoryTooLarge path)) l comes = comes
comes_answer s (Err (faults.NoFile path)) l comes = comes
comes_answer s (Err (faults.ReadFault path)) l comes = tt
comes_answer s (Err (faults.Memory memory)) l comes = tt

-- what holds of the end at each fault of an article holds of the end at this one
pub article_ends : (P : End Ran Stop → Type 0) (o : Option (Fault Name)) (path : List ℕ) (line : ℕ)
    → ((f : Fault Name) → P (Stopped (InArticle path line f)))
    → IfSome (option_map (λ f. Stopped (InArticle path line f)) o) P
article_ends P None path line holds = tt
article_ends P (Some f) path line holds = holds f

-- a failure of a theory file's run is at a file that it needs, and a missing file was counted
theory_cause : (s : Session) (r : Result (Vec Export Global) LinkFault) (packages path : List ℕ)
    (May : Folder → Type 0) (at : Option (List ℕ)) (m m' f f' : ℕ)
    → Every May (λ folder. Comes s.kernel (ran_of s) r (theory_run packages path folder))
    → IfErr r (λ e. HasLinkCause e m m' f f' at)
    → IfSome (end_of s r) (HasTheoryCause packages path May (FileFailed at f f') (CountRose m m'))
theory_cause s (Ok exports) packages path May at m m' f f' comes cause = tt
theory_cause s (Err (faults.Article p line fault)) packages path May at m m' f f' comes cause =
    article_ends (HasTheoryCause packages path May (FileFailed at f f') (CountRose m m')) _ (string_bytes p) line
    (λ g. (tt, λ is. absurd cc))
theory_cause s (Err (faults.Theory p line fault)) packages path May at m m' f f' comes cause = (tt, λ is. absurd cc)
theory_cause s (Err (faults.Structure p line fault)) packages path May at m m' f f' comes cause =
    (tt, λ is. absurd cc)
theory_cause s (Err (faults.TheoryTooLarge p)) packages path May at m m' f f' comes cause = (tt, λ is. absurd cc)
theory_cause s (Err (faults.NoFile p)) packages path May at m m' f f' comes cause = (tt, λ is. cause)
theory_cause s (Err (faults.ReadFault p)) packages path May at m m' f f' comes cause = (comes, cause)
theory_cause s (Err (faults.Memory memory)) packages path May at m m' f f' comes cause = tt

theory_end : (packages path : List ℕ) (May : Folder → Type 0) (F : List ℕ → Type 0) (M : Type 0)
    (o : Option (End Ran Stop))
    → IfSome o (λ e. Every May (λ folder. IsAnswer (theory_run packages path folder).answer e))
    → IfSome o (HasTheoryCause packages path May F M) → IfSome o (λ e. HasTheoryEnd packages path F M e May)
theory_end packages path May F M None ended cause = tt
theory_end packages path May F M (Some e) ended cause = record { end = ended; cause = cause }

-- the run of a theory file ends as is stated of each folder that agrees with what was read
pub theory_ran : (s : Session) (r : Result (Vec Export Global) LinkFault) (packages path : List ℕ)
    (told : Option Folder) (l : Limits) (at : Option (List ℕ)) (m m' f f' : ℕ)
    → l ≡ limits
    → HasReadFiles told (λ folder. Comes s.kernel (ran_of s) r
    (link (record { folder = folder; packages = packages; limits = l }) path))
    → IfErr r (λ e. HasLinkCause e m m' f f' at)
    → HasReadFolder told (λ May. IfSome (end_of s r)
    (λ e. HasTheoryEnd packages path (FileFailed at f f') (CountRose m m') e May))
theory_ran s r packages path told l at m m' f f' same links cause =
    folder_of told _ _ (λ May comes.
    let ran : Every May (λ folder. Comes s.kernel (ran_of s) r (theory_run packages path folder)) =
    λ folder may. linked s r packages path folder l same (comes folder may) in
    theory_end packages path May (FileFailed at f f') (CountRose m m') (end_of s r)
    (every_some May (λ folder. IsAnswer (theory_run packages path folder).answer) (end_of s r)
    (λ folder may. comes_answer s r (theory_run packages path folder) (ran folder may)))
    (theory_cause s r packages path May at m m' f f' ran cause)) links

-- ---- an article on its own

alone_bytes : (s : Session) (r : Result (Vec Export Global) LinkFault) (path bytes : List ℕ) (max : ℕ)
    → max ≡ article_limit
    → Comes s.kernel (ran_of s) r (answered_by path (article_end path (run no_context (lines_of max bytes) start)))
    → IfSome (end_of s r) (IsAnswer (article_end path (outcome bytes)))
alone_bytes s r path bytes max limit comes =
    comes_answer s r (answered_by path (article_end path (outcome bytes)))
    (subst (λ n. Comes s.kernel (ran_of s) r
    (answered_by path (article_end path (run no_context (lines_of n bytes) start))))
    limit comes)

-- it answers what is stated
pub alone_ran : (s : Session) (r : Result (Vec Export Global) LinkFault) (path : List ℕ) (left left' : Option (List ℕ))
    (E : Type 0) (max : ℕ)
    → max ≡ article_limit
    → HasRead left left' E (λ bytes rest. Comes s.kernel (ran_of s) r
    (answered_by path (article_end path (run no_context (lines_of max bytes) start))))
    → HasRead left left' E (λ bytes rest. IfSome (end_of s r) (IsAnswer (article_end path (outcome bytes))))
alone_ran s r path left left' E max limit ran =
    HasRead-map ran (λ e. e) (λ bytes rest comes. alone_bytes s r path bytes max limit comes)

-- at its own path, and it fails only where its source does
pub alone_cause : (s : Session) (r : Result (Vec Export Global) LinkFault) (path : List ℕ) (f f' : ℕ)
    → IfErr r (IsOfArticle path)
    → IfErr r (λ e. HasFailed e f f') → IfSome (end_of s r) (HasOwnCause path (CountRose f f') ⊥)
alone_cause s (Ok exports) path f f' own cause = tt
alone_cause s (Err (faults.Article p line fault)) path f f' own cause =
    article_ends (HasOwnCause path (CountRose f f') ⊥) _ (string_bytes p) line (λ g. (own, λ is. absurd cc))
alone_cause s (Err (faults.Theory p line fault)) path f f' own cause = absurd own
alone_cause s (Err (faults.Structure p line fault)) path f f' own cause = absurd own
alone_cause s (Err (faults.TheoryTooLarge p)) path f f' own cause = absurd own
alone_cause s (Err (faults.NoFile p)) path f f' own cause = absurd own
alone_cause s (Err (faults.ReadFault p)) path f f' own cause = (own, cause)
alone_cause s (Err (faults.Memory memory)) path f f' own cause = tt

-- ---- the run of an input

-- the stop of an article is one of the input
own_stop : (path : List ℕ) (s : Stop) → IsOwnStop path s → IsInputStop path s
own_stop path s own = go (is_theory path) where
  go : (b : Bool) → MatchBool b (Unit {0}) (IsOwnStop path s)
  go true = tt
  go false = own

pub theory_stop : (path : List ℕ) (s : Stop) → is_theory path ≡ true → IsInputStop path s
theory_stop path s theory = rw theory tt

-- standard input is no theory file
pub no_standard : (path : List ℕ) → is_theory path ≡ true → is_standard path ≡ false
no_standard path theory = go (is_standard path) refl where
  go : (b : Bool) → is_standard path ≡ b → b ≡ false
  go false e = refl
  go true e =
      let is : path ≡ codes "-" = (bytes_eq-Decides path (codes "-")).0 e in
      let other : false ≡ true = sym (ap is_theory is) ∙ theory in
      cc

pub no_theory : (path : List ℕ) → is_standard path ≡ true → is_theory path ≡ false
no_theory path standard = ap is_theory ((bytes_eq-Decides path (codes "-")).0 standard)

-- the run is that of the path's kind
module _ (packages path : List ℕ) (world : World) where
  abbrev run_if : Bool → Bool → Linked Ran
  run_if standard theory =
      if standard then standard_run path world.input
      else if theory then theory_run packages path world.folder
      else article_run path world.folder

  standard_is : is_standard path ≡ true → run_at packages path world ≡ standard_run path world.input
  standard_is standard = λ i. run_if (standard i) (is_theory path)

  pub theory_is : is_theory path ≡ true → run_at packages path world ≡ theory_run packages path world.folder
  theory_is theory = λ i. run_if (no_standard path theory i) (theory i)

  file_is : is_standard path ≡ false → is_theory path ≡ false
      → run_at packages path world ≡ article_run path world.folder
  file_is standard article = λ i. run_if (standard i) (article i)

abbrev Ends : Option (End Ran Stop) → Linked Ran → Type 0
Ends o l = IfSome o (IsAnswer l.answer)

module _ (packages path : List ℕ) (view : View) (told : Option Folder) (I : Type 0) (F : List ℕ → Type 0)
    (M : Type 0) where
  -- on standard input
  standard_cause : (May : World → Type 0) (e : End Ran Stop) → is_standard path ≡ true → HasOwnCause path I ⊥ e
      → HasTaskCause (RunInput packages path view) May I F M e
  standard_cause May (Finished r) is cause = tt
  standard_cause May (Stopped s) is cause = (own_stop path s cause.0, λ none. absurd (cause.1 none))
  standard_cause May (Failed p) is cause = input_path path _ I F p is cause.0 cause.1

  pub standard_ran : (left left' : Option (List ℕ)) (E : Type 0) (o : Option (End Ran Stop)) → is_standard path ≡ true
      → HasRead left left' E (λ bytes rest. IfSome o (IsAnswer (article_end path (outcome bytes))))
      → IfSome o (HasOwnCause path I ⊥)
      → HasReadWorld told left left' (λ May. IfSome o (λ e. HasTaskEnd (RunInput packages path view) I F M e May))
  standard_ran left left' E o is ran cause =
      world_of_input told left left' E _ _ (λ May ended.
      task_ended (RunInput packages path view) I F M May o (λ world may. subst (Ends o) (sym (standard_is packages path world is)) (ended world may))
      (if_some (HasOwnCause path I ⊥) (HasTaskCause (RunInput packages path view) May I F M) o (λ e. standard_cause May e is) cause)) ran

  -- of a theory file
  theory_task_cause : (May : World → Type 0) (Folders : Folder → Type 0) (e : End Ran Stop) → HasFolders May Folders
      → is_theory path ≡ true → HasTheoryCause packages path Folders F M e → HasTaskCause (RunInput packages path view) May I F M e
  theory_task_cause May Folders (Finished r) has theory cause = tt
  theory_task_cause May Folders (Stopped s) has theory cause = (theory_stop path s theory, cause.1)
  theory_task_cause May Folders (Failed p) has theory cause =
      file_path path _ I F p (no_standard path theory)
      (λ world may. rw (no_standard path theory, theory) (cause.0 world.folder (has world may))) cause.1

  theory_task_end : (May : World → Type 0) (Folders : Folder → Type 0) (o : Option (End Ran Stop))
      → HasFolders May Folders → is_theory path ≡ true
      → IfSome o (λ e. HasTheoryEnd packages path F M e Folders) → IfSome o (λ e. HasTaskEnd (RunInput packages path view) I F M e May)
  theory_task_end May Folders None has theory ended = tt
  theory_task_end May Folders (Some e) has theory ended = record {
    end = λ world may.
        subst (Ends (Some e)) (sym (theory_is packages path world theory)) (ended.end world.folder (has world may));
    cause = theory_task_cause May Folders e has theory ended.cause;
  }

  pub theory_task_ran : (left : Option (List ℕ)) (o : Option (End Ran Stop)) → is_theory path ≡ true
      → HasReadFolder told (λ May. IfSome o (λ e. HasTheoryEnd packages path F M e May))
      → HasReadWorld told left left (λ May. IfSome o (λ e. HasTaskEnd (RunInput packages path view) I F M e May))
  theory_task_ran left o theory ran =
      world_of_folder told left _ _ (λ May Folders has ended. theory_task_end May Folders o has theory ended) ran

  -- of an article's file
  module _ (standard : is_standard path ≡ false) (article : is_theory path ≡ false) (R : Type 0) where
    file_cause : (May : World → Type 0) (e : End Ran Stop) → (R → F path) → HasOwnCause path R M e
        → HasTaskCause (RunInput packages path view) May I F M e
    file_cause May (Finished r) failed cause = tt
    file_cause May (Stopped s) failed cause = (own_stop path s cause.0, cause.1)
    file_cause May (Failed p) failed cause =
        file_path path _ I F p standard (λ world may. rw (standard, article) (inl (sym cause.0)))
        (subst F (sym cause.0) (failed cause.1))

    file_causes : (May : World → Type 0) (o : Option (End Ran Stop)) → IfSome o (λ _. R → F path)
        → IfSome o (HasOwnCause path R M) → IfSome o (HasTaskCause (RunInput packages path view) May I F M)
    file_causes May None failed cause = tt
    file_causes May (Some e) failed cause = file_cause May e failed cause

    pub file_ran : (left : Option (List ℕ)) (o : Option (End Ran Stop)) → IfSome o (λ _. R → F path)
        → HasReadFiles told (λ folder. IfSome o (IsAnswer (article_run path folder).answer))
        → IfSome o (HasOwnCause path R M)
        → HasReadWorld told left left (λ May. IfSome o (λ e. HasTaskEnd (RunInput packages path view) I F M e May))
    file_ran left o failed ran cause =
        world_of_files told left _ _ (λ May ended.
        task_ended (RunInput packages path view) I F M May o
        (λ world may. subst (Ends o) (sym (file_is packages path world standard article)) (ended world may))
        (file_causes May o failed cause)) ran

-- ---- an article's file

-- that was opened, as its bytes say
pub opened_ran : (told : Option Folder) (path : List ℕ) (left left' : Option (List ℕ)) (E : Type 0)
    (o : Option (End Ran Stop))
    → IfSome told (λ folder. GivesFile folder path left)
    → HasRead left left' E (λ bytes rest. IfSome o (IsAnswer (article_end path (outcome bytes))))
    → HasReadFiles told (λ folder. IfSome o (IsAnswer (article_run path folder).answer))
opened_ran told path left left' E o gives ran =
    Files-map told _ _ (λ folder h. rw h.1 h.2)
    (Files-one told path left left' E (λ bytes. IfSome o (IsAnswer (article_end path (outcome bytes)))) gives ran)

-- that is missing
pub missing_ran : (told : Option Folder) (path name : List ℕ) → name ≡ path
    → IfSome told (λ folder. bytes_at folder path ≡ None)
    → HasReadFiles told (λ folder. (article_run path folder).answer ≡ Err (Missing name))
missing_ran told path name same none =
    Files-map told _ _ (λ folder is. rw is (ap (λ z. Err (Missing z)) (sym same))) (Files-missing told path none)

-- ---- what is lawful

pub lawful_ends : (s : Session) (es : List Export) → IsLawfulSession s → AreLawfulOnce s es → IsLawfulEnds s es
lawful_ends s es run once =
    record { run = run; exports = once.exports.lawful; stated = once.exports.stated; apart = once.apart }

pub lawful_end : {E : Type 0} (s : Session) (r : Result (Vec Export Global) E) → IsLawfulSession s
    → IfOk r (λ es. AreLawfulOnce s es.items) → IfOk r (λ es. IsLawfulEnds s es.items)
lawful_end s (Ok es) run once = lawful_ends s es.items run once
lawful_end s (Err e) run once = tt
