-- The result of the check of a log.
use Rattle.std.proofs.Common.{◌≡◌, ◌∙◌, List, ℕ, inl, ap, sym, refl}
use Rattle.ot_logic.specs.Limits.{article_limit}
use Rattle.std.specs.Prelude.{true, false, Option, Some, None, IfSome, Result, Ok, Err, IfOk}
use Rattle.std.proofs.lemmas.Option.{slice_get-get_or}
use Rattle.ot_io.specs.Folder.{Folder, bytes_at, GivesFile}
use Rattle.ot_io.specs.Reading.{HasRead}
use Rattle.ot_io.specs.Readings.{HasReadFiles}
use Rattle.ot_io.proofs.Readings.{Files-map, Files-one, Files-missing}
use Rattle.ot_print.specs.Laws.{TextsNameOne}
use Rattle.ot_verify.specs.Reading.{log_check}
use Rattle.ot_verify.specs.Verifying.{Proved, AreProved, Verifies}
use Rattle.ot_program.specs.World.{World, HasReadWorld, is_standard}
use Rattle.ot_program.specs.Tasks.{CheckLog}
use Rattle.ot_program.specs.Command.{IsProved, End, Finished, IsAnswer, HasCause}
use Rattle.ot_program.specs.CheckLog.{LogStop, NoLog, log_lists, log_end, check_bytes, check_file, log_status}
use Rattle.ot_program.specs.CheckLog.{log_end_of}
use Rattle.ot_program.specs.Endings.{HasTaskCause, HasTaskEnd}
use Rattle.ot_program.specs.Verdicts.{EndsAs, IsVerdictOf}
use Rattle.ot_program.specs.declared.report.Verdict.{Verdict}
use Rattle.ot_program.specs.declared.log.LogRefusal.{LogRefusal}
use Rattle.ot_program.specs.declared.log.LogRefusal.TheVariants as refusals
use Rattle.ot_program.proofs.TaskEnds.{task_ended, input_path, file_path}
use Rattle.ot_program.proofs.Worlds.{world_of_input, world_of_files}

-- what it ends with is proved
pub log_proved : (p : Proved) → AreProved p → IsProved (log_lists p)
log_proved p proved = record {
  assumptions = λ i d within. proved.assumptions i _ (slice_get-get_or p.assumptions i d within);
  accepted = proved.accepted;
  theorems = λ i d within. proved.results i _ (slice_get-get_or p.results i d within);
}

-- the check of these bytes is that of the log, whose limit this is
pub log_accepted : (p : Proved) (max : ℕ) (bytes : List ℕ) → max ≡ article_limit
    → Verifies (Ok p) (log_check max bytes) → check_bytes bytes ≡ Ok p
log_accepted p max bytes limit h =
    ap (λ n. log_end (log_check n bytes)) (sym limit) ∙ ap log_end h.1 ∙ ap Ok (sym h.2)

-- the verdict on a log that ends
pub log_ended : {E : Type 0} (path : List ℕ) (p : Proved) (a : Result Verdict E) → IfOk a (EndsAs (CheckLog path) p)
    → AreProved p
    → TextsNameOne → IfOk a (IsVerdictOf (CheckLog path) (Some (Finished p)))
log_ended path p (Err e) ends proved one = tt
log_ended path p (Ok v) ends proved one =
    record { ends = ends; proved = log_proved p proved; promised = λ fit. tt; one_text = one }

module _ (path : List ℕ) (told : Option Folder) (I : Type 0) (F : List ℕ → Type 0) (M : Type 0)
    (r : Result Proved LogRefusal) where
  abbrev ended : Option (End Proved LogStop)
  ended = log_end_of path r

  -- the log on standard input ends as the bytes say that were read
  standard_cause : (May : World → Type 0) → is_standard path ≡ true
      → IfSome ended (HasCause log_status (λ stop. Unit {0}) (λ failed. I) ⊥)
      → IfSome ended (HasTaskCause (CheckLog path) May I F M)
  standard_cause May is cause = go r cause where
    go : (a : Result Proved LogRefusal)
        → IfSome (log_end_of path a) (HasCause log_status (λ stop. Unit {0}) (λ failed. I) ⊥)
        → IfSome (log_end_of path a) (HasTaskCause (CheckLog path) May I F M)
    go (Ok p) cause = tt
    go (Err (refusals.At line fault)) cause = (tt, λ none. absurd (cause.1 none))
    go (Err refusals.NoFile) cause = (tt, λ none. absurd (cause.1 none))
    go (Err refusals.ReadFault) cause = input_path path _ I F path is refl cause
    go (Err (refusals.Memory memory)) cause = tt

  pub standard_checked : (left left' : Option (List ℕ)) (E : Type 0) → is_standard path ≡ true
      → HasRead left left' E (λ bytes rest. (p : List ℕ) → IfSome (log_end_of p r) (IsAnswer (check_bytes bytes)))
      → IfSome ended (HasCause log_status (λ stop. Unit {0}) (λ failed. I) ⊥)
      → HasReadWorld told left left' (λ May. IfSome ended (λ e. HasTaskEnd (CheckLog path) I F M e May))
  standard_checked left left' E is checked cause =
      world_of_input told left left' E _ _ (λ May all.
      task_ended (CheckLog path) I F M May ended (λ world may. rw is (all world may path))
      (standard_cause May is cause)) checked

  -- and that of a file as the file's
  file_cause : (May : World → Type 0) (R : Type 0) → is_standard path ≡ false → (R → F path)
      → IfSome ended (HasCause log_status (λ stop. Unit {0}) (λ failed. R) M)
      → IfSome ended (HasTaskCause (CheckLog path) May I F M)
  file_cause May R is failed cause = go r cause where
    go : (a : Result Proved LogRefusal)
        → IfSome (log_end_of path a) (HasCause log_status (λ stop. Unit {0}) (λ failed. R) M)
        → IfSome (log_end_of path a) (HasTaskCause (CheckLog path) May I F M)
    go (Ok p) cause = tt
    go (Err (refusals.At line fault)) cause = (tt, cause.1)
    go (Err refusals.NoFile) cause = (tt, cause.1)
    go (Err refusals.ReadFault) cause = file_path path _ I F path is (λ world may. rw is (inl refl)) (failed cause)
    go (Err (refusals.Memory memory)) cause = tt

  pub file_checked : (left : Option (List ℕ)) (R : Type 0) → is_standard path ≡ false → (R → F path)
      → HasReadFiles told (λ folder. IfSome ended (IsAnswer (check_file path folder)))
      → IfSome ended (HasCause log_status (λ stop. Unit {0}) (λ failed. R) M)
      → HasReadWorld told left left (λ May. IfSome ended (λ e. HasTaskEnd (CheckLog path) I F M e May))
  file_checked left R is failed checked cause =
      world_of_files told left _ _ (λ May all.
      task_ended (CheckLog path) I F M May ended (λ world may. rw is (all world may))
      (file_cause May R is failed cause)) checked

-- of a file that was opened
pub opened_checked : (told : Option Folder) (path : List ℕ) (left left' : Option (List ℕ)) (E : Type 0)
    (r : Result Proved LogRefusal)
    → IfSome told (λ folder. GivesFile folder path left)
    → HasRead left left' E (λ bytes rest. (p : List ℕ) → IfSome (log_end_of p r) (IsAnswer (check_bytes bytes)))
    → HasReadFiles told (λ folder. IfSome (log_end_of path r) (IsAnswer (check_file path folder)))
opened_checked told path left left' E r gives checked =
    Files-map told _ _ (λ folder h. rw h.1 (h.2 path))
    (Files-one told path left left' E
    (λ bytes. (p : List ℕ) → IfSome (log_end_of p r) (IsAnswer (check_bytes bytes))) gives checked)

-- of one that is missing
pub missing_checked : (told : Option Folder) (path : List ℕ) → IfSome told (λ folder. bytes_at folder path ≡ None)
    → HasReadFiles told (λ folder. check_file path folder ≡ Err NoLog)
missing_checked told path none = Files-map told _ _ (λ folder is. rw is refl) (Files-missing told path none)
