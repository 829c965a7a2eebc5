-- The reading of a text under the notation of a run.
use Rattle.std.proofs.Common.{◌≡◌, ℕ, ◌<◌, ◌≤◌, List, [], length}
use Rattle.std.proofs.Common.{map, refl, sym, ap, subst, ◌∙◌, inl, inr, ◌⊎◌}
use Rattle.std.specs.Prelude.{Bool, true, false, ◌||◌, MatchBool, Option, Some}
use Rattle.std.specs.Prelude.{None, IfSome, IsSomeAnd, Result, Ok, Err, IfOk, IfErr, Vec}
use Rattle.std.specs.Global.{Global}
use Rattle.std.proofs.lemmas.Bool.{le-leb, lt-leb}
use Rattle.std.specs.Option.{option_map, option_and_then}
use Rattle.ot_logic.specs.Answers.{◌>>=◌}
use Rattle.ot_logic.specs.Names.{Name}
use Rattle.ot_logic.specs.Trees.{Tm, Sequent, Symbol}
use Rattle.ot_logic.specs.Limits.{text_limit}
use Rattle.ot_io.specs.Folder.{Folder, path_asked, bytes_at}
use Rattle.ot_io.specs.Readings.{HasReadFiles}
use Rattle.ot_io.proofs.Readings.{Files-map}
use Rattle.ot_args.specs.Grammar.{is_theory}
use Rattle.ot_kernel.specs.State.{State}
use Rattle.ot_machine.specs.Meaning.{IsRun}
use Rattle.ot_machine.specs.declared.machine.Export.{Export}
use Rattle.ot_machine.specs.declared.session.Session.{Session}
use Rattle.ot_link.specs.Stops.{Stop}
use Rattle.ot_link.specs.Blocks.{Ran}
use Rattle.ot_parse.specs.declared.readable.Readable.{Readable}
use Rattle.ot_parse.specs.Plain.{sequent_of}
use Rattle.ot_theory.specs.Lines.{LineText}
use Rattle.ot_forms.specs.Words.{IsNotation}
use Rattle.ot_pretty.specs.Summary.{hidden_at, IsHiddenAt}
use Rattle.ot_pretty.proofs.SameSymbols.{alike-at, stated-notation}
use Rattle.ot_forms.specs.Refusals.{ReadsAsTerm}
use Rattle.ot_read.specs.Lines.{RefusedLine, lines_read, term_read, IsLineRefusal}
use Rattle.ot_read.specs.declared.lines.LineRefusal.{LineRefusal}
use Rattle.ot_read.specs.declared.lines.LineRefusal.TheVariants as refusals
use Rattle.ot_read.specs.Laws.{TermsReadByForms, LinesReadByForms, TextsReadByForms, AreRead, StandFor}
use Rattle.ot_read.proofs.Alike.{term-alike, lines-alike}
use Rattle.ot_program.specs.World.{World, Every, HasReadWorld, is_standard}
use Rattle.ot_program.specs.Tasks.{ShowReadable, ReadLines}
use Rattle.ot_program.specs.Runs.{Noted, noted_at, notation, stops_as}
use Rattle.ot_program.specs.Command.{LastInput, LastOf, End, Finished, Stopped, Failed, IsAnswer}
use Rattle.ot_program.specs.ReadLines.{Readings, ReadStop, NoText, TextTooLarge, text_in, read_in, read_at, InInput}
use Rattle.ot_program.specs.ReadLines.{IsLineStop}
use Rattle.ot_program.specs.Answer.{IsResult}
use Rattle.ot_program.specs.Endings.{IsTextCause, IsTextRefusal, HasTaskCause, HasTaskEnd, IsLineCause, noted_from}
use Rattle.ot_program.specs.Endings.{noted_end, stop_end, read_end_of}
use Rattle.ot_program.specs.Verdicts.{IsStopVerdict, IsVerdictOf}
use Rattle.ot_program.specs.declared.report.Verdict.{Verdict}
use Rattle.ot_program.specs.declared.reading.LinesRead.{LinesRead}
use Rattle.ot_program.specs.declared.reading.ReadingRefusal.{ReadingRefusal}
use Rattle.ot_program.specs.declared.reading.ReadingRefusal.TheVariants as readings
use Rattle.ot_program.proofs.NotedLemmas.{notation_is}
use Rattle.ot_program.proofs.Options.{no_stop}
use Rattle.ot_program.proofs.TaskEnds.{task_ended}
use Rattle.ot_program.proofs.Worlds.{IsPart, HasFolders, folder_of, world_then_folder}

-- ---- the end

-- the text behind an answer of the run
abbrev behind_run : List ℕ → Folder → Result Noted Stop → Result Readings ReadStop
behind_run text folder a = stops_as InInput a >>= λ n. read_in n text folder

-- behind a run that ended
behind : (packages path text : List ℕ) (world : World) (n : Noted) (o : Option (End Readings ReadStop))
    → noted_at packages path world ≡ Ok n → IfSome o (IsAnswer (read_in n text world.folder))
    → IfSome o (IsAnswer (read_at packages path text world))
behind packages path text world n o ran read =
    subst (λ (a : Result Noted Stop). IfSome o (IsAnswer (behind_run text world.folder a))) (sym ran) read

text_cause : (packages path text : List ℕ) (May : World → Type 0) (n : Noted) (I : Type 0) (F : List ℕ → Type 0)
    (A M N : Type 0) (r : Result LinesRead ReadingRefusal)
    → IsResult (ShowReadable packages path) May (Ok n) → (A → F text) → (M → N) → IfErr r (λ e. IsTextCause e A M)
    → IfSome (read_end_of text n r) (HasTaskCause (ReadLines packages path text) May I F N)
text_cause packages path text May n I F A M N (Ok read) ran failed missed cause = tt
text_cause packages path text May n I F A M N (Err (readings.At line column fault)) ran failed missed cause =
    (cause, λ is. absurd cc)
text_cause packages path text May n I F A M N (Err readings.TooLarge) ran failed missed cause = (tt, λ is. absurd cc)
text_cause packages path text May n I F A M N (Err readings.NoFile) ran failed missed cause =
    (tt, λ is. missed cause)
text_cause packages path text May n I F A M N (Err readings.ReadFault) ran failed missed cause =
    inr (refl, λ world may. no_stop n (noted_at packages path world) (ran world may), failed cause)
text_cause packages path text May n I F A M N (Err (readings.Memory memory)) ran failed missed cause = tt

pub read_ran : (told : Option Folder) (left left' : Option (List ℕ)) (packages path text : List ℕ) (n : Noted)
    (I : Type 0) (F : List ℕ → Type 0) (A M N : Type 0) (r : Result LinesRead ReadingRefusal)
    → HasReadWorld told left left' (λ May. IsResult (ShowReadable packages path) May (Ok n))
    → HasReadFiles told (λ folder. IfSome (read_end_of text n r) (IsAnswer (read_in n text folder)))
    → (A → F text) → (M → N) → IfErr r (λ e. IsTextCause e A M)
    → HasReadWorld told left left'
    (λ May. IfSome (read_end_of text n r) (λ e. HasTaskEnd (ReadLines packages path text) I F N e May))
read_ran told left left' packages path text n I F A M N r ran read failed missed cause =
    world_then_folder told left left' _
    (λ Folders. Every Folders (λ folder. IfSome (read_end_of text n r) (IsAnswer (read_in n text folder)))) _
    (λ May Before Folders part has before reads.
    task_ended (ReadLines packages path text) I F N May (read_end_of text n r)
    (λ world may. behind packages path text world n (read_end_of text n r) (before world (part world may))
    (reads world.folder (has world may)))
    (text_cause packages path text May n I F A M N r (λ world may. before world (part world may)) failed missed
    cause))
    ran (folder_of told _ _ (λ May h. h) read)

-- and behind one that stopped, or failed
pub stop_behind : (packages path text : List ℕ) (May : World → Type 0) (I : Type 0) (F : List ℕ → Type 0)
    (M : Type 0) (o : Option (End Ran Stop))
    → IfSome (option_map (noted_end []) o) (λ e. HasTaskEnd (ShowReadable packages path) I F M e May)
    → IfSome (option_and_then stop_end o) (λ e. HasTaskEnd (ReadLines packages path text) I F M e May)
stop_behind packages path text May I F M None ended = tt
stop_behind packages path text May I F M (Some (Finished r)) ended = tt
stop_behind packages path text May I F M (Some (Stopped s)) ended = record {
  end = λ world may. ap (behind_run text world.folder) (ended.end world may);
  cause = ended.cause;
}
stop_behind packages path text May I F M (Some (Failed path')) ended = record {
  end = λ world may. tt;
  cause = inl ended.cause;
}

-- ---- the path that was asked for last

pub text_last : (path text : List ℕ) (folder : Option Folder) (at : Option (List ℕ))
    → at ≡ path_asked folder text → LastOf path text folder at
text_last path text folder at last = go (is_standard path || is_theory path) where
  go : (b : Bool) → MatchBool b (Unit {0}) ((at ≡ path_asked folder path) ⊎ (at ≡ path_asked folder text))
  go true = tt
  go false = inr last

input_last_of : (path text : List ℕ) (folder : Option Folder) (at : Option (List ℕ)) → LastInput path folder at
    → LastOf path text folder at
input_last_of path text folder at last = go (is_standard path || is_theory path) last where
  go : (b : Bool) → MatchBool b (Unit {0}) (at ≡ path_asked folder path)
      → MatchBool b (Unit {0}) ((at ≡ path_asked folder path) ⊎ (at ≡ path_asked folder text))
  go true h = tt
  go false h = inl h

pub stop_last : {E : Type 0} (path text : List ℕ) (folder : Option Folder) (at : Option (List ℕ))
    (a : Result Verdict E) (o : Option (End Ran Stop)) → IfOk a (λ v. IsSomeAnd o (IsStopVerdict v))
    → IfSome (option_map (noted_end []) o) (λ _. LastInput path folder at) → IfOk a (λ v. LastOf path text folder at)
stop_last path text folder at (Err e) o said last = tt
stop_last path text folder at (Ok v) None said last = absurd said
stop_last path text folder at (Ok v) (Some e) said last = input_last_of path text folder at last

-- ---- its verdict

input_verdict_on : (packages path text : List ℕ) (v : Verdict) (o : Option (End Ran Stop))
    → IsSomeAnd o (IsStopVerdict v)
    → IsVerdictOf (ReadLines packages path text) (option_and_then stop_end o) v
input_verdict_on packages path text v None said = said
input_verdict_on packages path text v (Some (Finished r)) said = absurd said
input_verdict_on packages path text v (Some (Stopped s)) said = said
input_verdict_on packages path text v (Some (Failed p)) said = said

pub input_verdict : {E : Type 0} (packages path text : List ℕ) (a : Result Verdict E) (o : Option (End Ran Stop))
    → IfOk a (λ v. IsSomeAnd o (IsStopVerdict v))
    → IfOk a (IsVerdictOf (ReadLines packages path text) (option_and_then stop_end o))
input_verdict packages path text (Err e) o said = tt
input_verdict packages path text (Ok v) o said = input_verdict_on packages path text v o said

-- ---- the lines under the notation of a run

module _ (names : List Name) (s : Session) (seen : State) (es : List Export)
    (ths : List ℕ) (r : IsRun s) (same : seen ≡ s.kernel) (are : ths ≡ map (λ e. e.th) es)
    (hidden : List (Symbol Name)) (is : IsHiddenAt seen names ths hidden) (nt : IsNotation hidden) where
  abbrev stated : List (Symbol Name)
  stated = notation (noted_from names s es)

  is_stated : hidden_at seen names ths ≡ stated
  is_stated = notation_is names s seen es ths r same are

  -- whichever order the code's symbols have
  pub same_lines : LinesReadByForms → (ls : List LineText) → lines_read hidden ls ≡ lines_read stated ls
  same_lines forms ls =
      lines-alike hidden (hidden_at seen names ths) (alike-at seen names ths hidden is)
      nt (stated-notation seen names ths hidden is nt) forms ls
      ∙ ap (λ h. lines_read h ls) is_stated

  pub they_stand : TextsReadByForms → (ls : List LineText) (qs : List (Sequent Name)) → lines_read stated ls ≡ Ok qs
      → StandFor stated ls qs
  they_stand texts ls qs e =
      subst (AreRead stated ls) e
      (texts stated (subst IsNotation is_stated (stated-notation seen names ths hidden is nt)) ls)

  pub they_refuse : TextsReadByForms → (ls : List LineText) (r : RefusedLine) → lines_read stated ls ≡ Err r
      → IsLineStop r
  they_refuse texts ls r e =
      let is_notation = subst IsNotation is_stated (stated-notation seen names ths hidden is nt) in
      record {
        hidden = stated;
        notation = is_notation;
        lines = ls;
        first = subst (AreRead stated ls) e (texts stated is_notation ls);
      }

  -- and of a text of one term
  pub same_term : TermsReadByForms → (text : List ℕ) → term_read hidden text ≡ term_read stated text
  same_term forms text =
      term-alike hidden (hidden_at seen names ths) (alike-at seen names ths hidden is)
      nt (stated-notation seen names ths hidden is nt) forms text
      ∙ ap (λ h. term_read h text) is_stated

  pub term_stands : TermsReadByForms → (text : List ℕ) (p : Tm Name) → term_read stated text ≡ Ok p
      → ReadsAsTerm stated text p
  term_stands forms text p e =
      ((forms stated (subst IsNotation is_stated (stated-notation seen names ths hidden is nt)) text).stands p).0 e

-- each list of sequents that was read stands for the lines
pub all_stand : {E : Type 0} (hidden : List (Symbol Name)) (ls : List LineText) (a : Result (Vec Readable Global) E)
    → ((qs : List (Sequent Name)) → lines_read hidden ls ≡ Ok qs → StandFor hidden ls qs)
    → IfOk a (λ read. lines_read hidden ls ≡ Ok (map sequent_of read.items))
    → IfOk a (λ read. StandFor hidden ls (map sequent_of read.items))
all_stand hidden ls (Ok read) stand is = stand (map sequent_of read.items) is
all_stand hidden ls (Err e) stand is = tt

-- each refusal is that of a line
pub line_refused : {A B : Type 0} (o : Result A RefusedLine) (a : Result B LineRefusal)
    → ((r : RefusedLine) → o ≡ Err r → IsLineStop r) → IfErr a (IsLineRefusal o) → IfErr a IsLineCause
line_refused o (Ok b) refuse is = tt
line_refused o (Err (refusals.At line column fault)) refuse is = refuse _ is
line_refused o (Err (refusals.Memory memory)) refuse is = tt

-- ---- the bytes of a text

module _ (text : List ℕ) where
  pub text_fits : (files : Folder) (bytes : List ℕ) → bytes_at files text ≡ Some bytes → length bytes ≤ text_limit
      → text_in text files ≡ Ok bytes
  text_fits files bytes has short = rw (has, le-leb (length bytes) text_limit short) refl

  pub text_too_long : (files : Folder) (bytes : List ℕ) → bytes_at files text ≡ Some bytes → text_limit < length bytes
      → text_in text files ≡ Err TextTooLarge
  text_too_long files bytes has long = rw (has, lt-leb (length bytes) text_limit long) refl

  pub text_missing : (files : Folder) → bytes_at files text ≡ None → text_in text files ≡ Err NoText
  text_missing files none = rw none refl

  -- bytes that aren't read end the reading of the text
  pub text_refused : (told : Option Folder) (n : Noted) (e : ReadingRefusal)
      → HasReadFiles told (λ folder. Unit {0} × IsTextRefusal (text_in text folder) e)
      → HasReadFiles told (λ folder. IfSome (read_end_of text n (Err e)) (IsAnswer (read_in n text folder)))
  text_refused told n (readings.At line column fault) h = Files-map told _ _ (λ folder none. absurd none.1) h
  text_refused told n readings.TooLarge h = Files-map told _ _ (λ folder is. rw is.1 refl) h
  text_refused told n readings.NoFile h = Files-map told _ _ (λ folder is. rw is.1 refl) h
  text_refused told n readings.ReadFault h = Files-map told _ _ (λ folder any. tt) h
  text_refused told n (readings.Memory memory) h = Files-map told _ _ (λ folder any. tt) h
