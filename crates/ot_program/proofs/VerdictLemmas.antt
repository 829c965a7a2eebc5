-- The verdict on a task, by how it ended.
use Rattle.std.proofs.Common.{◌≡◌, ℕ, List, refl, sym, subst, ◌∙◌, ◌⊎◌, inl, inr}
use Rattle.std.specs.Prelude.{Bool, true, false, MatchBool, Option, Some, None, IfSome, Result, Ok, Err, IfOk}
use Rattle.ot_repo.specs.Required.{Refusal}
use Rattle.ot_repo.specs.Required as repo
use Rattle.ot_link.specs.Stops.{Stop, InArticle, InTheory, InStructure, TooLarge, Missing}
use Rattle.ot_program.specs.Tasks.{TaskValue, RunInput, RunSample, MakeSample, CheckLog, ShowReadable, ReadLines}
use Rattle.ot_program.specs.Tasks.{FindPattern, command}
use Rattle.ot_program.specs.Runs.{stop_status}
use Rattle.ot_program.specs.CheckLog.{LogStop, InLog, NoLog, log_status}
use Rattle.ot_program.specs.ReadLines.{ReadStop, InInput, NoText, TextTooLarge, InLine, read_status}
use Rattle.ot_program.specs.FindPattern.{FindStop, InRequired, InRun, InPattern, required_status, find_status}
use Rattle.ot_program.specs.Answer.{IsResult, IsStopLine}
use Rattle.ot_program.specs.World.{World, anywhere}
use Rattle.ot_program.specs.Endings.{IsEnd, HasTaskCause, HasTaskEnd}
use Rattle.ot_program.specs.Command.{End, Finished, Stopped, Failed}
use Rattle.ot_program.specs.Verdicts.{IsSaid, IsFinal, IsVerdictOn, IsVerdictOf, IsTextOf, IsTaskVerdict}
use Rattle.ot_program.specs.declared.report.Verdict.{Verdict}
use Rattle.ot_program.specs.declared.status.Status.{Status}
use Rattle.ot_program.specs.declared.status.Status.TheVariants.{Accepted, Refused, Usage, NoFile}
use Rattle.ot_program.specs.declared.status.Status.TheVariants.{ReadFault, WriteFault, Memory}

-- ---- the status of a stop

-- it is refused, or a missing file
abbrev IsRefusal : Status → Type 0
IsRefusal s = (s ≡ Refused) ⊎ (s ≡ NoFile)

run_refusal : (s : Stop) → IsRefusal (stop_status s)
run_refusal (InArticle path number fault) = inl refl
run_refusal (InTheory path number fault) = inl refl
run_refusal (InStructure path number fault) = inl refl
run_refusal (TooLarge path) = inl refl
run_refusal (Missing path) = inr refl

log_refusal : (s : LogStop) → IsRefusal (log_status s)
log_refusal (InLog line fault) = inl refl
log_refusal NoLog = inr refl

read_refusal : (s : ReadStop) → IsRefusal (read_status s)
read_refusal (InInput s) = run_refusal s
read_refusal NoText = inr refl
read_refusal TextTooLarge = inl refl
read_refusal (InLine refused) = inl refl

required_refusal : (r : Refusal) → IsRefusal (required_status r)
required_refusal (repo.Theory path line fault) = inl refl
required_refusal (repo.TheoryTooLarge path) = inl refl
required_refusal (repo.IndexTooLarge path) = inl refl
required_refusal (repo.BadIndex path line) = inl refl
required_refusal (repo.NotInstalled path line) = inl refl
required_refusal (repo.RequiresCycle path line) = inl refl
required_refusal (repo.Missing path) = inr refl

find_refusal : (s : FindStop) → IsRefusal (find_status s)
find_refusal (InRequired r) = required_refusal r
find_refusal (InRun s) = run_refusal s
find_refusal (InPattern refused) = inl refl

refusal : (t : TaskValue) (s : (command t).Halt) → IsRefusal ((command t).status s)
refusal (RunInput packages path view) s = run_refusal s
refusal (RunSample n) s = run_refusal s
refusal (MakeSample n) s = inl refl
refusal (CheckLog path) s = log_refusal s
refusal (ShowReadable packages path) s = run_refusal s
refusal (ReadLines packages path text) s = read_refusal s
refusal (FindPattern packages pattern path) s = find_refusal s

-- ---- what the text of a verdict says

-- the line of a stop
stop_says : (t : TaskValue) (May : World → Type 0) (I : Type 0) (F : List ℕ → Type 0) (s : (command t).Halt) (line : List ℕ)
    → line ≡ (command t).line s → IsResult t May (Err s) → (command t).IsOwn s
    → IsRefusal ((command t).status s) → IsTextOf ((command t).status s) t May I F line
stop_says t May I F s line is known own (inl e) =
    let P : Status → Type 0 = λ status. IsTextOf status t May I F line in
    subst P (sym e) (inl (record { stop = s; stopped = known; own = own; status_is = e; line_is = is }))
stop_says t May I F s line is known own (inr e) =
    let P : Status → Type 0 = λ status. IsTextOf status t May I F line in
    subst P (sym e) (record { stop = s; stopped = known; own = own; status_is = e; line_is = is })

-- the text of a task that ended, by whether it is within the limit
final_says : (t : TaskValue) (May : World → Type 0) (I : Type 0) (F : List ℕ → Type 0) (x : (command t).Product) (v : Verdict)
    (b : Bool)
    → (command t).fits x ≡ b → MatchBool b (IsSaid v Accepted ((command t).text x)) (IsSaid v Refused ((command t).large))
    → IsFinal t x v → IsResult t May (Ok x) → IsTextOf v.status t May I F v.text.items
final_says t May I F x v true fit said final known =
    let P : Status → Type 0 = λ s. IsTextOf s t May I F v.text.items in
    subst P (sym said.status_is) (record {
      made = x;
      ended = known;
      proved = final.proved;
      promised = final.promised fit;
      one_text = final.one_text;
      fits_is = fit;
      text_is = said.text_is;
    })
final_says t May I F x v false fit said final known =
    let P : Status → Type 0 = λ s. IsTextOf s t May I F v.text.items in
    subst P (sym said.status_is) (inr (record {
      made = x;
      ended = known;
      proved = final.proved;
      large = fit;
      line_is = said.text_is;
    }))

verdict_says : (t : TaskValue) (May : World → Type 0) (I : Type 0) (F : List ℕ → Type 0) (Q : Type 0)
    (e : End ((command t).Product) ((command t).Halt)) (v : Verdict)
    → IsVerdictOn t v e → IsEnd t May e → HasTaskCause t May I F Q e → IsTextOf v.status t May I F v.text.items
verdict_says t May I F Q (Finished x) v on known cause =
    final_says t May I F x v ((command t).fits x) refl on.ends on known
verdict_says t May I F Q (Stopped s) v on known cause =
    let P : Status → Type 0 = λ status. IsTextOf status t May I F v.text.items in
    subst P (sym on.status_is) (stop_says t May I F s v.text.items on.text_is known cause.0 (refusal t s))
verdict_says t May I F Q (Failed path) v on known cause =
    let P : Status → Type 0 = λ status. IsTextOf status t May I F v.text.items in
    subst P (sym on.status_is) (record { failed = path; path = cause; line_is = on.text_is })

-- ---- the cause of its status

-- a task that ended is accepted or refused
ended_status : (v : Verdict) (b : Bool) (text line : List ℕ)
    → MatchBool b (IsSaid v Accepted text) (IsSaid v Refused line) → (v.status ≡ Accepted) ⊎ (v.status ≡ Refused)
ended_status v true text line said = inl said.status_is
ended_status v false text line said = inr said.status_is

not_missing : {X : Type 0} (s : Status) → (s ≡ Accepted) ⊎ (s ≡ Refused) → s ≡ NoFile → X
not_missing s (inl accepted) is = let h : Accepted ≡ NoFile = sym accepted ∙ is in absurd cc
not_missing s (inr refused) is = let h : Refused ≡ NoFile = sym refused ∙ is in absurd cc

missing_on : (t : TaskValue) (May : World → Type 0) (I : Type 0) (F : List ℕ → Type 0) (Q : Type 0) (v : Verdict)
    (e : End ((command t).Product) ((command t).Halt))
    → IsVerdictOn t v e → HasTaskCause t May I F Q e → v.status ≡ NoFile → Q
missing_on t May I F Q v (Finished x) on cause is =
    not_missing v.status (ended_status v ((command t).fits x) _ _ on.ends) is
missing_on t May I F Q v (Stopped s) on cause is = cause.1 (sym on.status_is ∙ is)
missing_on t May I F Q v (Failed path) on cause is =
    let h : ReadFault ≡ NoFile = sym on.status_is ∙ is in absurd cc

-- ---- the verdict on a task

pub task_verdict : {E : Type 0} (I : Type 0) (F : List ℕ → Type 0) (Q : Type 0) (t : TaskValue)
    (May : World → Type 0) (o : Option (End ((command t).Product) ((command t).Halt))) (r : Result Verdict E)
    → IfOk r (IsVerdictOf t o) → IfSome o (λ e. HasTaskEnd t I F Q e May) → IfOk r (λ v. IsTaskVerdict t I F Q v May)
task_verdict I F Q t May o (Err e) on ended = tt
task_verdict I F Q t May None (Ok v) on ended = absurd on
task_verdict I F Q t May (Some e) (Ok v) on ended = record {
  says = verdict_says t May I F Q e v on ended.end ended.cause;
  missing = missing_on t May I F Q v e on ended.cause;
}

-- what holds where the end is known
pub last_path : {E : Type 0} (P : Type 0) (t : TaskValue) (o : Option (End ((command t).Product) ((command t).Halt)))
    (r : Result Verdict E) → IfOk r (IsVerdictOf t o) → IfSome o (λ _. P) → IfOk r (λ v. P)
last_path P t o (Err e) on last = tt
last_path P t None (Ok v) on last = absurd on
last_path P t (Some e) (Ok v) on last = last

-- the line of a stop that comes in any world
stop_anywhere : (t : TaskValue) (status : Status) (May : World → Type 0) (line : List ℕ)
    → IsStopLine status t anywhere line → IsStopLine status t May line
stop_anywhere t status May line h = record {
  stop = h.stop;
  stopped = λ world may. h.stopped world tt;
  own = h.own;
  status_is = h.status_is;
  line_is = h.line_is;
}

-- what reads nothing ends in one way in any world, and names no path that failed
unfailing_says : (I : Type 0) (F : List ℕ → Type 0) (t : TaskValue) (May : World → Type 0) (status : Status)
    (text : List ℕ)
    → ((failed : List ℕ) → ¬ (command t).IsFailed anywhere ⊥ (λ file. ⊥) failed)
    → IsTextOf status t anywhere ⊥ (λ file. ⊥) text → IsTextOf status t May I F text
unfailing_says I F t May Accepted text unfailing says = record {
  made = says.made;
  ended = λ world may. says.ended world tt;
  proved = says.proved;
  promised = says.promised;
  one_text = says.one_text;
  fits_is = says.fits_is;
  text_is = says.text_is;
}
unfailing_says I F t May Refused text unfailing (inl says) = inl (stop_anywhere t Refused May text says)
unfailing_says I F t May Refused text unfailing (inr says) = inr (record {
  made = says.made;
  ended = λ world may. says.ended world tt;
  proved = says.proved;
  large = says.large;
  line_is = says.line_is;
})
unfailing_says I F t May NoFile text unfailing says = stop_anywhere t NoFile May text says
unfailing_says I F t May ReadFault text unfailing says = absurd (unfailing says.failed says.path)
unfailing_says I F t May Usage text unfailing says = absurd says
unfailing_says I F t May WriteFault text unfailing says = absurd says
unfailing_says I F t May Memory text unfailing says = absurd says

-- and none was counted missing
pub unfailing : {E : Type 0} (I : Type 0) (F : List ℕ → Type 0) (Q : Type 0) (t : TaskValue)
    (May : World → Type 0) (r : Result Verdict E)
    → ((failed : List ℕ) → ¬ (command t).IsFailed anywhere ⊥ (λ file. ⊥) failed)
    → IfOk r (λ v. IsTaskVerdict t ⊥ (λ file. ⊥) ⊥ v anywhere) → IfOk r (λ v. IsTaskVerdict t I F Q v May)
unfailing I F Q t May (Err e) none h = tt
unfailing I F Q t May (Ok v) none h = record {
  says = unfailing_says I F t May v.status v.text.items none h.says;
  missing = λ is. absurd (h.missing is);
}
