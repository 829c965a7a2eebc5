-- How the program's status and texts stand to the stated reply.
use Rattle.std.specs.Io.KnownBytes.{Appends}
use Rattle.std.specs.Prelude.{ℕ, List, [], true, Option, Some, None, Result, Ok, Err, ◌≡◌, ◌⊎◌, false, IfSome}
use Rattle.std.specs.Prelude.{IsSomeAnd}
use Rattle.ot_io.specs.Causes.{CountRose}
use Rattle.ot_io.specs.Folder.{Folder}
use Rattle.ot_io.specs.Keeping.{KeepsFiles}
use Rattle.ot_io.specs.Sinks.{AppendsFront, FlushesAll}
use Rattle.ot_print.specs.Laws.{TextsNameOne}
use Rattle.ot_program.specs.Command.{IsProved, LeavesBoth}
use Rattle.ot_program.specs.Reply.{Reply, answer}
use Rattle.ot_program.specs.Tasks.{TaskValue, task, task_of, command}
use Rattle.ot_program.specs.Texts.{usage_line, read_fault_line, write_fault_line, memory_line}
use Rattle.ot_program.specs.World.{World, Every}
use Rattle.ot_program.specs.declared.status.Status.{Status}
use Rattle.ot_program.specs.declared.status.Status.TheVariants.{Accepted, Refused, Usage, NoFile, ReadFault}
use Rattle.ot_program.specs.declared.status.Status.TheVariants.{WriteFault, Memory}

-- with `Accepted` it is the reply's status, and the reply's output was written; with `WriteFault` the reply accepts, and a
-- front of its output was written; with `Refused`, `Usage` and `NoFile` it is the reply's status, and its line was said;
-- where an input failed or memory ran out the reply says nothing
abbrev pub MatchesReply : Status → Reply → Option (List ℕ) → Option (List ℕ) → (WasSaid : List ℕ → Type 0) → Type 0
MatchesReply Accepted reply old new WasSaid = (reply.status ≡ Accepted) × Appends old new reply.output
MatchesReply WriteFault reply old new WasSaid = (reply.status ≡ Accepted) × AppendsFront old new reply.output
MatchesReply Refused reply old new WasSaid = (reply.status ≡ Refused) × WasSaid reply.error
MatchesReply Usage reply old new WasSaid = (reply.status ≡ Usage) × WasSaid reply.error
MatchesReply NoFile reply old new WasSaid = (reply.status ≡ NoFile) × WasSaid reply.error
MatchesReply ReadFault reply old new WasSaid = Unit {0}
MatchesReply Memory reply old new WasSaid = Unit {0}

-- ---- what a text says of a task's end, as far as that is known

-- the task ends so in each world that may be
abbrev pub IsResult : (t : TaskValue) → (May : World → Type 0) → Result (command t).Product (command t).Halt → Type 0
IsResult t May result = Every May (λ world. (command t).result world ≡ result)

-- the result of the task is `made`, in each world that may be, and the theorems of that are `proved`; what the task
-- promises of it besides is kept (`promised`). The text is what the task prints of it, and is within its limit
-- (`fits_is`). Two well typed sequents, or two accepted definitions, with one text are one (`one_text`)
pub record IsReport (t : TaskValue) (May : World → Type 0) (text : List ℕ) : Type 0 where
  pub made : (command t).Product
  pub ended : IsResult t May (Ok made)
  pub proved : IsProved ((command t).lists made)
  pub promised : (command t).IsPromised made
  pub one_text : TextsNameOne
  pub fits_is : (command t).fits made ≡ true
  pub text_is : text ≡ (command t).text made

-- it is the line of what stopped the task
pub record IsStopLine (status : Status) (t : TaskValue) (May : World → Type 0) (line : List ℕ) : Type 0 where
  pub stop : (command t).Halt
  pub stopped : IsResult t May (Err stop)
  pub own : (command t).IsOwn stop
  pub status_is : (command t).status stop ≡ status
  pub line_is : line ≡ (command t).line stop

-- it is the line for a text of the task's end that is past its limit
pub record IsLargeLine (t : TaskValue) (May : World → Type 0) (line : List ℕ) : Type 0 where
  pub made : (command t).Product
  pub ended : IsResult t May (Ok made)
  pub proved : IsProved ((command t).lists made)
  pub large : (command t).fits made ≡ false
  pub line_is : line ≡ (command t).large

-- a file failed: the files counted a failure, and the file was the last to be asked for, as far as that is known
abbrev pub FileFailed : Option (List ℕ) → (before now : ℕ) → List ℕ → Type 0
FileFailed at before now file = CountRose before now × IfSome at (λ asked. file ≡ asked)

-- it is the line for an input that failed
pub record IsFailureLine (t : TaskValue) (May : World → Type 0) (InputFails : Type 0) (FileFails : List ℕ → Type 0)
    (line : List ℕ) : Type 0 where
  pub failed : List ℕ
  pub path : (command t).IsFailed May InputFails FileFails failed
  pub line_is : line ≡ read_fault_line failed

-- ---- what is written, and what is said

-- there is a text of a kind that was put out in a way
pub record SomeText (IsOne IsPut : List ℕ → Type 0) : Type 0 where
  pub text : List ℕ
  pub is_one : IsOne text
  pub is_put : IsPut text

-- a text of a kind was written and flushed, or a front of it at a write fault; with another status nothing was
abbrev pub Outputs : {O : Type 0} → Status → (written : O → Option (List ℕ)) → (flushed : O → Option ℕ) → O → O
    → (IsOne : List ℕ → Type 0) → Type 0
Outputs Accepted written flushed old new IsOne =
    SomeText IsOne (λ text. Appends (written old) (written new) text
    × FlushesAll (flushed old) (written new) (flushed new))
Outputs WriteFault written flushed old new IsOne = SomeText IsOne (AppendsFront (written old) (written new))
Outputs Refused written flushed old new IsOne = new ≡ old
Outputs Usage written flushed old new IsOne = new ≡ old
Outputs NoFile written flushed old new IsOne = new ≡ old
Outputs ReadFault written flushed old new IsOne = new ≡ old
Outputs Memory written flushed old new IsOne = new ≡ old

-- a sink's bytes grew by a line, or by a front of it where the sink's count of failures rose
abbrev pub WritesLine : {E : Type 0} → (E → Option (List ℕ)) → (E → ℕ) → E → E → List ℕ → Type 0
WritesLine written faults old new line =
    Appends (written old) (written new) line
    ⊎ (CountRose (faults old) (faults new) × AppendsFront (written old) (written new) line)

-- a line of a kind was said; where all was accepted, none
abbrev pub SaysWhy : {E : Type 0} → Status → (written : E → Option (List ℕ)) → (faults : E → ℕ) → E → E
    → (IsOne : List ℕ → Type 0) → Type 0
SaysWhy Accepted written faults old new IsOne = new ≡ old
SaysWhy Refused written faults old new IsOne = SomeText IsOne (WritesLine written faults old new)
SaysWhy Usage written faults old new IsOne = SomeText IsOne (WritesLine written faults old new)
SaysWhy NoFile written faults old new IsOne = SomeText IsOne (WritesLine written faults old new)
SaysWhy ReadFault written faults old new IsOne = SomeText IsOne (WritesLine written faults old new)
SaysWhy WriteFault written faults old new IsOne = SomeText IsOne (WritesLine written faults old new)
SaysWhy Memory written faults old new IsOne = SomeText IsOne (WritesLine written faults old new)

-- the headline: a text on output is a report on the end of the task
abbrev pub IsOutput : Option TaskValue → (May : World → Type 0) → List ℕ → Type 0
IsOutput t May text = IsSomeAnd t (λ task. IsReport task May text)

-- what the counts of a call say: standard input failed; the files did, and this is the path that was asked for last, as
-- far as that is known; the files did; a file was missing; the output failed
pub record Failures : Type 1 where
  pub input : Type 0
  pub file : List ℕ → Type 0
  pub files : Type 0
  pub missing : Type 0
  pub output : Type 0

-- the line on standard error that goes with a status, and what failed
abbrev pub IsErrorLine : Status → Option TaskValue → (May : World → Type 0) → Failures → List ℕ → Type 0
IsErrorLine Accepted t May failures line = ⊥
IsErrorLine Refused t May failures line =
    IsSomeAnd t (λ task. IsStopLine Refused task May line ⊎ IsLargeLine task May line)
IsErrorLine Usage t May failures line = line ≡ usage_line
IsErrorLine NoFile t May failures line =
    IsSomeAnd t (λ task. IsStopLine NoFile task May line) × failures.missing
IsErrorLine ReadFault t May failures line =
    IsSomeAnd t (λ task. IsFailureLine task May failures.input failures.file line)
IsErrorLine WriteFault t May failures line = (line ≡ write_fault_line) × failures.output
IsErrorLine Memory t May failures line = line ≡ memory_line

-- ---- all that is said of what was read

-- what is said of a run of these words that may have read any world of these: status and texts are those of the stated
-- answer, unless a device failed or memory ran out (`reply`), so where no count rose the status is the stated one, or
-- memory ran out (`complete`); what is printed is a report (`output`); and what is said is the status's line, and the
-- device that it blames counted the failure (`error`)
pub record IsAnswered {O E : Type 0} (words : List (List ℕ)) (status : Status) (failures : Failures)
    (written : O → Option (List ℕ)) (flushed : O → Option ℕ) (out out' : O)
    (said : E → Option (List ℕ)) (faults : E → ℕ) (err err' : E) (May : World → Type 0) : Type 0 where
  pub reply : Every May (λ world. MatchesReply status (answer words world) (written out) (written out')
      (WritesLine said faults err err'))
  pub complete : Every May (λ world. ¬ failures.input → ¬ failures.files → ¬ failures.output
      → (status ≡ Memory) ⊎ (status ≡ (answer words world).status))
  pub output : Outputs status written flushed out out' (IsOutput (task_of words) May)
  pub error : SaysWhy status said faults err err' (IsErrorLine status (task_of words) May failures)

-- nor does anything where there is no task
abbrev pub NoFileIsAsked : Option TaskValue → Type 0
NoFileIsAsked None = Unit {0}
NoFileIsAsked (Some t) = (command t).AsksNoFile

-- ---- what else becomes of the inputs

-- nothing is read where there is no task
abbrev pub LeavesUnasked : {F S : Type 0} → Option TaskValue → F → F → S → S → Type 0
LeavesUnasked None files files_now input input_now = LeavesBoth files files_now input input_now
LeavesUnasked (Some t) files files_now input input_now = (command t).Leaves files files_now input input_now

-- the files stay what they are, their counts never fall, and none stays open
pub record ClosesFiles {F : Type 0} (folder : F → Option Folder) (faults misses : F → ℕ)
    (left : F → Option (List ℕ)) (old new : F) : Type 0 where
  pub keeps : KeepsFiles folder faults misses old new
  pub closed : (new ≡ old) ⊎ (left new ≡ Some [])

-- the exit status
abbrev pub code_of : Status → ℕ
code_of Accepted = 0
code_of Refused = 1
code_of Usage = 2
code_of NoFile = 3
code_of ReadFault = 4
code_of WriteFault = 5
code_of Memory = 6
