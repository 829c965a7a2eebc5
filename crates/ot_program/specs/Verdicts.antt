-- The verdicts on how tasks end, and how the program ends. Only contracts of private functions and proofs speak of it.
use Rattle.std.specs.Prelude.{◌≡◌, ◌⊎◌, ℕ, true, List, map, length, nat_le, Option, MatchBool}
use Rattle.std.specs.Prelude.{IsSomeAnd}
use Rattle.ot_machine.specs.declared.machine.Export.{Export}
use Rattle.ot_link.specs.Stops.{Stop}
use Rattle.ot_link.specs.Blocks.{Ran}
use Rattle.ot_minimise.specs.Minimised.{AreLawful}
use Rattle.ot_machine.specs.Meaning.{export_of, run_of}
use Rattle.ot_machine.specs.declared.session.Session.{Session}
use Rattle.ot_print.specs.Laws.{TextsNameOne}
use Rattle.ot_program.specs.Texts.{stop_line, read_fault_line, write_fault_line}
use Rattle.ot_program.specs.World.{World}
use Rattle.ot_program.specs.Tasks.{TaskValue, command}
use Rattle.ot_program.specs.Runs.{stop_status}
use Rattle.ot_program.specs.Command.{IsProved, End, Finished, Stopped, Failed}
use Rattle.ot_program.specs.Answer.{IsReport, IsStopLine, IsLargeLine, IsFailureLine}
use Rattle.ot_program.specs.declared.status.Status.{Status}
use Rattle.ot_program.specs.declared.status.Status.TheVariants.{Accepted, Refused, Usage, NoFile, ReadFault}
use Rattle.ot_program.specs.declared.status.Status.TheVariants.{WriteFault, Memory}
use Rattle.ot_program.specs.declared.report.Verdict.{Verdict}

-- ---- verdicts

-- a verdict has this status and this text
pub record IsSaid (v : Verdict) (status : Status) (text : List ℕ) : Type 0 where
  pub status_is : v.status ≡ status
  pub text_is : v.text.items ≡ text

-- a text is accepted where it is within its limit, and else refused with this line
abbrev pub IsPrinted : (limit : ℕ) → (text large : List ℕ) → Verdict → Type 0
IsPrinted limit text large v = MatchBool (nat_le (length text) limit) (IsSaid v Accepted text) (IsSaid v Refused large)

-- a task that ended is accepted with what it prints, or refused where that is too large
abbrev pub EndsAs : (t : TaskValue) → (command t).Product → Verdict → Type 0
EndsAs t x v = MatchBool ((command t).fits x) (IsSaid v Accepted ((command t).text x)) (IsSaid v Refused ((command t).large))

-- the run of a session, and its exports, are lawful
abbrev pub IsLawfulEnds : Session → List Export → Type 0
IsLawfulEnds s exports = AreLawful (run_of s) (map (export_of s) exports)

-- a verdict says how the task ended, and its result is proved
pub record IsFinal (t : TaskValue) (x : (command t).Product) (v : Verdict) : Type 0 where
  pub ends : EndsAs t x v
  pub proved : IsProved ((command t).lists x)
  pub promised : (command t).fits x ≡ true → (command t).IsPromised x
  pub one_text : TextsNameOne

-- the verdict on an end: on what finished this is known, a stop has its status and its line, and a path that failed is
-- named
abbrev pub IsVerdictBy : {X S : Type 0} → (Ends : X → Verdict → Type 0) → (status : S → Status) → (line : S → List ℕ)
    → Verdict → End X S → Type 0
IsVerdictBy Ends status line v (Finished x) = Ends x v
IsVerdictBy Ends status line v (Stopped s) = IsSaid v (status s) (line s)
IsVerdictBy Ends status line v (Failed path) = IsSaid v ReadFault (read_fault_line path)

-- on a run that stopped or failed
abbrev pub IsStopVerdict : Verdict → End Ran Stop → Type 0
IsStopVerdict = IsVerdictBy (λ r v. ⊥) stop_status stop_line

-- on a task that ended so
abbrev pub IsVerdictOn : (t : TaskValue) → Verdict → End ((command t).Product) ((command t).Halt) → Type 0
IsVerdictOn t = IsVerdictBy (IsFinal t) ((command t).status) ((command t).line)

-- there is such an end, and the verdict is on it
abbrev pub IsVerdictOf : (t : TaskValue) → Option (End ((command t).Product) ((command t).Halt)) → Verdict → Type 0
IsVerdictOf t known v = IsSomeAnd known (IsVerdictOn t v)

-- the text of a verdict with this status
abbrev pub IsTextOf : Status → TaskValue → (May : World → Type 0) → (InputFails : Type 0)
    → (FileFails : List ℕ → Type 0) → List ℕ → Type 0
IsTextOf Accepted t May InputFails FileFails text = IsReport t May text
IsTextOf Refused t May InputFails FileFails line = IsStopLine Refused t May line ⊎ IsLargeLine t May line
IsTextOf NoFile t May InputFails FileFails line = IsStopLine NoFile t May line
IsTextOf ReadFault t May InputFails FileFails line = IsFailureLine t May InputFails FileFails line
IsTextOf Usage t May InputFails FileFails line = ⊥
IsTextOf WriteFault t May InputFails FileFails line = ⊥
IsTextOf Memory t May InputFails FileFails line = ⊥

-- the verdict on a task: its text says how that ended, and a missing file was counted
pub record IsTaskVerdict (t : TaskValue) (InputFails : Type 0) (FileFails : List ℕ → Type 0) (MissRose : Type 0)
    (v : Verdict) (May : World → Type 0) : Type 0 where
  pub says : IsTextOf v.status t May InputFails FileFails v.text.items
  pub missing : v.status ≡ NoFile → MissRose

-- ---- how the program ends

-- the program ends with the status of a verdict, or with a write fault where its text is to be printed
abbrev pub Ends : Status → Status → Type 0
Ends verdict status = (status ≡ verdict) ⊎ ((verdict ≡ Accepted) × (status ≡ WriteFault))

-- the line that goes with a status, where the verdict has this text
abbrev pub said_line : Status → List ℕ → List ℕ
said_line WriteFault text = write_fault_line
said_line _ text = text
