-- How a task ends. Only contracts of private functions and proofs speak of it.
use Rattle.std.specs.Prelude.{◌≡◌, ℕ, List, [], map, length, Option, Some, None, Result, Ok, Err, Vec, string_bytes}
use Rattle.std.specs.Global.{Global}
use Rattle.std.specs.Option.{option_map}
use Rattle.ot_logic.specs.Lists.{IsMember}
use Rattle.ot_logic.specs.Names.{Name}
use Rattle.ot_io.specs.Folder.{Folder}
use Rattle.ot_kernel.specs.State as kernel
use Rattle.ot_machine.specs.Faults.{fault_of}
use Rattle.ot_machine.specs.declared.machine.Export.{Export}
use Rattle.ot_link.specs.Stops.{Stop, InArticle, InTheory, InStructure, TooLarge, Missing, Linked, Setting, answered}
use Rattle.ot_link.specs.Stops.{◌>>=◌}
use Rattle.ot_link.specs.Link.{theory_at, link_theory}
use Rattle.ot_link.specs.Shown.{shown_by_all}
use Rattle.ot_link.specs.Blocks.{Ran}
use Rattle.ot_machine.specs.Meaning.{export_of, run_of}
use Rattle.ot_machine.specs.declared.session.Session.{Session}
use Rattle.ot_link.specs.declared.fault.LinkFault.{LinkFault}
use Rattle.ot_link.specs.declared.fault.LinkFault.TheVariants as faults
use Rattle.ot_read.specs.declared.lines.LineRefusal.{LineRefusal}
use Rattle.ot_read.specs.declared.lines.LineRefusal.TheVariants as lines
use Rattle.ot_program.specs.World.{World, Every}
use Rattle.ot_program.specs.Command.{End, Finished, Stopped, Failed, IsAnswer, HasCause}
use Rattle.ot_program.specs.Tasks.{TaskValue, command}
use Rattle.ot_program.specs.Runs.{theory_run, Noted, stop_status, IsOwnStop}
use Rattle.ot_program.specs.ReadLines.{ReadStop, InInput, NoText, TextTooLarge, InLine, Readings, IsLineStop}
use Rattle.ot_program.specs.declared.report.Counts.{Counts}
use Rattle.ot_theory.specs.Lines.{lines_of}
use Rattle.ot_parse.specs.Plain.{sequent_of}
use Rattle.ot_program.specs.declared.noted.NotedRun.{NotedRun}
use Rattle.ot_program.specs.declared.reading.LinesRead.{LinesRead}
use Rattle.ot_program.specs.declared.reading.ReadingRefusal.{ReadingRefusal}
use Rattle.ot_program.specs.declared.reading.ReadingRefusal.TheVariants as readings

-- the exports and the run that numbers stand for
abbrev pub ran_from : Session → List Export → Ran
ran_from s exports = record { exports = map (export_of s) exports; run = run_of s }

-- the same of an input that shows these namespaces
abbrev pub noted_from : List Name → Session → List Export → Noted
noted_from names s exports = record { shown = names; ran = ran_from s exports }

-- the counts of a run
pub record AreCounts (r : Ran) (counts : Counts) : Type 0 where
  pub theorems : counts.theorems ≡ length r.exports
  pub assumptions : counts.assumptions ≡ length r.run.assumptions
  pub definitions : counts.definitions ≡ length r.run.definitions

-- the end that a fault stands for, by the kernel's names; none where memory ran out
abbrev pub end_at : kernel.State → LinkFault → Option (End Ran Stop)
end_at k (faults.Article path line fault) =
    option_map (λ f. Stopped (InArticle (string_bytes path) line f)) (fault_of (kernel.name_at k) fault)
end_at k (faults.Theory path line fault) = Some (Stopped (InTheory (string_bytes path) line fault))
end_at k (faults.Structure path line fault) = Some (Stopped (InStructure (string_bytes path) line fault))
end_at k (faults.TheoryTooLarge path) = Some (Stopped (TooLarge (string_bytes path)))
end_at k (faults.NoFile path) = Some (Stopped (Missing (string_bytes path)))
end_at k (faults.ReadFault path) = Some (Failed (string_bytes path))
end_at k (faults.Memory memory) = None

-- the end that an answer stands for
abbrev pub end_of : Session → Result (Vec Export Global) LinkFault → Option (End Ran Stop)
end_of s (Ok exports) = Some (Finished (ran_from s exports.items))
end_of s (Err fault) = end_at s.kernel fault

-- the end of a run whose input shows these namespaces
abbrev pub noted_end : List Name → End Ran Stop → End Noted Stop
noted_end names (Finished r) = Finished (record { shown = names; ran = r })
noted_end names (Stopped s) = Stopped s
noted_end names (Failed path) = Failed path

-- a run with what its input shows
abbrev pub noted_of : Session → NotedRun → Noted
noted_of s r = noted_from r.names.items s r.exports.items

-- its end
abbrev pub noted_end_of : Session → Result NotedRun LinkFault → Option (End Noted Stop)
noted_end_of s (Ok r) = Some (Finished (noted_of s r))
noted_end_of s (Err fault) = option_map (noted_end []) (end_at s.kernel fault)

-- a theory file with what it shows: it is read, and then it is run
abbrev pub theory_noted : Setting → List ℕ → Linked Noted
theory_noted e path =
    theory_at e path >>= λ t.
    link_theory e path t >>= λ r.
    answered (Ok (record { shown = shown_by_all t.tags; ran = r }))

-- the end of a task that reads lines, where its input stops or fails
abbrev pub stop_end : End Ran Stop → Option (End Readings ReadStop)
stop_end (Finished r) = None
stop_end (Stopped s) = Some (Stopped (InInput s))
stop_end (Failed path) = Some (Failed path)

-- the bytes of a text aren't read for this
abbrev pub IsTextRefusal : Result (List ℕ) ReadStop → ReadingRefusal → Type 0
IsTextRefusal text (readings.At line column fault) = ⊥
IsTextRefusal text readings.TooLarge = text ≡ Err TextTooLarge
IsTextRefusal text readings.NoFile = text ≡ Err NoText
IsTextRefusal text readings.ReadFault = Unit {0}
IsTextRefusal text (readings.Memory memory) = Unit {0}

-- why the bytes of a text, or its lines, aren't read: a missing file was counted, and `Failing` holds of a failure
abbrev pub IsTextCause : ReadingRefusal → (Failing MissRose : Type 0) → Type 0
IsTextCause (readings.At line column fault) Failing MissRose =
    IsLineStop (record { line = line; column = column; fault = fault })
IsTextCause readings.TooLarge Failing MissRose = Unit {0}
IsTextCause readings.NoFile Failing MissRose = MissRose
IsTextCause readings.ReadFault Failing MissRose = Failing
IsTextCause (readings.Memory memory) Failing MissRose = Unit {0}

-- why the lines of bytes aren't read
abbrev pub IsLineCause : LineRefusal → Type 0
IsLineCause (lines.At line column fault) = IsLineStop (record { line = line; column = column; fault = fault })
IsLineCause (lines.Memory memory) = Unit {0}

-- the end that the reading of the text of a path stands for; none where memory ran out
abbrev pub read_end_of : List ℕ → Noted → Result LinesRead ReadingRefusal → Option (End Readings ReadStop)
read_end_of text n (Ok r) =
    Some (Finished (record { noted = n; lines = lines_of r.bytes.items; sequents = map sequent_of r.sequents.items }))
read_end_of text n (Err (readings.At line column fault)) =
    Some (Stopped (InLine (record { line = line; column = column; fault = fault })))
read_end_of text n (Err readings.TooLarge) = Some (Stopped TextTooLarge)
read_end_of text n (Err readings.NoFile) = Some (Stopped NoText)
read_end_of text n (Err readings.ReadFault) = Some (Failed text)
read_end_of text n (Err (readings.Memory memory)) = None

-- it is the end of the task in each world that may be
abbrev pub IsEnd : (t : TaskValue) → (May : World → Type 0) → End ((command t).Product) ((command t).Halt) → Type 0
IsEnd t May e = Every May (λ world. IsAnswer ((command t).result world) e)

-- why a task ends so: at a stop of its own, or at a path that it reads
abbrev pub HasTaskCause : (t : TaskValue) → (May : World → Type 0) → (InputFails : Type 0)
    → (FileFails : List ℕ → Type 0) → (MissRose : Type 0) → End ((command t).Product) ((command t).Halt) → Type 0
HasTaskCause t May InputFails FileFails =
    HasCause ((command t).status) ((command t).IsOwn) ((command t).IsFailed May InputFails FileFails)

-- a task ended so, in each world that may be, and for a cause
pub record HasTaskEnd (t : TaskValue) (InputFails : Type 0) (FileFails : List ℕ → Type 0) (MissRose : Type 0)
    (e : End ((command t).Product) ((command t).Halt)) (May : World → Type 0) : Type 0 where
  pub end : IsEnd t May e
  pub cause : HasTaskCause t May InputFails FileFails MissRose e

-- why the run of an article of this path ends so
abbrev pub HasOwnCause : List ℕ → (FailureRose MissRose : Type 0) → End Ran Stop → Type 0
HasOwnCause path FailureRose = HasCause stop_status (IsOwnStop path) (λ failed. (failed ≡ path) × FailureRose)

-- why the run of a theory file ends so: a path that failed is that of a file which it needs
abbrev pub HasTheoryCause : (packages path : List ℕ) → (May : Folder → Type 0) → (FileFails : List ℕ → Type 0)
    → (MissRose : Type 0) → End Ran Stop → Type 0
HasTheoryCause packages path May FileFails =
    HasCause stop_status (λ stop. Unit {0})
    (λ file. Every May (λ folder. IsMember file (theory_run packages path folder).paths) × FileFails file)

-- the run of a theory file ended so, in each folder that may be, and for a cause
pub record HasTheoryEnd (packages path : List ℕ) (FileFails : List ℕ → Type 0) (MissRose : Type 0)
    (e : End Ran Stop) (May : Folder → Type 0) : Type 0 where
  pub end : Every May (λ folder. IsAnswer (theory_run packages path folder).answer e)
  pub cause : HasTheoryCause packages path May FileFails MissRose e
