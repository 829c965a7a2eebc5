-- The command `verify`.
use Rattle.std.specs.Prelude.{ℕ, List, [], ◌∷◌, true, length, nat_le, Option, Some, None, Result, Ok, Err}
use Rattle.std.specs.Prelude.{if◌then◌else◌, ◌≡◌, MatchBool}
use Rattle.ot_io.specs.Folder.{Folder, bytes_at, path_asked}
use Rattle.ot_logic.specs.Answers.{◌>>=◌, some_or}
use Rattle.ot_logic.specs.Names.{Name}
use Rattle.ot_logic.specs.Limits.{article_limit, summary_limit}
use Rattle.ot_log_format.specs.Check.{Outcome as LogOutcome, Ends, Stops}
use Rattle.ot_log_format.specs.Tokens.{LogFault}
use Rattle.ot_verify.specs.Reading.{log_check}
use Rattle.ot_verify.specs.Taking.{fault_of as log_fault_of}
use Rattle.ot_verify.specs.Verifying.{Proved, proved_by, proved_text}
use Rattle.ot_program.specs.Command.{Lists, LeavesOther, IsInputPath, End, Finished, Stopped, Failed, Command}
use Rattle.ot_program.specs.Texts.{log_line, missing_line, large_line}
use Rattle.ot_program.specs.World.{World, is_standard}
use Rattle.ot_program.specs.declared.log.LogRefusal.{LogRefusal}
use Rattle.ot_program.specs.declared.log.LogRefusal.TheVariants as refusals
use Rattle.ot_program.specs.declared.status.Status.{Status}
use Rattle.ot_program.specs.declared.status.Status.TheVariants.{Refused, NoFile}

-- why a log isn't accepted: its first fault with the line, or that it isn't there
pub data LogStop : Type 0 where
  InLog : ℕ → LogFault → LogStop
  NoLog : LogStop

-- how the check of a log ends: with what it proves, or at a fault
abbrev pub log_end : LogOutcome Name → Result Proved LogStop
log_end (Ends made) = Ok (proved_by made)
log_end (Stops line fault) = Err (InLog line fault)

-- the check of a log of these bytes
abbrev pub check_bytes : List ℕ → Result Proved LogStop
check_bytes bytes = log_end (log_check article_limit bytes)

-- the check of a log file
abbrev pub check_file : List ℕ → Folder → Result Proved LogStop
check_file path folder = some_or NoLog (bytes_at folder path) >>= check_bytes

-- the check of a log
abbrev pub check_at : List ℕ → World → Result Proved LogStop
check_at path world = if is_standard path then check_bytes world.input else check_file path world.folder

-- ---- its halts

abbrev pub log_status : LogStop → Status
log_status (InLog line fault) = Refused
log_status NoLog = NoFile

-- the line for what stops a log's check
abbrev pub log_stop_line : List ℕ → LogStop → List ℕ
log_stop_line path (InLog line fault) = log_line path line fault
log_stop_line path NoLog = missing_line path

abbrev pub log_lists : Proved → Lists
log_lists p = record { assumptions = p.assumptions; definitions = p.definitions; theorems = p.results }

-- ---- the command

abbrev pub check_log : (path : List ℕ) → Command
check_log path = record {
  Product = Proved;
  Halt = LogStop;
  result = check_at path;
  text = proved_text;
  fits = λ p. nat_le (length (proved_text p)) summary_limit;
  large = large_line path;
  lists = log_lists;
  IsPromised = λ p. Unit {0};
  status = log_status;
  line = log_stop_line path;
  IsOwn = λ stop. Unit {0};
  IsFailed = IsInputPath path (λ folder. if is_standard path then [] else path ∷ []);
  AsksNoFile = is_standard path ≡ true;
  Leaves = LeavesOther path;
  Last = λ folder at. MatchBool (is_standard path) (Unit {0}) (at ≡ path_asked folder path);
}

-- ---- the answer of the code

-- the end that the check of the log of a path stands for; none where memory ran out
abbrev pub log_end_of : List ℕ → Result Proved LogRefusal → Option (End Proved LogStop)
log_end_of path (Ok proved) = Some (Finished proved)
log_end_of path (Err (refusals.At line fault)) = Some (Stopped (InLog line (log_fault_of fault)))
log_end_of path (Err refusals.NoFile) = Some (Stopped NoLog)
log_end_of path (Err refusals.ReadFault) = Some (Failed path)
log_end_of path (Err (refusals.Memory memory)) = None
