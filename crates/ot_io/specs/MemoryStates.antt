-- What contracts see of the source, the sink and the files in memory.
use Rattle.std.specs.Prelude.{◌≤◌, ◌<◌, ◌-◌, length, ℕ, min, List, Option, Contains}
use Rattle.ot_io.specs.Causes.{next_count}
use Rattle.ot_io.specs.Folder.{Folder}

-- the numbers of the calls that fail, how many calls there were, and how many of them failed
pub record CallState : Type 0 where
  pub fail : List ℕ
  pub made : ℕ
  pub faults : ℕ

-- before the first call
abbrev pub no_calls : List ℕ → CallState
no_calls fail = record { fail = fail; made = 0; faults = 0 }

-- the number of the next call is listed
abbrev pub FailsNext : CallState → Type 0
FailsNext calls = Contains calls.fail (next_count calls.made)

-- one call later
abbrev pub after_call : CallState → CallState
after_call calls = record calls { made = next_count calls.made }

-- one more failure
abbrev pub with_fault : CallState → CallState
with_fault calls = record calls { faults = next_count calls.faults }

-- one call later, which failed
abbrev pub after_failed_call : CallState → CallState
after_failed_call calls = with_fault (after_call calls)

-- of a source: the bytes that are left, and the most that a call gives
pub record SourceState : Type 0 where
  pub left : List ℕ
  pub piece : ℕ
  pub calls : CallState

-- of a sink: the bytes written, how many were flushed, how many it keeps, and the most that a call takes
pub record SinkState : Type 0 where
  pub bytes : List ℕ
  pub flushed : ℕ
  pub room : ℕ
  pub piece : ℕ
  pub calls : CallState

-- a piece that is not empty, and no room
abbrev pub FindsNoRoom : SinkState → List ℕ → Type 0
FindsNoRoom sink piece = (0 < length piece) × (sink.room ≤ length sink.bytes)

-- how many bytes of a piece there is room for in one call
abbrev pub written_count : SinkState → List ℕ → ℕ
written_count sink piece = min (length piece) (min sink.piece (sink.room - length sink.bytes))

-- of files: the folder, what the open file has left, the path asked for last, the count of missing
-- files, and the most that a read gives
pub record FilesState : Type 0 where
  pub folder : Folder
  pub left : List ℕ
  pub at : Option (List ℕ)
  pub misses : ℕ
  pub piece : ℕ
  pub calls : CallState
