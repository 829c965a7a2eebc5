-- The run of the lines of a text in the empty context, and the marks of the lines.
use Rattle.std.specs.Prelude.{◌≡◌, true, List, [], ◌∷◌, ◌++◌, Result, Ok, Err}
use Rattle.ot_logic.specs.Names.{Name}
use Rattle.ot_logic.specs.Faults.{Fault}
use Rattle.ot_logic.specs.Answers.{◌>>=◌}
use Rattle.ot_scan.specs.Words.{is_in_range}
use Rattle.ot_trace.specs.Origins.{Origin, Number, Named}
use Rattle.ot_machine.specs.States.{State, Context, no_context}
use Rattle.ot_machine.specs.Step.{Command, numeral, named, order, version_rule, row, counted}
use Rattle.ot_machine.specs.Marks.{mark}
use Rattle.ot_machine.specs.Writable.{IsWritable}
use Rattle.ot_written.specs.Written.{Line, Numeral, Spelled, Order}

-- the command that a line writes
abbrev pub command : Line Name → Command
command (Numeral k) = numeral k
command (Spelled n) = named n
command (Order w) = order w

-- a step by a command
abbrev pub command_step : Context → State → Command → Result State (Fault Name)
command_step c s w = do
  v ← version_rule s.article.version s.article.count w
  next ← row v c w s
  Ok (record next { article = record (counted next.article) { version = v } })

-- line after line
abbrev pub line_step : Line Name → State → Result State (Fault Name)
line_step l s = command_step no_context s (command l)

abbrev pub run : List (Line Name) → State → Result State (Fault Name)
run [] s = Ok s
run (l ∷ ls) s = line_step l s >>= run ls

-- the marks of lines, in order, as far as they run
abbrev pub marks_after : Line Name → Result State (Fault Name) → (State → List (Origin Name)) → List (Origin Name)
marks_after l (Err f) later = []
marks_after l (Ok s) later = mark (command l) s ++ later s

abbrev pub marks : List (Line Name) → State → List (Origin Name)
marks [] s = []
marks (l ∷ ls) s = marks_after l (line_step l s) (marks ls)

-- ---- a line that is read back as it was written

abbrev pub IsReadable : Line Name → Type 0
IsReadable (Numeral k) = is_in_range k ≡ true
IsReadable (Spelled n) = IsWritable n
IsReadable (Order w) = Unit {0}

abbrev pub AreReadable : List (Line Name) → Type 0
AreReadable [] = Unit {0}
AreReadable (l ∷ ls) = IsReadable l × AreReadable ls

-- an origin whose own line is read back
abbrev pub IsSayable : Origin Name → Type 0
IsSayable (Number k) = is_in_range k ≡ true
IsSayable (Named n) = IsWritable n
IsSayable _ = Unit {0}
