-- The command `read`.
use Rattle.std.specs.Prelude.{ℕ, List, length, nat_le, Result, Ok, ◌≡◌, ◌⊎◌, MatchBool}
use Rattle.ot_io.specs.Folder.{Folder, bytes_at}
use Rattle.ot_link.specs.Stops.{Stop}
use Rattle.ot_logic.specs.Answers.{◌>>=◌, some_or, unless}
use Rattle.ot_logic.specs.Names.{Name}
use Rattle.ot_logic.specs.Trees.{Sequent, Symbol}
use Rattle.ot_logic.specs.Limits.{summary_limit, text_limit}
use Rattle.ot_forms.specs.Words.{IsNotation}
use Rattle.ot_read.specs.Laws.{StandFor, IsFirstRefused}
use Rattle.ot_read.specs.Lines.{RefusedLine, lines_read, sequent_lines}
use Rattle.ot_theory.specs.Lines.{LineText, lines_of as text_lines}
use Rattle.ot_program.specs.Command.{run_lists, LastOf, IsInputPath, HasNoStop, Command}
use Rattle.ot_program.specs.Runs.{Noted, noted_at, opened_noted, notation, stop_status, stops_as, IsInputStop}
use Rattle.ot_program.specs.Texts.{stop_line, column_line, missing_line, large_line, large_text_line}
use Rattle.ot_program.specs.World.{World, Every, is_standard}
use Rattle.ot_program.specs.declared.status.Status.{Status}
use Rattle.ot_program.specs.declared.status.Status.TheVariants.{Refused, NoFile}

-- lines that were read under the notation of a run, and the sequents that they stand for
pub record Readings : Type 0 where
  pub noted : Noted
  pub lines : List LineText
  pub sequents : List (Sequent Name)

-- why they aren't: the run of the input stops; the text isn't there, or is too large; or a line is refused
pub data ReadStop : Type 0 where
  InInput : Stop → ReadStop
  NoText : ReadStop
  TextTooLarge : ReadStop
  InLine : RefusedLine → ReadStop

-- the bytes of the text of a path
abbrev pub text_in : List ℕ → Folder → Result (List ℕ) ReadStop
text_in text folder = do
  bytes ← some_or NoText (bytes_at folder text)
  _ ← unless TextTooLarge (nat_le (length bytes) text_limit)
  Ok bytes

-- behind the run the text comes first, then its lines under the notation of the run
abbrev pub read_in : Noted → List ℕ → Folder → Result Readings ReadStop
read_in n text folder = do
  bytes ← text_in text folder
  qs ← stops_as InLine (lines_read (notation n) (text_lines bytes))
  Ok (record { noted = n; lines = text_lines bytes; sequents = qs })

-- the run of the input comes before both
abbrev pub read_at : (packages path text : List ℕ) → World → Result Readings ReadStop
read_at packages path text world = do
  n ← stops_as InInput (noted_at packages path world)
  read_in n text world.folder

-- ---- its halts

-- of lines that aren't read
abbrev pub read_status : ReadStop → Status
read_status (InInput stop) = stop_status stop
read_status NoText = NoFile
read_status TextTooLarge = Refused
read_status (InLine refused) = Refused

-- the line for what stops the reading of a text
abbrev pub read_stop_line : List ℕ → ReadStop → List ℕ
read_stop_line text (InInput stop) = stop_line stop
read_stop_line text NoText = missing_line text
read_stop_line text TextTooLarge = large_text_line text
read_stop_line text (InLine refused) = column_line text refused.line refused.column refused.fault

-- by the forms, it is the first refusal of some lines under a notation
pub record IsLineStop (refused : RefusedLine) : Type 0 where
  pub hidden : List (Symbol Name)
  pub notation : IsNotation hidden
  pub lines : List LineText
  pub first : IsFirstRefused hidden lines refused

-- the lines of a text have stops of their own
abbrev pub IsReadStop : List ℕ → ReadStop → Type 0
IsReadStop path (InInput stop) = IsInputStop path stop
IsReadStop path NoText = Unit {0}
IsReadStop path TextTooLarge = Unit {0}
IsReadStop path (InLine refused) = IsLineStop refused

-- ---- the command

-- a read fault names the input's path as any command's; or the text's, which is always a file and is read behind the
-- input
abbrev pub read_lines : (packages path text : List ℕ) → Command
read_lines packages path text = record {
  Product = Readings;
  Halt = ReadStop;
  result = read_at packages path text;
  text = λ r. sequent_lines r.sequents;
  fits = λ r. nat_le (length (sequent_lines r.sequents)) summary_limit;
  large = large_line path;
  lists = λ r. run_lists r.noted.ran;
  IsPromised = λ r. StandFor (notation r.noted) r.lines r.sequents;
  status = read_status;
  line = read_stop_line text;
  IsOwn = IsReadStop path;
  IsFailed = λ May InputFails FileFails failed.
      IsInputPath path (opened_noted packages path) May InputFails FileFails failed
      ⊎ ((failed ≡ text) × Every May (λ world. HasNoStop (noted_at packages path world)) × FileFails failed);
  AsksNoFile = ⊥;
  Leaves = λ files files_now input input_now. MatchBool (is_standard path) (Unit {0}) (input_now ≡ input);
  Last = LastOf path text;
}
