-- The command `info --readable`.
use Rattle.std.specs.Prelude.{ℕ, List, true, length, nat_le, ◌≡◌}
use Rattle.ot_logic.specs.Limits.{summary_limit}
use Rattle.ot_link.specs.Stops.{Stop}
use Rattle.ot_pretty.specs.Summary.{readable_summary, ReadBack}
use Rattle.ot_program.specs.Command.{run_lists, LeavesOther, LastInput, IsInputPath, Command}
use Rattle.ot_program.specs.Runs.{assumptions_of, exports_of, Noted, noted_at, opened_noted, notation, stop_status}
use Rattle.ot_program.specs.Runs.{IsInputStop}
use Rattle.ot_program.specs.World.{is_standard}
use Rattle.ot_program.specs.Texts.{stop_line, large_line}

-- its assumptions and theorems in readable form
abbrev pub readable : Noted → List ℕ
readable n = readable_summary (notation n) (assumptions_of n.ran) (exports_of n.ran)

-- each readable text reads back as the sequent that it was printed for
abbrev pub AreReadBack : Noted → Type 0
AreReadBack n = ReadBack (notation n) (assumptions_of n.ran) (exports_of n.ran)

abbrev pub show_readable : (packages path : List ℕ) → Command
show_readable packages path = record {
  Product = Noted;
  Halt = Stop;
  result = noted_at packages path;
  text = readable;
  fits = λ n. nat_le (length (readable n)) summary_limit;
  large = large_line path;
  lists = λ n. run_lists n.ran;
  IsPromised = AreReadBack;
  status = stop_status;
  line = stop_line;
  IsOwn = IsInputStop path;
  IsFailed = IsInputPath path (opened_noted packages path);
  AsksNoFile = is_standard path ≡ true;
  Leaves = LeavesOther path;
  Last = LastInput path;
}
