-- What words ask for, and the command of each task.
use Rattle.std.specs.Option.{option_map}
use Rattle.std.specs.Prelude.{ℕ, ◌≤◌, List, Option, Some, None, Result, Ok, Err}
use Rattle.ot_args.specs.declared.command.Usage as words
use Rattle.ot_args.specs.Grammar.{CommandValue, Check, Info, Uses as InfoUses, Readable as InfoReadable, Link}
use Rattle.ot_args.specs.Grammar.{Minimise, Sample, SampleArticle, Verify, Read, Prove, Find, command_of}
use Rattle.ot_program.specs.CheckLog.{check_log}
use Rattle.ot_program.specs.Command.{Command}
use Rattle.ot_program.specs.FindPattern.{find_pattern}
use Rattle.ot_program.specs.ReadLines.{read_lines}
use Rattle.ot_program.specs.RunInput.{run_input}
use Rattle.ot_program.specs.Samples.{run_sample, make_sample}
use Rattle.ot_program.specs.ShowReadable.{show_readable}
use Rattle.ot_program.specs.declared.task.Job.{Job}
use Rattle.ot_program.specs.declared.task.Task.{Task}
use Rattle.ot_program.specs.declared.task.Task.TheVariants as code
use Rattle.ot_program.specs.declared.task.View.{View}
use Rattle.ot_program.specs.declared.task.View.TheVariants.{Counts, Summary, Uses, Article, Log}

-- it runs an input, with packages from a folder, and prints the result of the run in one view; it makes the sample
-- article of a size, and runs it, or makes it alone; it checks the log of a path; or it runs an input and prints the
-- result in readable form, or reads the lines of a text, or searches the run, and the packages that it
-- requires, for a pattern
pub data TaskValue : Type 0 where
  RunInput : List ℕ → List ℕ → View → TaskValue
  RunSample : ℕ → TaskValue
  MakeSample : ℕ → TaskValue
  CheckLog : List ℕ → TaskValue
  ShowReadable : List ℕ → List ℕ → TaskValue
  ReadLines : (packages path text : List ℕ) → TaskValue
  FindPattern : (packages pattern path : List ℕ) → TaskValue

abbrev pub task : CommandValue → TaskValue
task (Check packages path) = RunInput packages path Counts
task (Info packages path sections) = RunInput packages path (Summary sections)
task (InfoUses packages path) = RunInput packages path Uses
task (Link packages path) = RunInput packages path Article
task (Minimise packages path) = RunInput packages path Article
task (Prove packages path) = RunInput packages path Log
task (Sample n) = RunSample n
task (SampleArticle n) = MakeSample n
task (Verify path) = CheckLog path
task (InfoReadable packages path) = ShowReadable packages path
task (Read packages path text) = ReadLines packages path text
task (Find packages pattern path) = FindPattern packages pattern path

-- what words ask for, none where they are no command
abbrev pub task_of : List (List ℕ) → Option TaskValue
task_of words = option_map task (command_of words)

-- the command of a task
abbrev pub command : TaskValue → Command
command (RunInput packages path view) = run_input packages path view
command (RunSample n) = run_sample n
command (MakeSample n) = make_sample n
command (CheckLog path) = check_log path
command (ShowReadable packages path) = show_readable packages path
command (ReadLines packages path text) = read_lines packages path text
command (FindPattern packages pattern path) = find_pattern packages pattern path

-- ---- the answers of the code

-- the run that a job asks for
abbrev pub job_task : Job → TaskValue
job_task j = RunInput j.packages.now j.path.now j.view

-- a task without where it lies in memory
abbrev pub task_value : Task → TaskValue
task_value (code.RunInput job) = job_task job
task_value (code.RunSample count) = RunSample count
task_value (code.MakeSample count) = MakeSample count
task_value (code.CheckLog path) = CheckLog path.now
task_value (code.ShowReadable packages path) = ShowReadable packages.now path.now
task_value (code.ReadLines packages path text) = ReadLines packages.now path.now text.now
task_value (code.FindPattern packages pattern path) = FindPattern packages.now pattern.now path.now

-- a sample is of a size that is made
abbrev pub IsSized : TaskValue → Type 0
IsSized (RunInput packages path view) = Unit {0}
IsSized (RunSample n) = n ≤ 1000
IsSized (MakeSample n) = n ≤ 1000
IsSized (CheckLog path) = Unit {0}
IsSized (ShowReadable packages path) = Unit {0}
IsSized (ReadLines packages path text) = Unit {0}
IsSized (FindPattern packages pattern path) = Unit {0}

abbrev pub task_answer : Result Task words.Usage → Option TaskValue
task_answer (Ok t) = Some (task_value t)
task_answer (Err _) = None
