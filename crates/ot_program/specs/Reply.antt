-- What the program answers to words, files and input.
use Rattle.std.specs.Prelude.{ℕ, List, [], Option, Some, None, Result, Ok, Err, if◌then◌else◌}
use Rattle.ot_program.specs.Command.{Command}
use Rattle.ot_program.specs.Tasks.{TaskValue, task_of, command}
use Rattle.ot_program.specs.Texts.{usage_line}
use Rattle.ot_program.specs.World.{World}
use Rattle.ot_program.specs.declared.status.Status.{Status}
use Rattle.ot_program.specs.declared.status.Status.TheVariants.{Accepted, Refused, Usage}

-- a text on standard output, one on standard error, and how the program ends
pub record Reply : Type 0 where
  pub output : List ℕ
  pub error : List ℕ
  pub status : Status

-- a text for standard output where the input is accepted, and else a line for standard error
abbrev pub accepted : List ℕ → Reply
accepted text = record { output = text; error = []; status = Accepted }

abbrev pub fails : Status → List ℕ → Reply
fails status line = record { output = []; error = line; status = status }

-- a command that ended is accepted, with what it prints; a text past the limit is refused
abbrev pub reply_to_end : (c : Command) → c.Product → Reply
reply_to_end c x = if c.fits x then accepted (c.text x) else fails Refused c.large

-- the reply to a command, by how it ends
abbrev pub reply_to : (c : Command) → Result c.Product c.Halt → Reply
reply_to c (Ok x) = reply_to_end c x
reply_to c (Err stop) = fails (c.status stop) (c.line stop)

abbrev pub reply_to_task : Option TaskValue → World → Reply
reply_to_task None world = fails Usage usage_line
reply_to_task (Some t) world = reply_to (command t) ((command t).result world)

-- the answer to these words, over these files and this input
abbrev pub answer : List (List ℕ) → World → Reply
answer words world = reply_to_task (task_of words) world
