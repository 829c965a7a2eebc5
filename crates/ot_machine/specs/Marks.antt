-- The marks of an article's commands, and when an article is lean.
use Rattle.std.specs.Prelude.{◌≡◌, ◌-◌, ◌++◌, ℕ, List, [], ◌∷◌, length, drop, map, Result, Ok, Err}
use Rattle.std.specs.List.{flat_map}
use Rattle.ot_logic.specs.Lists.{IsMember, AreDistinct}
use Rattle.ot_logic.specs.Names.{Name}
use Rattle.ot_logic.specs.Faults.{Fault}
use Rattle.ot_logic.specs.Answers.{◌>>=◌}
use Rattle.ot_logic.specs.declared.command.Cmd.{Cmd}
use Rattle.ot_logic.specs.declared.command.Cmd.TheVariants as words
use Rattle.ot_scan.specs.Words.{word}
use Rattle.ot_scan.specs.Lines.{Lines, Finished, Broken, Next, lines_of}
use Rattle.ot_trace.specs.Origins.{Origin, Named}
use Rattle.ot_trace.specs.Reach.{IsReached}
use Rattle.ot_machine.specs.States.{Export, State, Context, no_context, fresh_article, fresh_run}
use Rattle.ot_machine.specs.Places.{top}
use Rattle.ot_machine.specs.Step.{Command, numeral, named, order, command_of}
use Rattle.ot_machine.specs.Run.{Ended, line_step, run}

-- the origin of the entry on the top, and that of the last definition
abbrev pub top_origin : State → List (Origin Name)
top_origin s = map (λ e. e.origin) (top 1 s.article.stack)

abbrev pub last_definition : State → List (Origin Name)
last_definition s = map (λ m. m.origin) (drop (length s.run.definitions - 1) s.run.definitions)

-- the mark of a word, by the state behind it: the origin that it pushes, or its definition; eight words have none
abbrev pub word_mark : Cmd → State → List (Origin Name)
word_mark words.Version s = []
word_mark words.HdTl s = []
word_mark words.Def s = []
word_mark words.Ref s = []
word_mark words.Remove s = []
word_mark words.Pop s = []
word_mark words.Pragma s = []
word_mark words.Thm s = []
word_mark words.DefineConst s = last_definition s
word_mark words.DefineConstList s = last_definition s
word_mark words.DefineTypeOp s = last_definition s
word_mark w s = top_origin s

-- the mark of a command, by the state behind it
abbrev pub mark : Command → State → List (Origin Name)
mark (numeral k) s = []
mark (named n) s = Named n ∷ []
mark (order w) s = word_mark w s

abbrev pub mark_of : Result Command (Fault Name) → State → List (Origin Name)
mark_of (Ok command) s = mark command s
mark_of (Err fault) s = []

abbrev pub marks_after : Result Command (Fault Name) → Result State (Fault Name) → (State → List (Origin Name))
    → List (Origin Name)
marks_after command (Ok s) later = mark_of command s ++ later s
marks_after command (Err fault) later = []

-- the marks of the lines that pass, in order
abbrev pub marks_of : Context → Lines → State → List (Origin Name)
marks_of c Finished s = []
marks_of c (Broken number fault) s = []
marks_of c (Next number text lines) s = marks_after (word text >>= command_of) (line_step c s text) (marks_of c lines)

-- before the first command of the first article
abbrev pub fresh : State
fresh = record { article = fresh_article; run = fresh_run }

-- the roots of exports
abbrev pub roots_of : List Export → List (Origin Name)
roots_of es = flat_map (λ e. e.roots.theorem ∷ e.roots.list ∷ e.roots.term ∷ []) es

-- an article that ends, no two of whose commands have one mark, and each of whose marks is needed for its exports
pub record IsLean (max : ℕ) (bytes : List ℕ) : Type 0 where
  pub last : State
  pub ends : run no_context (lines_of max bytes) fresh ≡ Ended last
  pub distinct : AreDistinct (marks_of no_context (lines_of max bytes) fresh)
  pub needed : (o : Origin Name) → IsMember o (marks_of no_context (lines_of max bytes) fresh)
      → IsReached (roots_of last.article.exports) (map (λ m. m.origin) last.run.definitions) o
