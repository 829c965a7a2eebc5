-- The run of a block.
use Rattle.std.specs.Prelude.{ℕ, List, [], ◌∷◌, ◌++◌, map, Option, Some, None, Result, Ok, Err, if◌then◌else◌}
use Rattle.ot_logic.specs.Naming.{names}
use Rattle.ot_interp.specs.Interpretation.{after}
use Rattle.ot_scan.specs.Lines.{lines_of}
use Rattle.ot_theory.specs.Theory.{TagText, BlockText}
use Rattle.ot_theory.specs.Values.{key_of}
use Rattle.ot_theory.specs.declared.keys.Key.{Key}
use Rattle.ot_theory.specs.declared.keys.Key.TheVariants as keys
use Rattle.ot_blocks.specs.Structure.{source_of}
use Rattle.ot_blocks.specs.Paths.{article_path}
use Rattle.ot_machine.specs.States.{Export, Given, RunState, Context, fresh_article}
use Rattle.ot_machine.specs.Run.{Outcome, Ended, Stopped, run}
use Rattle.ot_machine.specs.Rows.{is_exported}
use Rattle.ot_link.specs.Stops.{Stop, InArticle, Linked, answered, ◌>>=◌, Setting, file_at}
use Rattle.ot_link.specs.Renaming.{interpretation_of}

-- what an article, a block or a theory file exports, and the state of the run behind it
pub record Ran : Type 0 where
  pub exports : List Export
  pub run : RunState

-- ---- what a block is run in

-- an export is given to the blocks that import it, with the origin of its theorem
abbrev pub given_by : Export → Given
given_by e = record { sequent = e.sequent; origin = e.roots.theorem }

-- the imported exports come before the outer theorems, and the block's own interpretation before the outer one
abbrev pub context_in : Context → List TagText → List Export → Context
context_in outer statements imports = record {
  interpretation = after names (interpretation_of statements) outer.interpretation;
  theorems = map given_by imports ++ outer.theorems;
}

-- ---- what a block exports

-- each sequent once, at its first place
abbrev pub each_once : List Export → List Export → List Export
each_once seen [] = seen
each_once seen (e ∷ es) = each_once (if is_exported e.sequent seen then seen else seen ++ e ∷ []) es

-- how the run of an article ends, in the file of this path
abbrev pub article_end : List ℕ → Outcome → Result Ran Stop
article_end path (Ended s) = Ok (record { exports = s.article.exports; run = s.run })
article_end path (Stopped line fault s) = Err (InArticle path line fault)

-- the article of a file, from a fresh state; assumptions and definitions go on
abbrev pub run_article : Setting → List ℕ → Context → RunState → Linked Ran
run_article e path c r =
    file_at e path >>= λ bytes.
    answered (article_end path
    (run c (lines_of e.limits.article_bytes bytes) (record { article = fresh_article; run = r })))

-- a package that a line asks for, run in a context
abbrev pub Opener : Type 0
Opener = ℕ → List ℕ → Context → RunState → Linked Ran

-- what a block takes its exports from: an article with this value, a package that is asked for in this line, or its
-- imports
pub data Source : Type 0 where
  FromArticle : List ℕ → Source
  FromPackage : ℕ → List ℕ → Source
  FromImports : Source

abbrev pub source_by : Key → TagText → Source
source_by keys.Article t = FromArticle t.value
source_by keys.Package t = FromPackage t.line t.value
source_by keys.Import t = FromImports
source_by keys.Interpret t = FromImports
source_by keys.Other t = FromImports

abbrev pub source_at : Option TagText → Source
source_at None = FromImports
source_at (Some t) = source_by (key_of t.key) t

-- a source in the theory file of this path, run in a context; without article or package the imports are passed on
abbrev pub run_source : Setting → Opener → List ℕ → List Export → Source → Context → RunState → Linked Ran
run_source e opener path imports (FromArticle value) c r = run_article e (article_path path value) c r
run_source e opener path imports (FromPackage line full) c r = opener line full c r
run_source e opener path imports FromImports c r = answered (Ok (record { exports = each_once [] imports; run = r }))

-- a block with these imported exports, in the theory file of this path, which is run in an outer context
abbrev pub run_block : Setting → Opener → List ℕ → Context → BlockText → List Export → RunState → Linked Ran
run_block e opener path outer b imports r =
    run_source e opener path imports (source_at (source_of b)) (context_in outer b.statements imports) r
