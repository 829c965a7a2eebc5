-- The minimised article of a run.
use Rattle.std.specs.Prelude.{ℕ, Bool, List, map}
use Rattle.std.specs.List.{All}
use Rattle.ot_logic.specs.Names.{Name}
use Rattle.ot_logic.specs.Naming.{names}
use Rattle.ot_trace.specs.Origins.{Origin}
use Rattle.ot_written.specs.Same.{same_origin}
use Rattle.ot_written.specs.Uses.{article}
use Rattle.ot_written.specs.Bytes.{bytes_of}
use Rattle.ot_machine.specs.States.{Export, RunState}
use Rattle.ot_machine.specs.Lawful.{IsLawfulRun, IsLawfulExport, StatesSequent, AreApart, run_basis}
use Rattle.ot_machine.specs.Writable.{IsWritable}
use Rattle.ot_article.specs.Article.{origins_made, IsArticleOf}
use Rattle.ot_machine.specs.declared.machine.Export as code
use Rattle.ot_write.specs.declared.roots.Roots as steps

-- whether two origins are one
abbrev pub same : Origin Name → Origin Name → Bool
same = same_origin names.same

-- its bytes: the written article of the exports, among the definitions of the run
abbrev pub minimised : RunState → List Export → List ℕ
minimised r es = bytes_of (article same (origins_made r.definitions) (map (λ e. e.roots) es)).lines

-- run alone, with at most so many bytes, these bytes end and export the same, from what is needed alone
abbrev pub IsMinimised : ℕ → RunState → List Export → List ℕ → Type 0
IsMinimised max r es bytes = IsArticleOf same max r.definitions es bytes

-- each assumption, definition and export is what its origin makes of names that a line can say, each export has the
-- hypotheses and the conclusion of its roots, and no sequent is exported twice
pub record AreLawful (r : RunState) (es : List Export) : Type 0 where
  pub run : IsLawfulRun IsWritable r
  pub exports : All (IsLawfulExport (run_basis IsWritable r)) es
  pub stated : All StatesSequent es
  pub apart : AreApart (λ e. e.sequent) es

-- the steps of an export's roots
abbrev pub roots_in : code.Export → steps.Roots
roots_in e = record { theorem = e.theorem; list = e.list; term = e.term }
