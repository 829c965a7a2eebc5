-- The law that what the stated run of a theory file leaves is lawful.
use Rattle.std.specs.Prelude.{ℕ, List, IfOk}
use Rattle.std.specs.List.{All}
use Rattle.ot_logic.specs.Names.{Name}
use Rattle.ot_scan.specs.Lines.{Lines}
use Rattle.ot_machine.specs.States.{fresh_article, fresh_run, no_context}
use Rattle.ot_machine.specs.Run as articles
use Rattle.ot_machine.specs.Lawful.{IsLawfulExport, IsLawfulRun, run_basis}
use Rattle.ot_link.specs.Stops.{Setting}
use Rattle.ot_link.specs.Blocks.{Ran, article_end}
use Rattle.ot_link.specs.Link.{link}

-- any name may be in an origin
abbrev pub IsAnyName : Name → Type 0
IsAnyName n = Unit {0}

-- the run is lawful, and so are the exports over it
pub record IsLawfulRan (r : Ran) : Type 0 where
  pub run : IsLawfulRun IsAnyName r.run
  pub exports : All (IsLawfulExport (run_basis IsAnyName r.run)) r.exports

-- so it is where an article ends on its own, and where a theory file does with all that it asks for
pub record EndsAreLawful : Type 0 where
  pub articles : (path : List ℕ) (lines : Lines)
      → IfOk
      (article_end path (articles.run no_context lines (record { article = fresh_article; run = fresh_run })))
      IsLawfulRan
  pub theories : (e : Setting) (path : List ℕ) → IfOk (link e path).answer IsLawfulRan
