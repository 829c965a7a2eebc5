-- The state of an article, and that of the whole run.
use Rattle.std.specs.Prelude.{ℕ, List, []}
use Rattle.std.specs.Ordering.{int_cmp}
use Rattle.std.specs.FinMap.{FinMap, empty}
use Rattle.ot_logic.specs.Names.{Name}
use Rattle.ot_logic.specs.Trees.{Sequent, Definition}
use Rattle.ot_trace.specs.Origins.{Origin, Roots}
use Rattle.ot_interp.specs.Interpretation.{Interpretation, identity}
use Rattle.ot_machine.specs.Objects.{Object}

-- what stands on the stack and in the dictionary: an object, and how it was made
pub record Entry : Type 0 where
  pub object : Object
  pub origin : Origin Name

-- a sequent that an article exports, and how its theorem, its list and its term were made
pub record Export : Type 0 where
  pub sequent : Sequent Name
  pub roots : Roots Name

-- a sequent that may be used: an assumption, or a theorem of the context
pub record Given : Type 0 where
  pub sequent : Sequent Name
  pub origin : Origin Name

-- a definition of the run
pub record Made : Type 0 where
  pub definition : Definition Name
  pub origin : Origin Name

-- the version of an article: open as long as it may be 5 or 6
pub data Version : Type 0 where
  open_version : Version
  version_5 : Version
  version_6 : Version

-- of one article: a stack, whose top is the end of the list, a dictionary, the exports, a count of commands, and a
-- version
pub record ArticleState : Type 0 where
  pub stack : List Entry
  pub dictionary : FinMap int_cmp Entry
  pub exports : List Export
  pub count : ℕ
  pub version : Version

-- of the whole run
pub record RunState : Type 0 where
  pub assumptions : List Given
  pub definitions : List Made

pub record State : Type 0 where
  pub article : ArticleState
  pub run : RunState

-- before the first command of an article
abbrev pub fresh_article : ArticleState
fresh_article = record { stack = []; dictionary = empty; exports = []; count = 0; version = open_version }

-- before the first article of a run
abbrev pub fresh_run : RunState
fresh_run = record { assumptions = []; definitions = [] }

-- ---- the context of an article

-- how names of symbols are read, and the theorems that come from other articles
pub record Context : Type 0 where
  pub interpretation : Interpretation Name
  pub theorems : List Given

-- the identity, and no theorem
abbrev pub no_context : Context
no_context = record { interpretation = identity; theorems = [] }
