-- What the writer's tables stand for, over the steps of a session.
use Rattle.std.specs.Prelude.{◌≡◌, ◌<◌, ℕ, suc, List, [], ◌∷◌, ◌++◌, length, set, slice_get, Option, Some, None, Ok}
use Rattle.std.specs.List.{All}
use Rattle.ot_logic.specs.Names.{Name}
use Rattle.ot_logic.specs.Naming.{IsNameTable}
use Rattle.ot_logic.specs.Trees.{Definition}
use Rattle.ot_logic.specs.declared.command.Cmd.{Cmd}
use Rattle.ot_log_nodes.specs.Items.{Item}
use Rattle.ot_log_nodes.specs.Typing.{AreTypings}
use Rattle.ot_log_rules.specs.Statements.{sequent_at, HasStatement}
use Rattle.ot_log_rules.specs.declared.statement.Statement.{Statement}
use Rattle.ot_trace.specs.Origins.{Origin, Outcome}
use Rattle.ot_trace.specs.Trace.{IsStepTable}
use Rattle.ot_machine.specs.Objects.{Object, theorem}
use Rattle.ot_machine.specs.Values.{values, definition_of}
use Rattle.ot_machine.specs.Meaning.{origin_of, IsRun}
use Rattle.ot_machine.specs.declared.session.Session.{Session}
use Rattle.ot_log_law.specs.Writing.{Written, listed, number_of}
use Rattle.ot_log_page.specs.Sheets.{Shows}
use Rattle.ot_log_values.specs.Steps.{Makes, origins_of}
use Rattle.ot_log_values.specs.Known.{AreKnown}
use Rattle.ot_log_words.specs.Recording.{HasResult, Records, Defined}
use Rattle.ot_log_words.specs.declared.words.Made.{Made}
use Rattle.ot_log.specs.declared.writer.Place.{Place}
use Rattle.ot_log.specs.declared.writer.Writer.{Writer}

-- each name and each origin has one number
pub record IsNumbered (s : Session) : Type 0 where
  pub run : IsRun s
  pub names : IsNameTable s.kernel.names
  pub table : IsStepTable s.trace

-- the statement at a place is that of the theorem of a step
pub record IsPlaced (s : Session) (ts : List Item) (qs : List Statement) (i : ℕ) (p : Place) : Type 0 where
  pub within : p.at < length qs
  pub statement : Statement
  pub at : slice_get qs p.at ≡ Some statement
  pub makes : Makes (origin_of s i) (theorem (sequent_at ts statement))

-- the tables' numbers are of the table of nodes, and each step that has a place has its statement there
pub record IsWriter (s : Session) (w : Writer) : Type 0 where
  pub known : AreKnown s w.nodes w.values
  pub typings : AreTypings w.nodes w.typings.known.entries
  pub statements : All (HasStatement w.nodes) w.statements.items
  pub long : length w.places.items ≡ length s.trace
  pub placed : (i : ℕ) (p : Place) → slice_get w.places.items i ≡ Some (Some p)
      → IsPlaced s w.nodes w.statements.items i p

-- ---- the numbers of theorems

abbrev pub number_in : Option (Option Place) → Option ℕ
number_in None = None
number_in (Some None) = None
number_in (Some (Some p)) = Some p.number

-- that of the theorem of a step
abbrev pub number_at : List (Option Place) → ℕ → Option ℕ
number_at ps i = number_in (slice_get ps i)

-- those of the theorems among steps
abbrev pub numbers_at : List (Option Place) → List ℕ → List ℕ
numbers_at ps [] = []
numbers_at ps (i ∷ is) = listed (number_at ps i) ++ numbers_at ps is

-- the writer has the log, within so many bytes, and the number of each theorem that was written
pub record Holds (s : Session) (max : ℕ) (w : Writer) (x : Written) : Type 0 where
  pub log : Shows w.nodes max w.sheet x.log
  pub numbers : (i : ℕ) → i < length s.trace → number_of (origin_of s i) x.theorems ≡ number_at w.places.items i

-- what was written goes on by f
abbrev pub Moves : Session → Writer → Writer → (Written → Written) → Type 0
Moves s old new f = (max : ℕ) (x : Written) → Holds s max old x → Holds s max new (f x)

-- ---- what calls do

-- the records of a word and the steps of its operands were added, and no theorem has a place yet that had none
pub record Puts (s : Session) (old new : Writer) (w : Cmd) (ids : List ℕ) (m : Made) : Type 0 where
  pub writer : IsWriter s new
  pub places : new.places.items ≡ old.places.items
  pub objects : List Object
  pub values_are : values (origins_of s ids) ≡ Ok objects
  pub records : Records old.nodes new.nodes old.sheet new.sheet w objects (numbers_at old.places.items ids) m

-- the same of a definition
pub record PutsDefinition (s : Session) (old new : Writer) (w : Cmd) (ids : List ℕ) (qs : List Statement) : Type
    0 where
  pub writer : IsWriter s new
  pub places : new.places.items ≡ old.places.items
  pub objects : List Object
  pub values_are : values (origins_of s ids) ≡ Ok objects
  pub defined : Defined old.nodes new.nodes old.sheet new.sheet w objects (numbers_at old.places.items ids) qs

-- a theorem keeps its first place
abbrev pub first_place : Option (Option Place) → Place → Place
first_place (Some (Some p)) q = p
first_place _ q = q

-- the theorem of a step has a place
pub record Marks (id : ℕ) (m : Made) (old new : Writer) : Type 0 where
  pub sheet : new.sheet ≡ old.sheet
  pub nodes : new.nodes ≡ old.nodes
  pub values : new.values ≡ old.values
  pub typings : new.typings ≡ old.typings
  pub statements : new.statements.items ≡ old.statements.items ++ m.statement ∷ []
  pub places : new.places.items
      ≡ set old.places.items id (Some (first_place (slice_get old.places.items id)
      (record { number = m.number; at = length old.statements.items })))
  pub inside : id < length old.places.items

-- ---- definitions

-- it is accepted after some definitions
abbrev pub IsDefinable : Origin Name → Type 0
IsDefinable o = (ds : List (Definition Name)) × HasResult (definition_of ds o)

-- the statements are those of the theorems of a definition, in order
abbrev pub AreTheorems : List Item → Origin Name → List Statement → Type 0
AreTheorems ts d qs = (j : ℕ) (q : Statement) → slice_get qs j ≡ Some q
    → Makes (Outcome (suc j) d) (theorem (sequent_at ts q))
