-- Definitions with their theorems, by number.
use Rattle.std.specs.Prelude.{◌≡◌, List, map}
use Rattle.std.specs.List.{All}
use Rattle.ot_logic.specs.Names.{Name}
use Rattle.ot_logic.specs.Naming.{names}
use Rattle.ot_logic.specs.Trees.{Definition}
use Rattle.ot_logic.specs.Hol.{theorems}
use Rattle.ot_log_nodes.specs.Items.{Item}
use Rattle.ot_log_rules.specs.Statements.{sequent_at, HasStatement}
use Rattle.ot_log_rules.specs.Definitions.{definition_at, HasDefinition}
use Rattle.ot_log_rules.specs.declared.definition.Accepted.{Accepted}

-- the definition
abbrev pub accepted_at : List Item → Accepted → Definition Name
accepted_at ts a = definition_at ts a.definition

-- its numbers are of the table, and the sequents beside it are its theorems
pub record HasAccepted (ts : List Item) (a : Accepted) : Type 0 where
  pub definition : HasDefinition ts a.definition
  pub has : All (HasStatement ts) a.theorems.items
  pub are : map (sequent_at ts) a.theorems.items ≡ theorems names (definition_at ts a.definition)
