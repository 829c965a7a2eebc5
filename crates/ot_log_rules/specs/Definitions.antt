-- Definitions by the numbers of names and terms.
use Rattle.std.specs.Prelude.{◌≡◌, ℕ, List, map, Result, Ok, Err}
use Rattle.std.specs.Global.{Vec}
use Rattle.std.specs.List.{All}
use Rattle.ot_logic.specs.Names.{Name}
use Rattle.ot_logic.specs.Naming.{names}
use Rattle.ot_logic.specs.Hol.{theorems}
use Rattle.ot_log_format.specs.Tokens.{LogFault, BadStep}
use Rattle.ot_logic.specs.Trees.{Variable, Definition, ConDef, ListDef, TyDef}
use Rattle.ot_log_nodes.specs.Items.{Item, HasName, HasTerm, name_at, term_at}
use Rattle.ot_log_nodes.specs.Changing.{variable_at, HasVariable}
use Rattle.ot_log_nodes.specs.declared.node.VariableNode.{VariableNode}
use Rattle.ot_log_rules.specs.Statements.{sequent_at, HasStatement}
use Rattle.ot_log_rules.specs.declared.statement.Statement.{Statement}
use Rattle.ot_log_rules.specs.declared.statement.StepFault.{StepFault}
use Rattle.ot_log_rules.specs.declared.statement.StepFault.TheVariants as fault
use Rattle.ot_log_rules.specs.declared.definition.Definition as code
use Rattle.ot_log_rules.specs.declared.definition.Definition.TheVariants as kind

-- constants and their variables
abbrev pub pairs_at : List Item → List (ℕ × VariableNode) → List (Name × Variable Name)
pairs_at ts ps = map (λ p. (name_at ts p.0, variable_at ts p.1)) ps

abbrev pub HasPairs : List Item → List (ℕ × VariableNode) → Type 0
HasPairs ts ps = All (λ p. HasName ts p.0 × HasVariable ts p.1) ps

abbrev pub names_at : List Item → List ℕ → List Name
names_at ts is = map (name_at ts) is

-- the definition that is stated
abbrev pub definition_at : List Item → code.Definition → Definition Name
definition_at ts (kind.Constant n t) = ConDef (name_at ts n) (term_at ts t)
definition_at ts (kind.Constants ps q) = ListDef (pairs_at ts ps.items) (sequent_at ts q)
definition_at ts (kind.TypeOperator n abs rep vs q) =
    TyDef (name_at ts n) (name_at ts abs) (name_at ts rep) (names_at ts vs.items) (sequent_at ts q)

-- its numbers are of the table
abbrev pub HasDefinition : List Item → code.Definition → Type 0
HasDefinition ts (kind.Constant n t) = HasName ts n × HasTerm ts t
HasDefinition ts (kind.Constants ps q) = HasPairs ts ps.items × HasStatement ts q
HasDefinition ts (kind.TypeOperator n abs rep vs q) = HasName ts n × HasName ts abs × HasName ts rep
    × All (HasName ts) vs.items × HasStatement ts q

-- the sequents are the theorems of the definition, which the case gives; or it gives none.
-- Running out of memory may be answered at any point
abbrev pub Defines : Result (Vec Statement) StepFault → Definition Name → Result (Definition Name) LogFault
    → List Item → Type 0
Defines (Ok v) d step ts = All (HasStatement ts) v.items × (map (sequent_at ts) v.items ≡ theorems names d)
    × (step ≡ Ok d)
Defines (Err fault.BadStep) d step ts = step ≡ Err BadStep
Defines (Err (fault.Memory memory)) d step ts = Unit {0}
