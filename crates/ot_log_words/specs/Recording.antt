-- What the records of a word are, and its sequent.
use Rattle.std.specs.Prelude.{◌≡◌, ℕ, List, map, Result, Ok, Err}
use Rattle.std.specs.List.{All}
use Rattle.ot_logic.specs.Names.{Name}
use Rattle.ot_logic.specs.Trees.{Ty, Tm, Sequent, Definition}
use Rattle.ot_logic.specs.Naming.{names}
use Rattle.ot_logic.specs.Hol.{theorems}
use Rattle.ot_logic.specs.declared.command.Cmd.{Cmd}
use Rattle.ot_log_nodes.specs.Items.{Item, type_at, term_at}
use Rattle.ot_log_rules.specs.declared.shapes.Sides.{Sides}
use Rattle.ot_log_rules.specs.Statements.{sequent_at, HasStatement}
use Rattle.ot_log_rules.specs.declared.statement.Statement.{Statement}
use Rattle.ot_log_rules.specs.declared.statement.StepFault.{StepFault}
use Rattle.ot_log_rules.specs.declared.statement.StepFault.TheVariants as fault
use Rattle.ot_log_records.specs.Logged.{Log}
use Rattle.ot_machine.specs.Objects.{Object, theorem}
use Rattle.ot_machine.specs.Makers.{Read, maker}
use Rattle.ot_machine.specs.Values.{applied, defines}
use Rattle.ot_log_law.specs.Derived.{theorem_entries, definition_entries}
use Rattle.ot_log_law.specs.Writing.{write_entries}
use Rattle.ot_log_page.specs.Sheets.{Adds, Shows}
use Rattle.ot_log_page.specs.declared.sheet.Sheet.{Sheet}
use Rattle.ot_log_words.specs.declared.words.Made.{Made}

-- the type and the two sides of an equation
abbrev pub sides_at : List Item → Sides → Ty Name × Tm Name × Tm Name
sides_at ts s = (type_at ts s.ty, term_at ts s.left, term_at ts s.right)

-- there is something
abbrev pub HasResult : {A E : Type 0} → Result A E → Type 0
HasResult {A} r = (x : A) × (r ≡ Ok x)

-- the answer is not that a step does not follow; running out of memory may be answered at any point
abbrev pub IsNotRefused : {A : Type 0} → Result A StepFault → Type 0
IsNotRefused (Ok x) = Unit {0}
IsNotRefused (Err fault.BadStep) = ⊥
IsNotRefused (Err (fault.Memory memory)) = Unit {0}

-- no step is refused where the word makes something of these values
abbrev pub Accepts : {A : Type 0} → Result A StepFault → Cmd → List Object → Type 0
Accepts r w vs = HasResult (applied (maker w) vs) → IsNotRefused r

-- no step is refused where the word defines something of these values, after whatever definitions
abbrev pub AcceptsDefinition : {A : Type 0} → Result A StepFault → Cmd → List Object → Type 0
AcceptsDefinition r w vs = (ds : List (Definition Name)) → HasResult (defines w ds vs) → IsNotRefused r

-- the object that there is, if any, is the theorem of this sequent
abbrev pub IsTheoremOf : Read → Sequent Name → Type 0
IsTheoremOf r q = (o : Object) → r ≡ Ok o → o ≡ theorem q

-- the records of a word were added, for operands with these values, and numbers of theorems among these; the last
-- one's sequent is what the word makes of the values. The table of nodes may have grown
pub record Records
    (ts us : List Item) (old new : Sheet) (w : Cmd) (vs : List Object) (is : List ℕ) (m : Made) : Type 0 where
  pub adds : Adds ts us old new (λ x. theorem_entries x.sequents w vs is) m.number
  pub has : HasStatement us m.statement
  pub value : IsTheoremOf (applied (maker w) vs) (sequent_at us m.statement)

-- the record of a definition was added, for operands with these values, and numbers of theorems among these; the
-- sequents are the theorems of what the word defines, after whatever definitions it is accepted
pub record Defined
    (ts us : List Item) (old new : Sheet) (w : Cmd) (vs : List Object) (is : List ℕ) (qs : List Statement) : Type
    0 where
  pub adds : (max : ℕ) (x : Log) → Shows ts max old x
      → Shows us max new (write_entries (definition_entries w vs is) x)
  pub has : All (HasStatement us) qs
  pub theorems_are : (ds : List (Definition Name)) (d : Definition Name) → defines w ds vs ≡ Ok d
      → map (sequent_at us) qs ≡ theorems names d
