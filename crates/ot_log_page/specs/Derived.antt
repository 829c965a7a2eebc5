-- Sequents that were derived.
use Rattle.std.specs.Prelude.{◌≡◌, nat_eq, cond, List, Result, Ok, Err}
use Rattle.ot_logic.specs.Names.{Name}
use Rattle.ot_logic.specs.Naming.{names}
use Rattle.ot_logic.specs.Trees.{Tm, Sequent}
use Rattle.ot_logic.specs.Hol.{equation}
use Rattle.ot_log_nodes.specs.Items.{Item, type_at, term_at}
use Rattle.ot_log_rules.specs.declared.shapes.Sides.{Sides}
use Rattle.ot_log_rules.specs.Statements.{sequent_at, HasStatement}
use Rattle.ot_log_rules.specs.declared.statement.Statement.{Statement}
use Rattle.ot_log_rules.specs.declared.statement.StepFault.{StepFault}
use Rattle.ot_log_rules.specs.declared.statement.StepFault.TheVariants as fault

-- the statement is of the table, and that of this sequent
abbrev pub IsStatementOf : List Item → Sequent Name → Statement → Type 0
IsStatementOf ts r q = HasStatement ts q × (sequent_at ts q ≡ r)

-- the answer is the statement of this sequent, and no refusal; running out of memory may be answered at any point
abbrev pub Derives : Result Statement StepFault → List Item → Sequent Name → Type 0
Derives (Ok q) ts r = IsStatementOf ts r q
Derives (Err fault.BadStep) ts r = ⊥
Derives (Err (fault.Memory memory)) ts r = Unit {0}

-- the equation of the sides that two equations don't share: the right side of the one and the left side of the other
-- are one term, or else the other way round
abbrev pub outer_equation : List Item → Sides → Sides → Tm Name
outer_equation ts e f =
    cond (nat_eq e.right f.left) (equation names (type_at ts e.ty) (term_at ts e.left) (term_at ts f.right))
    (equation names (type_at ts e.ty) (term_at ts f.left) (term_at ts e.right))
