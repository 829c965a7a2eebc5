-- Sequents by the numbers of their terms.
use Rattle.std.specs.Prelude.{◌≡◌, ℕ, nat_eq, List, [], ◌∷◌, map, if◌then◌else◌, Result, Ok, Err}
use Rattle.std.specs.List.{All, list_any}
use Rattle.ot_logic.specs.Names.{Name}
use Rattle.ot_logic.specs.Naming.{names}
use Rattle.ot_logic.specs.Trees.{Tm, Sequent}
use Rattle.ot_log_format.specs.Tokens.{BadStep}
use Rattle.ot_log_format.specs.Steps.{Step}
use Rattle.ot_log_nodes.specs.Items.{Item, HasTerm, term_at}
use Rattle.ot_log_rules.specs.declared.statement.Statement.{Statement}
use Rattle.ot_log_rules.specs.declared.statement.StepFault.{StepFault}
use Rattle.ot_log_rules.specs.declared.statement.StepFault.TheVariants as fault

-- the members of a list of numbers, each once, at its last place
abbrev pub once_of : List ℕ → List ℕ
once_of [] = []
once_of (t ∷ ts) = if list_any (λ u. nat_eq u t) ts then once_of ts else t ∷ once_of ts

-- the terms of the numbers
abbrev pub terms_at : List Item → List ℕ → List (Tm Name)
terms_at ts is = map (term_at ts) is

-- the sequent of a statement
abbrev pub sequent_at : List Item → Statement → Sequent Name
sequent_at ts q = record { hyps = terms_at ts q.hyps.items; concl = term_at ts q.concl }

-- its numbers are those of terms
pub record HasStatement (ts : List Item) (q : Statement) : Type 0 where
  pub hyps : All (HasTerm ts) q.hyps.items
  pub concl : HasTerm ts q.concl

-- the answer is that of the case; running out of memory may be answered at any point
abbrev pub Gives : Result Statement StepFault → Step names → List Item → Type 0
Gives (Ok q) step ts = HasStatement ts q × (step ≡ Ok (sequent_at ts q))
Gives (Err fault.BadStep) step ts = step ≡ Err BadStep
Gives (Err (fault.Memory memory)) step ts = Unit {0}
