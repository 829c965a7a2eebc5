-- The list of lists of a definition, along the cons tree of its origin.
use Rattle.std.specs.Prelude.{◌≡◌, ℕ, List, [], ◌∷◌}
use Rattle.ot_logic.specs.Names.{Name}
use Rattle.ot_logic.specs.Naming.{names}
use Rattle.ot_interp.specs.Interpretation.{renamed}
use Rattle.ot_logic.specs.declared.command.Cmd.TheVariants as words
use Rattle.ot_trace.specs.Origins.{Origin, Origins, Named, Make, MoreOrigins, make_two}
use Rattle.ot_trace.specs.declared.step.Step.{Step}
use Rattle.ot_trace.specs.declared.step.Step.TheVariants as steps
use Rattle.ot_machine.specs.declared.session.Session.{Session}
use Rattle.ot_machine.specs.declared.context.Context as code
use Rattle.ot_machine.specs.Contexts.{context_of}

-- the name of a constant as a context reads it
abbrev pub read_by : Session → code.Context → Name → Name
read_by s c = renamed names (context_of s c).interpretation.constants

-- the numbers of what `cons` made; none of anything else
abbrev pub cons_numbers : Step → List ℕ
cons_numbers (steps.Make words.Cons ops) = ops
cons_numbers _ = []

-- a list that begins with the name of this number
pub record BeginsWith (o : Origin ℕ) (n : ℕ) : Type 0 where
  pub rest : Origins ℕ
  pub is : o ≡ Make words.Cons (MoreOrigins (Named n) rest)

-- elements before the origin of a list
abbrev pub list_onto : {N : Type 0} → List (Origin N) → Origin N → Origin N
list_onto [] o = o
list_onto (p ∷ ps) o = make_two words.Cons p (list_onto ps o)
