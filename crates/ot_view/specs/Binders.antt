-- The binders around a term, in the code and in the definitions.
use Rattle.std.specs.Prelude.{List, [], ◌∷◌}
use Rattle.ot_logic.specs.Names.{Name}
use Rattle.ot_logic.specs.Trees.{Variable}
use Rattle.ot_kernel.specs.State.{State, variable_at}
use Rattle.ot_view.specs.Nodes.{IsKey}
use Rattle.ot_view.specs.declared.binders.Binders.{Binders}
use Rattle.ot_view.specs.declared.binders.Binders.TheVariants.{Outermost, Inside'}

-- the variables of the binders around a term, the innermost first
abbrev pub binders_at : State → Binders → List (Variable Name)
binders_at s Outermost = []
binders_at s (Inside' v p around) = variable_at s v.now ∷ binders_at s around

-- each of them is of the state
abbrev pub AreKeys : State → Binders → Type 0
AreKeys s Outermost = Unit {0}
AreKeys s (Inside' v p around) = IsKey s v.now × AreKeys s around
