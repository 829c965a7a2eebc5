-- What is remembered of the steps that were worked on.
use Rattle.std.specs.Prelude.{◌≡◌, ℕ, nat_eq, List, Some}
use Rattle.std.specs.Map.{lookup}
use Rattle.ot_log_nodes.specs.Items.{Item}
use Rattle.ot_machine.specs.declared.session.Session.{Session}
use Rattle.ot_log_values.specs.Steps.{IsTypeOf, IsTermOf}
use Rattle.ot_log_values.specs.declared.values.Values.{Values}

-- each number that is kept is that of its step
pub record AreKept (IsOf : ℕ → ℕ → Type 0) (es : List (ℕ × ℕ)) : Type 0 where
  pub each : (step id : ℕ) → lookup (nat_eq step) es ≡ Some id → IsOf step id

pub record AreKnown (s : Session) (ts : List Item) (k : Values) : Type 0 where
  pub types : AreKept (IsTypeOf s ts) k.types.entries
  pub terms : AreKept (IsTermOf s ts) k.terms.entries
