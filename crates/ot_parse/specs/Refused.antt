-- The refusal of a text, with its column from 1.
use Rattle.std.specs.Prelude.{◌<◌, ◌-◌, ℕ, List}
use Rattle.ot_logic.specs.Names.{Name}
use Rattle.ot_logic.specs.Trees.{Symbol}
use Rattle.ot_forms.specs.Refusals.{IsRefused, IsTermRefused}
use Rattle.ot_parse.specs.declared.refusal.ReadRefusal.{ReadRefusal}
use Rattle.ot_parse.specs.declared.refusal.ReadRefusal.TheVariants as refusals

abbrev pub IsRefusal : List (Symbol Name) → List ℕ → ReadRefusal → Type 0
IsRefusal hidden line (refusals.At column fault) = (0 < column) × IsRefused hidden line (column - 1) fault
IsRefusal hidden line (refusals.Memory memory) = Unit {0}

abbrev pub IsTermRefusal : List (Symbol Name) → List ℕ → ReadRefusal → Type 0
IsTermRefusal hidden text (refusals.At column fault) = (0 < column) × IsTermRefused hidden text (column - 1) fault
IsTermRefusal hidden text (refusals.Memory memory) = Unit {0}
