-- The interpretation that a block writes.
use Rattle.std.specs.Prelude.{ℕ, List, map, filter_map, Option, Some, None}
use Rattle.std.specs.List.{filter}
use Rattle.ot_logic.specs.Names.{Name}
use Rattle.ot_logic.specs.Reading.{name_read}
use Rattle.ot_interp.specs.Interpretation.{Interpretation}
use Rattle.ot_theory.specs.Theory.{TagText}
use Rattle.ot_theory.specs.Values.{key_of}
use Rattle.ot_theory.specs.Interpretations.{◌>>=◌, split_interpret, same_word}
use Rattle.ot_theory.specs.declared.interpretation.SymbolWord.{SymbolWord}
use Rattle.ot_theory.specs.declared.interpretation.SymbolWord.TheVariants.{Con, TyOp}
use Rattle.ot_theory.specs.declared.keys.Key.{Key}
use Rattle.ot_theory.specs.declared.keys.Key.TheVariants as keys

-- a kind, the name of a symbol, and the name that it becomes
pub record Renaming : Type 0 where
  pub kind : SymbolWord
  pub from : Name
  pub to : Name

-- what the value of an `interpret:` statement renames
abbrev pub renaming_of : List ℕ → Option Renaming
renaming_of value = do
  parts ← split_interpret value
  from ← name_read parts.1
  to ← name_read parts.2
  Some (record { kind = parts.0; from = from; to = to })

-- what a statement renames, by its key
abbrev pub renaming_by : Key → List ℕ → Option Renaming
renaming_by keys.Interpret value = renaming_of value
renaming_by keys.Import value = None
renaming_by keys.Article value = None
renaming_by keys.Package value = None
renaming_by keys.Other value = None

abbrev pub renaming_at : TagText → Option Renaming
renaming_at t = renaming_by (key_of t.key) t.value

-- what statements rename, in the order of their lines
abbrev pub renamings_of : List TagText → List Renaming
renamings_of statements = filter_map renaming_at statements

-- the names of one kind, and what they become
abbrev pub pairs_of : SymbolWord → List Renaming → List (Name × Name)
pairs_of kind rs = map (λ r. (r.from, r.to)) (filter (λ r. same_word kind r.kind) rs)

-- the interpretation that statements write
abbrev pub interpretation_of : List TagText → Interpretation Name
interpretation_of statements = record {
  constants = pairs_of Con (renamings_of statements);
  type_ops = pairs_of TyOp (renamings_of statements);
}
