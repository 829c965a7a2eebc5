-- How the interpretation of a block grows, one statement at a time.
use Rattle.std.specs.Prelude.{◌≡◌, List, [], ◌∷◌, ◌++◌, Bool, false, Option, Some, None}
use Rattle.std.specs.List.{AllByRecursion, filter_map}
use Rattle.ot_logic.specs.Names.{Name}
use Rattle.ot_logic.specs.Lists.{IsMember, AreDistinct}
use Rattle.ot_logic.specs.Naming.{names}
use Rattle.ot_logic.specs.Trees.{Alphabet}
use Rattle.ot_interp.specs.Interpretation.{Interpretation, is_held}
use Rattle.ot_theory.specs.Theory.{TagText, renamed}
use Rattle.ot_theory.specs.Values.{key_of}
use Rattle.ot_theory.specs.Sound.{IsRightValue}
use Rattle.ot_theory.specs.declared.interpretation.SymbolWord.{SymbolWord}
use Rattle.ot_theory.specs.declared.interpretation.SymbolWord.TheVariants.{Con, TyOp}
use Rattle.ot_link.specs.Renaming.{Renaming}

-- no value goes past its line, the values are right for their keys, and no two statements rename one symbol
pub record AreRight (statements : List TagText) : Type 0 where
  pub lines : AllByRecursion (λ t. ¬ (IsMember 10 t.value)) statements
  pub values : AllByRecursion (λ t. IsRightValue (key_of t.key) t.value) statements
  pub renamings : AreDistinct (filter_map (λ t. renamed (key_of t.key) t.value) statements)

-- whether a symbol is renamed
abbrev pub is_held_by : {N : Type 0} → Alphabet N → SymbolWord → Interpretation N → N → Bool
is_held_by alphabet Con i n = is_held alphabet i.constants n
is_held_by alphabet TyOp i n = is_held alphabet i.type_ops n

-- one pair more
abbrev pub with_pair : {N : Type 0} → SymbolWord → N → N → Interpretation N → Interpretation N
with_pair Con from to i = record { constants = i.constants ++ (from, to) ∷ []; type_ops = i.type_ops }
with_pair TyOp from to i = record { constants = i.constants; type_ops = i.type_ops ++ (from, to) ∷ [] }

-- what a statement renames, added
abbrev pub added : Option Renaming → Interpretation Name → Interpretation Name
added None i = i
added (Some r) i = with_pair r.kind r.from r.to i

-- what a statement renames isn't renamed yet
abbrev pub IsNew : Option Renaming → Interpretation Name → Type 0
IsNew None i = Unit {0}
IsNew (Some r) i = is_held_by names r.kind i r.from ≡ false
