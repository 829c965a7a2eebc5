-- How a theory file is read: what was read so far, and the sets of names beside it.
use Rattle.std.specs.Prelude.{◌≡◌, ℕ, List, ◌++◌, Bool, Option, Result, Ok, Err, IfSome}
use Rattle.std.specs.HashSet.{keys}
use Rattle.std.specs.List.{list_any}
use Rattle.std.specs.Option.{option_map, option_to_list}
use Rattle.std.specs.Str.{bytes_eq}
use Rattle.ot_logic.specs.Names.{same_name}
use Rattle.ot_theory.specs.Theory.{TagText, BlockText, State, has_block, has_renaming}
use Rattle.ot_theory.specs.Interpretations.{Symbol}
use Rattle.ot_theory.specs.Answers.{block_of, blocks_of, tags_of}
use Rattle.ot_theory.specs.declared.interpretation.SymbolWord.{SymbolWord}
use Rattle.ot_theory.specs.declared.interpretation.SymbolWord.TheVariants.{Con, TyOp}
use Rattle.ot_theory.specs.declared.symbols.Symbols.{Symbols}
use Rattle.ot_theory.specs.declared.reading.Reading.{Reading}
use Rattle.ot_theory.specs.declared.reading.OpenBlock.{OpenBlock}
use Rattle.ot_theory.specs.declared.fault.TheoryFault.{TheoryFault}
use Rattle.ot_theory.specs.declared.fault.Refusal.{Refusal}
use Rattle.ot_theory.specs.declared.fault.Refusal.TheVariants.{Fault, Memory}
use Rattle.ot_theory.specs.declared.fault.TheoryError.{TheoryError}
use Rattle.ot_theory.specs.declared.fault.TheoryError.TheVariants as errors

-- ---- sets of names

-- whether the set of this kind holds the name
abbrev pub has_symbol_at : Symbols → SymbolWord → List (List ℕ) → Bool
has_symbol_at symbols Con name = list_any (same_name name) (keys symbols.constants)
has_symbol_at symbols TyOp name = list_any (same_name name) (keys symbols.type_operators)

-- whether the sets hold the symbol
abbrev pub has_symbol : Symbols → Symbol → Bool
has_symbol symbols symbol = has_symbol_at symbols symbol.0 symbol.1

-- the set holds exactly the symbols that the statements rename
abbrev pub HoldsSymbols : Symbols → List TagText → Type 0
HoldsSymbols symbols statements = (symbol : Symbol) → has_symbol symbols symbol ≡ has_renaming statements symbol

-- the set holds exactly the names of the blocks
abbrev pub HoldsNames : Reading → List BlockText → Type 0
HoldsNames reading blocks = (name : List ℕ) → list_any (λ k. bytes_eq name k.now) (keys reading.names)
    ≡ has_block blocks name

-- ---- what was read

-- the blocks that are closed
abbrev pub closed_of : Reading → List BlockText
closed_of r = blocks_of r.theory.blocks.items

-- the block that is open
abbrev pub open_of : Option OpenBlock → Option BlockText
open_of o = option_map (λ b. block_of b.block) o

-- the state of the stated reading
abbrev pub reading_state : Reading → Option OpenBlock → State
reading_state r o = record { tags = tags_of r.theory.tags.items; blocks = closed_of r; open_block = open_of o }

-- the sets hold what they are to hold
pub record IsReading (r : Reading) (o : Option OpenBlock) : Type 0 where
  pub names : HoldsNames r (closed_of r ++ option_to_list (open_of o))
  pub symbols : IfSome o (λ b. HoldsSymbols b.symbols (tags_of b.block.statements.items))

-- ---- refusals

-- the answer stands for the stated one, unless memory ran out
abbrev pub AnswersAs : {A B : Type 0} → (A → B) → Result A Refusal → Result B TheoryFault → Type 0
AnswersAs value (Ok x) stated = stated ≡ Ok (value x)
AnswersAs value (Err (Fault fault)) stated = stated ≡ Err fault
AnswersAs value (Err (Memory memory)) stated = Unit {0}

-- the same for a check
abbrev pub Allows : Result (Unit {0}) Refusal → Result (Unit {0}) TheoryFault → Type 0
Allows answer stated = AnswersAs (λ u. u) answer stated

-- the error of a refusal at a line
abbrev pub error_at : ℕ → Refusal → TheoryError
error_at line (Fault fault) = errors.At line fault
error_at line (Memory memory) = errors.Memory memory
