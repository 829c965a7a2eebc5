-- The grammar of theory files, line by line.
use Rattle.std.specs.Prelude.{ℕ, List, [], ◌∷◌, ◌++◌, Bool, false, not, length}
use Rattle.std.specs.Prelude.{codes, Option, Some, None, Result, Ok, Err}
use Rattle.std.specs.List.{list_any}
use Rattle.std.specs.Str.{bytes_eq}
use Rattle.ot_lines.specs.Pieces.{pieces}
use Rattle.ot_logic.specs.Answers.{◌>>=◌, unless, some_or}
use Rattle.ot_theory.specs.Lines.{LineText, lines_of}
use Rattle.ot_theory.specs.Forms.{LineForm, Statement, Opening, Closing, NoForm, form, is_identifier}
use Rattle.ot_theory.specs.Values.{key_of, is_source, is_path}
use Rattle.ot_theory.specs.Interpretations.{Symbol, same_symbol, symbol_of}
use Rattle.ot_theory.specs.declared.keys.Key.{Key}
use Rattle.ot_theory.specs.declared.keys.Key.TheVariants.{Import, Article, Package, Interpret, Other}
use Rattle.ot_theory.specs.declared.fault.TheoryFault.{TheoryFault}
use Rattle.ot_theory.specs.declared.fault.TheoryFault.TheVariants.{BadLine, BadBlock, DuplicateBlock, TwoSources}
use Rattle.ot_theory.specs.declared.fault.TheoryFault.TheVariants.{NoMain, BadInterpret, DuplicateInterpret}

-- ---- what a theory file holds

-- a statement, which outside a block is a tag, with the number of its line
pub record TagText : Type 0 where
  pub line : ℕ
  pub key : List ℕ
  pub value : List ℕ

-- a block, with the number of the line that opens it
pub record BlockText : Type 0 where
  pub line : ℕ
  pub name : List ℕ
  pub statements : List TagText

-- a theory file: the statements outside the blocks, and the blocks, in the order of their lines
pub record TheoryText : Type 0 where
  pub tags : List TagText
  pub blocks : List BlockText

-- whether one of the blocks has this name
abbrev pub has_block : List BlockText → List ℕ → Bool
has_block blocks name = list_any (λ b. bytes_eq b.name name) blocks

-- ---- a statement in a block

-- whether one of the statements names a source
abbrev pub has_source : List TagText → Bool
has_source statements = list_any (λ t. is_source (key_of t.key)) statements

-- whether this symbol is the other, if there is one
abbrev pub is_symbol : Symbol → Option Symbol → Bool
is_symbol symbol None = false
is_symbol symbol (Some other) = same_symbol other symbol

-- the symbol that a statement renames
abbrev pub renamed : Key → List ℕ → Option Symbol
renamed Interpret value = symbol_of value
renamed Import value = None
renamed Article value = None
renamed Package value = None
renamed Other value = None

-- whether one of the statements renames this symbol
abbrev pub has_renaming : List TagText → Symbol → Bool
has_renaming statements symbol = list_any (λ t. is_symbol symbol (renamed (key_of t.key) t.value)) statements

-- the block has no source yet
abbrev pub source_allowed : List TagText → Result (Unit {0}) TheoryFault
source_allowed earlier = unless TwoSources (not (has_source earlier))

-- the symbol isn't renamed yet
abbrev pub renaming_allowed : List TagText → Symbol → Result (Unit {0}) TheoryFault
renaming_allowed earlier symbol = unless DuplicateInterpret (not (has_renaming earlier symbol))

-- the value is right for the key, and then the statement is no second one behind the earlier ones
abbrev pub value_allowed : Key → List ℕ → List TagText → Result (Unit {0}) TheoryFault
value_allowed Import value earlier = unless BadLine (is_identifier value)
value_allowed Article value earlier = unless BadLine (is_path value) >>= λ right. source_allowed earlier
value_allowed Package value earlier = source_allowed earlier
value_allowed Interpret value earlier = some_or BadInterpret (symbol_of value) >>= renaming_allowed earlier
value_allowed Other value earlier = Ok tt

-- whether a statement may stand behind the earlier ones of its block
abbrev pub statement_allowed : TagText → List TagText → Result (Unit {0}) TheoryFault
statement_allowed t earlier = value_allowed (key_of t.key) t.value earlier

-- the block with one statement more
abbrev pub with_statement : BlockText → TagText → BlockText
with_statement b t = record b { statements = b.statements ++ t ∷ [] }

-- the same where the statement is allowed
abbrev pub statement_added : BlockText → TagText → Result BlockText TheoryFault
statement_added b t = statement_allowed t b.statements >>= λ allowed. Ok (with_statement b t)

-- ---- line by line

-- the tags and the closed blocks so far, and the block that is open
pub record State : Type 0 where
  pub tags : List TagText
  pub blocks : List BlockText
  pub open_block : Option BlockText

-- a line outside the blocks
abbrev pub line_outside : State → ℕ → LineForm → Result State TheoryFault
line_outside s line (Statement key value) =
    Ok (record s { tags = s.tags ++ record { line = line; key = key; value = value } ∷ [] })
line_outside s line (Opening name) =
    unless DuplicateBlock (not (has_block s.blocks name)) >>= λ new.
    Ok (record s { open_block = Some (record { line = line; name = name; statements = [] }) })
line_outside s line Closing = Err BadBlock
line_outside s line NoForm = Err BadLine

-- a line in the open block
abbrev pub line_inside : State → BlockText → ℕ → LineForm → Result State TheoryFault
line_inside s b line (Statement key value) =
    statement_added b (record { line = line; key = key; value = value })
    >>= λ more. Ok (record s { open_block = Some more })
line_inside s b line (Opening name) = Err BadBlock
line_inside s b line Closing = Ok (record { tags = s.tags; blocks = s.blocks ++ b ∷ []; open_block = None })
line_inside s b line NoForm = Err BadLine

-- a line, by the block that is open
abbrev pub line_at : State → Option BlockText → ℕ → LineForm → Result State TheoryFault
line_at s None line f = line_outside s line f
line_at s (Some b) line f = line_inside s b line f

-- the state behind a line, or its fault
abbrev pub line_step : State → LineText → Result State TheoryFault
line_step s line = line_at s s.open_block line.number (form line.text)

-- a fault, with the number of its line
abbrev pub at_line : {A : Type 0} → ℕ → Result A TheoryFault → Result A (ℕ × TheoryFault)
at_line line (Ok x) = Ok x
at_line line (Err fault) = Err (line, fault)

-- line after line; the first fault counts
abbrev pub read_lines : List LineText → State → Result State (ℕ × TheoryFault)
read_lines [] s = Ok s
read_lines (line ∷ lines) s = at_line line.number (line_step s line) >>= read_lines lines

-- the end of the text: no block is open, and then one is `main`
abbrev pub finish_at : ℕ → State → Option BlockText → Result TheoryText (ℕ × TheoryFault)
finish_at last s (Some b) = Err (b.line, BadBlock)
finish_at last s None =
    at_line last (unless NoMain (has_block s.blocks (codes "main"))) >>= λ has_main.
    Ok (record { tags = s.tags; blocks = s.blocks })

-- the theory that was read, behind so many lines
abbrev pub finish : ℕ → State → Result TheoryText (ℕ × TheoryFault)
finish last s = finish_at last s s.open_block

-- the state before the first line
abbrev pub no_lines : State
no_lines = record { tags = []; blocks = []; open_block = None }

-- the theory that a text writes, or its first fault with its line; where `main` is missing, that of the last line
abbrev pub theory : List ℕ → Result TheoryText (ℕ × TheoryFault)
theory text = read_lines (lines_of text) no_lines >>= finish (length (pieces text))
