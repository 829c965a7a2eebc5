-- How lines are put together. Only contracts of private functions speak of it.
use Rattle.std.specs.Prelude.{ℕ, List, [], ◌∷◌, codes}
use Rattle.std.specs.List.{concat}
use Rattle.std.specs.Fmt.{decimal}
use Rattle.ot_term.specs.declared.term.SymbolKind.{SymbolKind}
use Rattle.ot_term.specs.declared.term.SymbolKind.TheVariants.{Con, TyOp}

-- the word for constants or for type operators
abbrev pub kind_word : SymbolKind → List ℕ
kind_word Con = codes "const "
kind_word TyOp = codes "type "

-- what stands before the text of a fault at a line
abbrev pub line_start : List ℕ → ℕ → List ℕ
line_start path number = concat (codes "opentheory: " ∷ path ∷ codes ":" ∷ decimal number ∷ codes ": " ∷ [])
