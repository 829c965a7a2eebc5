-- Symbols by number, and those that stand at the root of a term or a type.
use Rattle.std.specs.Prelude.{ℕ, List, [], ◌∷◌}
use Rattle.ot_logic.specs.Trees.{Ty, TyVar, TyOp, Named, NConst, Symbol as SymbolTree, ConSymbol, OpSymbol}
use Rattle.ot_term.specs.declared.term.Symbol.{Symbol}
use Rattle.ot_term.specs.declared.term.SymbolKind.{SymbolKind}
use Rattle.ot_term.specs.declared.term.SymbolKind.TheVariants.{Con, TyOp as Operator}

-- the symbol of a kind and a name
abbrev pub symbol_named : SymbolKind → ℕ → SymbolTree ℕ
symbol_named Con n = ConSymbol n
symbol_named Operator n = OpSymbol n

-- what a symbol stands for
abbrev pub symbol_of : Symbol → SymbolTree ℕ
symbol_of s = symbol_named s.kind s.name

-- the symbol of a constant
abbrev pub constant_of : Named ℕ → List Symbol
constant_of (NConst n t) = record { kind = Con; name = n } ∷ []
constant_of _ = []

-- the symbol of a type's operator
abbrev pub operator_of : Ty ℕ → List Symbol
operator_of (TyVar n) = []
operator_of (TyOp n ts) = record { kind = Operator; name = n } ∷ []

-- the name of a type variable
abbrev pub variable_name : Ty ℕ → List ℕ
variable_name (TyVar n) = n ∷ []
variable_name (TyOp n ts) = []
