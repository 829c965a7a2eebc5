-- The symbols of a run, and what the terms of a kernel add to them.
use Rattle.std.specs.Prelude.{ℕ, ◌<◌, List, ◌++◌, length}
use Rattle.std.specs.List.{All, flat_map}
use Rattle.ot_logic.specs.Lists.{IsSameSet}
use Rattle.ot_logic.specs.Names.{Name}
use Rattle.ot_logic.specs.Naming.{names}
use Rattle.ot_logic.specs.Trees.{Sequent, Definition, Symbol, ConSymbol, OpSymbol}
use Rattle.ot_logic.specs.Hol.{symbols_in, symbols_all, used}
use Rattle.ot_term.specs.declared.term.Symbol as code
use Rattle.ot_term.specs.declared.term.SymbolKind.{SymbolKind}
use Rattle.ot_term.specs.declared.term.SymbolKind.TheVariants as kinds
use Rattle.ot_kernel.specs.State.{State, name_at, terms_at}

-- those that occur in the assumptions, in the exports, or in a premise or a theorem of the definitions
abbrev pub symbols_of_run : (assumptions exports : List (Sequent Name)) → List (Definition Name) → List (Symbol Name)
symbols_of_run assumptions exports definitions = symbols_in names assumptions ++ symbols_in names exports
    ++ flat_map (used names) definitions

-- the symbol of a kind and a name
abbrev pub symbol_named : SymbolKind → Name → Symbol Name
symbol_named kinds.Con n = ConSymbol n
symbol_named kinds.TyOp n = OpSymbol n

-- the symbol that a symbol by number stands for
abbrev pub named_symbol : State → code.Symbol → Symbol Name
named_symbol s x = symbol_named x.kind (name_at s x.name)

-- more terms of the kernel, with these symbols
pub record HasMoreTerms (s : State) (old new : List ℕ) (more : List (Symbol Name)) : Type 0 where
  pub inside : All (λ i. i < length s.terms) old → All (λ i. i < length s.terms) new
  pub symbols : IsSameSet (symbols_all names (terms_at s new)) (symbols_all names (terms_at s old) ++ more)
