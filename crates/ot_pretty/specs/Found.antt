-- A search for the symbols of terms.
use Rattle.std.specs.Prelude.{ℕ, ◌<◌, List, [], ◌∷◌, ◌++◌, map, length, ◌⊎◌}
use Rattle.std.specs.List.{All, flat_map}
use Rattle.ot_logic.specs.Hol.{symbols_ty, symbols_tm}
use Rattle.ot_logic.specs.Lists.{IsMember, IsSameSet, AreDistinct}
use Rattle.ot_logic.specs.Names.{Name}
use Rattle.ot_logic.specs.Naming.{names}
use Rattle.ot_logic.specs.Trees.{Symbol}
use Rattle.ot_term.specs.declared.term.Symbol as code
use Rattle.ot_term.specs.declared.term.SymbolKind.{SymbolKind}
use Rattle.ot_kernel.specs.State.{State, name_at, type_at, term_at}
use Rattle.ot_pretty.specs.declared.search.Search.{Search}
use Rattle.ot_pretty.specs.Run.{named_symbol, symbol_named}

-- the symbols of types and of terms, by number
abbrev pub type_symbols : State → List ℕ → List (Symbol Name)
type_symbols s = flat_map (λ i. symbols_ty names (type_at s i))

abbrev pub term_symbols : State → List ℕ → List (Symbol Name)
term_symbols s = flat_map (λ i. symbols_tm names (term_at s i))

-- the symbols so far, and those of the types and the terms that are still to be looked at
abbrev pub symbols_with : State → Search → List (Symbol Name)
symbols_with s p = map (named_symbol s) p.symbols.keys ++ (type_symbols s p.types.keys ++ term_symbols s p.terms.keys)

-- all numbers are of the kernel, and no symbol stands twice
pub record IsSearch (s : State) (p : Search) : Type 0 where
  pub terms : (i : ℕ) → IsMember i p.terms.keys → i < length s.terms
  pub types : (i : ℕ) → IsMember i p.types.keys → i < length s.types
  pub inside : (x : code.Symbol) → IsMember x p.symbols.keys → x.name < length s.names
  pub once : AreDistinct p.symbols.keys

-- with these symbols more, by terms below n and types below m
pub record FindsSymbols (s : State) (n m : ℕ) (old new : Search) (more : List (Symbol Name)) : Type 0 where
  pub terms : (i : ℕ) → IsMember i new.terms.keys → IsMember i old.terms.keys ⊎ (i < n)
  pub types : (i : ℕ) → IsMember i new.types.keys → IsMember i old.types.keys ⊎ (i < m)
  pub inside : (x : code.Symbol) → IsMember x new.symbols.keys → IsMember x old.symbols.keys
      ⊎ (x.name < length s.names)
  pub once : AreDistinct old.symbols.keys → AreDistinct new.symbols.keys
  pub symbols : IsSameSet (symbols_with s new) (symbols_with s old ++ more)

-- a symbol, a type or a term more, of any kernel
abbrev pub AddsSymbol : Search → Search → SymbolKind → ℕ → Type 0
AddsSymbol old new k i = (s : State) (n m : ℕ) → i < length s.names
    → FindsSymbols s n m old new (symbol_named k (name_at s i) ∷ [])

abbrev pub AddsType : Search → Search → ℕ → Type 0
AddsType old new i = (s : State) (n m : ℕ) → i < m → FindsSymbols s n m old new (symbols_ty names (type_at s i))

abbrev pub AddsTerm : Search → Search → ℕ → Type 0
AddsTerm old new i = (s : State) (n m : ℕ) → i < n → FindsSymbols s n m old new (symbols_tm names (term_at s i))

-- types or terms more
abbrev pub AddsTypes : Search → Search → List ℕ → Type 0
AddsTypes old new ids = (s : State) (n m : ℕ) → All (λ i. i < m) ids → FindsSymbols s n m old new (type_symbols s ids)

abbrev pub AddsTerms : Search → Search → List ℕ → Type 0
AddsTerms old new ids = (s : State) (n m : ℕ) → All (λ i. i < n) ids → FindsSymbols s n m old new (term_symbols s ids)

-- a search for the same symbols
pub record Reaches (s : State) (old new : Search) : Type 0 where
  pub search : IsSearch s new
  pub symbols : IsSameSet (symbols_with s new) (symbols_with s old)
