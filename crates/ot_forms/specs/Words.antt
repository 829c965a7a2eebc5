-- The words of names: parts, bare words, operator words, hidden symbols.
use Rattle.std.specs.Prelude.{◌≡◌, ◌<◌, length, ℕ, Bool, true, false, cond, not}
use Rattle.std.specs.Prelude.{◌&&◌, ◌||◌, ◌==◌, nat_le, List, [], ◌∷◌, ◌++◌}
use Rattle.std.specs.List.{list_all, list_any, filter}
use Rattle.std.specs.Cmp.Lexicographic.{pointwise}
use Rattle.std.specs.Prelude.{nat_eq}
use Rattle.ot_logic.specs.Names.{Name, spelled, same_name}
use Rattle.ot_logic.specs.Trees.{Symbol, ConSymbol, OpSymbol}

-- a byte of A to Z or a to z
abbrev pub is_letter : ℕ → Bool
is_letter b = (nat_le 65 b && nat_le b 90) || (nat_le 97 b && nat_le b 122)

-- a letter, a digit or `_`
abbrev pub is_inner : ℕ → Bool
is_inner b = is_letter b || ((nat_le 48 b && nat_le b 57) || (b == 95))

-- a part: a letter, and then letters, digits and `_`
abbrev pub is_part : List ℕ → Bool
is_part [] = false
is_part (b ∷ bs) = is_letter b && list_all is_inner bs

-- one of / \ = < > ~ & |
abbrev pub is_sign : ℕ → Bool
is_sign b =
    (b == 47) || ((b == 92) || ((b == 61) || ((b == 60) || ((b == 62) || ((b == 126) || ((b == 38) || (b == 124)))))))

-- whether two texts are one
abbrev pub same_text : List ℕ → List ℕ → Bool
same_text = pointwise nat_eq

-- an operator word: one or more of these bytes, but not `=` alone
abbrev pub is_operator : List ℕ → Bool
is_operator [] = false
is_operator (b ∷ bs) = list_all is_sign (b ∷ bs) && not (same_text (b ∷ bs) (61 ∷ []))

-- a name each of whose components is a part
abbrev pub is_bare : Name → Bool
is_bare n = list_all is_part n

-- the components with a dot between two
abbrev pub dotted : Name → List ℕ
dotted [] = []
dotted (c ∷ []) = c
dotted (c ∷ d ∷ ds) = c ++ 46 ∷ dotted (d ∷ ds)

-- the word of a variable or a type variable: its bare word, else its spelling
abbrev pub variable_word : Name → List ℕ
variable_word n = cond (is_bare n) (dotted n) (spelled n)

-- ---- hidden symbols

abbrev pub symbol_name : Symbol Name → Name
symbol_name (ConSymbol n) = n
symbol_name (OpSymbol n) = n

abbrev pub same_kind : Symbol Name → Symbol Name → Bool
same_kind (ConSymbol n) (ConSymbol m) = true
same_kind (OpSymbol n) (OpSymbol m) = true
same_kind _ _ = false

abbrev pub same_symbol : Symbol Name → Symbol Name → Bool
same_symbol s t = same_kind s t && same_name (symbol_name s) (symbol_name t)

-- all components but the last
abbrev pub namespace : Name → Name
namespace [] = []
namespace (c ∷ []) = []
namespace (c ∷ d ∷ ds) = c ∷ namespace (d ∷ ds)

-- the last component
abbrev pub base : Name → List ℕ
base [] = []
base (c ∷ []) = c
base (c ∷ d ∷ ds) = base (d ∷ ds)

-- what a hidden symbol's base name may be: one part, or for a constant an operator word
abbrev pub is_short : Symbol Name → Bool
is_short (ConSymbol n) = is_part (base n) || is_operator (base n)
is_short (OpSymbol n) = is_part (base n)

-- the symbol's namespace is among these
abbrev pub is_shown : List Name → Symbol Name → Bool
is_shown shown s = list_any (same_name (namespace (symbol_name s))) shown

-- two symbols of one kind with one base name
abbrev pub is_alike : Symbol Name → Symbol Name → Bool
is_alike s t = same_kind s t && same_text (base (symbol_name s)) (base (symbol_name t))

-- whether a symbol among these is hidden: its namespace is shown, its base name may stand alone, and no other symbol
-- of its kind has the same base name and a shown namespace
abbrev pub is_hidden_in : List Name → List (Symbol Name) → Symbol Name → Bool
is_hidden_in shown symbols s = is_shown shown s
    && (is_short s && list_all (λ t. not (is_alike s t && is_shown shown t) || same_symbol s t) symbols)

-- the hidden symbols of a run's symbols
abbrev pub hidden_symbols : List Name → List (Symbol Name) → List (Symbol Name)
hidden_symbols shown symbols = filter (is_hidden_in shown symbols) symbols

-- ---- the words of symbols, where these are hidden

abbrev pub is_hidden : List (Symbol Name) → Symbol Name → Bool
is_hidden hidden s = list_any (same_symbol s) hidden

-- the text is the base name of a hidden symbol of this one's kind
abbrev pub is_taken : List (Symbol Name) → Symbol Name → List ℕ → Bool
is_taken hidden s text = list_any (λ t. same_kind s t && same_text text (base (symbol_name t))) hidden

-- the word of a symbol: its base name where it is hidden, else its bare word where that isn't the base name of a
-- hidden symbol of its kind, else its spelling
abbrev pub word : List (Symbol Name) → Symbol Name → List ℕ
word hidden s =
    let n = symbol_name s in
    cond (is_hidden hidden s) (base n) (cond (is_bare n && not (is_taken hidden s (dotted n))) (dotted n) (spelled n))

-- what holds of the hidden symbols of a run
pub record IsNotation (hidden : List (Symbol Name)) : Type 0 where
  -- a base name may stand alone
  pub short : (s : Symbol Name) → is_hidden hidden s ≡ true → is_short s ≡ true
  -- there is a namespace
  pub inner : (s : Symbol Name) → is_hidden hidden s ≡ true → 1 < length (symbol_name s)
  -- of one kind no two have one base name
  pub alone : (s t : Symbol Name) → is_hidden hidden s ≡ true → is_hidden hidden t ≡ true → same_kind s t ≡ true
      → base (symbol_name s) ≡ base (symbol_name t) → symbol_name s ≡ symbol_name t
