-- What a symbol of the code stands for.
use Rattle.std.specs.Prelude.{ℕ, Bool, true, false, cond, ◌&&◌, List, [], ◌∷◌, ◌++◌, ◌==◌, Option, Some, None}
use Rattle.ot_logic.specs.Lists.{IsMember}
use Rattle.ot_logic.specs.Names.{Name, IsName}
use Rattle.ot_logic.specs.Trees.{Symbol, ConSymbol, OpSymbol}
use Rattle.ot_forms.specs.Words.{same_kind, same_text, base, symbol_name, is_operator}
use Rattle.ot_parse.specs.declared.notation.WordKind.{WordKind}
use Rattle.ot_parse.specs.declared.notation.WordKind.TheVariants as kinds

abbrev pub symbol_of : WordKind × Name → Symbol Name
symbol_of (kinds.Con, n) = ConSymbol n
symbol_of (kinds.TyOp, n) = OpSymbol n

-- whether two kinds are one
abbrev pub kind_test : WordKind → WordKind → Bool
kind_test kinds.Con kinds.Con = true
kind_test kinds.TyOp kinds.TyOp = true
kind_test _ _ = false

-- a symbol more, where it passes
abbrev pub with_passing : (Symbol Name → Bool) → Symbol Name → List (Symbol Name) → List (Symbol Name)
with_passing p s ss = cond (p s) (ss ++ s ∷ []) ss

-- each has a component
abbrev pub AreNames : List Name → Type 0
AreNames ns = (n : Name) → IsMember n ns → IsName n

-- whether the second symbol is of the first one's kind and has this base name
abbrev pub has_base : Symbol Name → List ℕ → Symbol Name → Bool
has_base s x t = same_kind s t && same_text x (base (symbol_name t))

-- the operator word of a hidden symbol
abbrev pub operator_base : Symbol Name → Option (List ℕ)
operator_base (OpSymbol n) = None
operator_base (ConSymbol n) = cond (is_operator (base n)) (Some (base n)) None

-- what stands behind this byte
abbrev pub behind_byte : ℕ → List ℕ → Option (List ℕ)
behind_byte b [] = None
behind_byte b (c ∷ x) = cond (b == c) (Some x) None
