-- Codes of symbols, which a model's value needs.
use Rattle.std.specs.Prelude.{◌≡◌, ℕ, ◌⊎◌, refl}
use Rattle.std.specs.Coded.{Coded, code_by, coded⊎, coded_ℕ}
use Rattle.std.proofs.Common.{inl, inr}
use Rattle.ot_logic.specs.Trees.{Symbol, ConSymbol, OpSymbol}

abbrev kind_of : Symbol ℕ → ℕ ⊎ ℕ
kind_of (ConSymbol n) = inl n
kind_of (OpSymbol n) = inr n

abbrev symbol_of : ℕ ⊎ ℕ → Symbol ℕ
symbol_of (inl n) = ConSymbol n
symbol_of (inr n) = OpSymbol n

pub symbol_of-kind_of : (s : Symbol ℕ) → symbol_of (kind_of s) ≡ s
symbol_of-kind_of (ConSymbol n) = refl
symbol_of-kind_of (OpSymbol n) = refl

abbrev pub coded_symbol : Coded (Symbol ℕ)
coded_symbol = code_by (ℕ ⊎ ℕ) (coded⊎ coded_ℕ coded_ℕ) kind_of symbol_of symbol_of-kind_of
