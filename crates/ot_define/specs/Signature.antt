-- What contracts see of a signature: the symbols that were defined, and those that were used.
use Rattle.std.specs.Prelude.{ℕ, List, [], ◌∷◌, ◌++◌, if◌then◌else◌, refl}
use Rattle.std.specs.Coded.{Coded, code_by, coded×, coded_list}
use Rattle.ot_logic.specs.Trees.{Symbol}
use Rattle.ot_logic.specs.Naming.{numbers}
use Rattle.ot_laws.specs.Conditions.{is_among}
use Rattle.ot_define.specs.Codes.{coded_symbol}

pub record Symbols : Type 0 where
  pub defined : List (Symbol ℕ)
  pub used : List (Symbol ℕ)

abbrev pub coded_symbols : Coded Symbols
coded_symbols =
    code_by (List (Symbol ℕ) × List (Symbol ℕ)) (coded× (coded_list coded_symbol) (coded_list coded_symbol))
    (λ s. (s.defined, s.used)) (λ p. record { defined = p.0; used = p.1 }) (λ _. refl)

-- the list with these at its end, each where it isn't there yet
abbrev pub with_symbols : List (Symbol ℕ) → List (Symbol ℕ) → List (Symbol ℕ)
with_symbols ss [] = ss
with_symbols ss (t ∷ ts) = with_symbols (if is_among numbers t ss then ss else ss ++ t ∷ []) ts
