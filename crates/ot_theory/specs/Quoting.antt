-- How the parts of an `interpret:` value are answered, and its quoted names measured.
use Rattle.std.specs.Prelude.{◌≡◌, ◌≤◌, ◌+◌, ℕ, List, Option, Some, None, length}
use Rattle.std.specs.Borrow.{Bor}
use Rattle.ot_theory.specs.Interpretations.{longer, quote_len}
use Rattle.ot_theory.specs.declared.interpretation.SymbolWord.{SymbolWord}
use Rattle.ot_theory.specs.declared.quoted.Front.{Front}
use Rattle.ot_theory.specs.declared.quoted.Front.TheVariants.{End, Quote, Escaped, Byte}

-- answers, without where they lie in the text
abbrev pub front_value : Option (Bor (List ℕ)) → Option (List ℕ)
front_value None = None
front_value (Some x) = Some x.now

abbrev pub pair_value : Option (Bor (List ℕ) × Bor (List ℕ)) → Option (List ℕ × List ℕ)
pair_value None = None
pair_value (Some p) = Some (p.0.now, p.1.now)

abbrev pub kind_value : Option (SymbolWord × Bor (List ℕ)) → Option (SymbolWord × List ℕ)
kind_value None = None
kind_value (Some p) = Some (p.0, p.1.now)

-- what the front of a text says of the whole
abbrev pub front_len : Front → Option ℕ
front_len End = None
front_len Quote = Some 1
front_len (Escaped after) = longer 2 (quote_len after.now)
front_len (Byte after) = longer 1 (quote_len after.now)

-- each part that goes on leaves less
abbrev pub IsShorter : Front → ℕ → Type 0
IsShorter End n = Unit {0}
IsShorter Quote n = 1 ≤ n
IsShorter (Escaped after) n = length after.now + 2 ≡ n
IsShorter (Byte after) n = length after.now + 1 ≡ n
