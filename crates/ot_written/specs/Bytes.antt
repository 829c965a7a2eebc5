-- The bytes of a written article.
use Rattle.std.specs.Prelude.{ℕ, List, [], ◌∷◌, ◌++◌}
use Rattle.std.specs.List.{flat_map}
use Rattle.std.specs.Fmt.{signed_decimal}
use Rattle.ot_logic.specs.Names.{Name, spelled}
use Rattle.ot_logic.specs.Commands.{spelling}
use Rattle.ot_written.specs.Written.{Line, Numeral, Spelled, Order}

-- a line, and with its newline
abbrev pub line_text : Line Name → List ℕ
line_text (Numeral k) = signed_decimal k
line_text (Spelled n) = spelled n
line_text (Order w) = spelling w

abbrev pub line_bytes : Line Name → List ℕ
line_bytes l = line_text l ++ 10 ∷ []

abbrev pub bytes_of : List (Line Name) → List ℕ
bytes_of = flat_map line_bytes

-- a line with another name
abbrev pub line_with : {M N : Type 0} → (M → N) → Line M → Line N
line_with f (Numeral k) = Numeral k
line_with f (Spelled m) = Spelled (f m)
line_with f (Order w) = Order w
