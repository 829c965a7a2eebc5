-- The bytes of tokens, one on a line.
use Rattle.std.specs.Prelude.{ℕ, List, [], ◌∷◌, ◌++◌}
use Rattle.std.specs.List.{flat_map}
use Rattle.ot_logic.specs.Names.{Name, spelled}
use Rattle.ot_text.specs.Texts.{number_text}
use Rattle.ot_log_format.specs.Tokens.{Token, Number, Named, Word}

abbrev pub token_text : Token Name → List ℕ
token_text (Number k) = number_text k
token_text (Named n) = spelled n
token_text (Word text) = text

abbrev pub token_bytes : Token Name → List ℕ
token_bytes t = token_text t ++ 10 ∷ []

abbrev pub bytes_of : List (Token Name) → List ℕ
bytes_of = flat_map token_bytes
