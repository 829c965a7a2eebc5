-- The forms of a line.
use Rattle.std.specs.Prelude.{ℕ, List, [], ◌∷◌, Bool, false, ◌==◌, ◌||◌}
use Rattle.std.specs.Prelude.{if◌then◌else◌, length, take, drop, take_while, codes}
use Rattle.std.specs.Char.{is_ascii_alphanumeric}
use Rattle.std.specs.List.{list_all}
use Rattle.std.specs.Str.{bytes_eq}
use Rattle.ot_lines.specs.Pieces.{trim_front}
use Rattle.ot_theory.specs.declared.forms.Form.{Form}
use Rattle.ot_theory.specs.declared.forms.Form.TheVariants as code

-- a key and a value, the name of a block that begins, the end of a block, or none of these
pub data LineForm : Type 0 where
  Statement : List ℕ → List ℕ → LineForm
  Opening : List ℕ → LineForm
  Closing : LineForm
  NoForm : LineForm

-- an ASCII letter, a digit, `-` or `_`
abbrev pub is_identifier_byte : ℕ → Bool
is_identifier_byte b = (is_ascii_alphanumeric b || (b == 45)) || (b == 95)

-- one such byte or more
abbrev pub is_identifier : List ℕ → Bool
is_identifier [] = false
is_identifier (b ∷ bs) = list_all is_identifier_byte (b ∷ bs)

-- how many such bytes a text begins with
abbrev pub identifier_len : List ℕ → ℕ
identifier_len text = length (take_while is_identifier_byte text)

-- the form of a line, from the identifier that it begins with and what follows behind blanks
abbrev pub form_after : List ℕ → List ℕ → LineForm
form_after [] rest = if bytes_eq rest (codes "}") then Closing else NoForm
form_after (w ∷ ws) [] = NoForm
form_after (w ∷ ws) (b ∷ bs) =
    if b == 58 then Statement (w ∷ ws) (trim_front bs)
    else (if bytes_eq (b ∷ bs) (codes "{") then Opening (w ∷ ws) else NoForm)

-- the form of a trimmed line
abbrev pub form : List ℕ → LineForm
form text = form_after (take (identifier_len text) text) (trim_front (drop (identifier_len text) text))

-- what the code's forms stand for
abbrev pub form_value : Form → LineForm
form_value (code.Statement key value) = Statement key.now value.now
form_value (code.Opening name) = Opening name.now
form_value code.Closing = Closing
form_value code.Other = NoForm
