-- The value of an `interpret:` statement.
use Rattle.std.specs.Prelude.{◌≡◌, ◌≤◌, ◌<◌, ◌↔◌, ◌+◌, ℕ, List, [], ◌∷◌, ◌++◌, Bool, true, false, ◌==◌, ◌&&◌}
use Rattle.std.specs.Prelude.{nat_le, if◌then◌else◌, take, drop, Option, Some, None, is_some, length, codes}
use Rattle.std.specs.Borrow.{Bor}
use Rattle.std.specs.List.{list_all}
use Rattle.std.specs.Option.{option_map, option_and_then}
use Rattle.std.specs.Str.{bytes_eq}
use Rattle.ot_lines.specs.Pieces.{is_blank, trim_front}
use Rattle.ot_logic.specs.Names.{Name, same_name}
use Rattle.ot_logic.specs.Reading.{name_read}
use Rattle.ot_theory.specs.declared.interpretation.SymbolWord.{SymbolWord}
use Rattle.ot_theory.specs.declared.interpretation.SymbolWord.TheVariants.{Con, TyOp}

-- ---- what it is

-- one blank or more
pub record AreBlanks (text : List ℕ) : Type 0 where
  pub some : 0 < length text
  pub each : list_all is_blank text ≡ true

-- a text of at most 65,535 bytes, its quotes counted, that spells a name
pub record IsQuotedName (text : List ℕ) : Type 0 where
  pub name : Name
  pub read : name_read text ≡ Some name
  pub limited : length text ≤ 65535

-- the word of a kind
abbrev pub kind_text : SymbolWord → List ℕ
kind_text Con = codes "const"
kind_text TyOp = codes "type"

-- `const` or `type`, a quoted name, `as` and a quoted name, with blanks between
pub record IsInterpretation (value : List ℕ) (kind : SymbolWord) (from to : List ℕ) : Type 0 where
  pub first_gap : List ℕ
  pub second_gap : List ℕ
  pub third_gap : List ℕ
  pub first_blanks : AreBlanks first_gap
  pub second_blanks : AreBlanks second_gap
  pub third_blanks : AreBlanks third_gap
  pub from_named : IsQuotedName from
  pub to_named : IsQuotedName to
  pub text : value ≡ kind_text kind ++ (first_gap ++ (from ++ (second_gap ++ (codes "as" ++ (third_gap ++ to)))))

-- ---- how it is read, from left to right

infixl 10 ◌>>=◌
abbrev pub ◌>>=◌ : {A B : Type 0} → Option A → (A → Option B) → Option B
None >>= f = None
(Some x) >>= f = f x

-- what follows a word
abbrev pub after_word : List ℕ → List ℕ → Option (List ℕ)
after_word word text = if bytes_eq (take (length word) text) word then Some (drop (length word) text) else None

-- what follows one blank or more
abbrev pub after_blanks : List ℕ → Option (List ℕ)
after_blanks [] = None
after_blanks (b ∷ bs) = if is_blank b then Some (trim_front bs) else None

-- this kind where there is a rest, else the other answer
abbrev pub with_kind : SymbolWord → Option (List ℕ) → Option (SymbolWord × List ℕ) → Option (SymbolWord × List ℕ)
with_kind kind (Some rest) other = Some (kind, rest)
with_kind kind None other = other

-- the kind that a text begins with, and the rest
abbrev pub kind_front : List ℕ → Option (SymbolWord × List ℕ)
kind_front text =
    with_kind Con (after_word (codes "const") text) (with_kind TyOp (after_word (codes "type") text) None)

-- a length that is so much longer
abbrev pub longer : ℕ → Option ℕ → Option ℕ
longer n None = None
longer n (Some m) = Some (n + m)

-- how long the front is that ends at the first quote without a backslash
abbrev pub quote_len : List ℕ → Option ℕ
quote_len [] = None
quote_len (b ∷ []) = if b == 34 then Some 1 else None
quote_len (b ∷ c ∷ bs) =
    if b == 34 then Some 1 else (if b == 92 then longer 2 (quote_len bs) else longer 1 (quote_len (c ∷ bs)))

-- the front of this length and the rest, where the front is a quoted name
abbrev pub name_at : List ℕ → ℕ → Option (List ℕ × List ℕ)
name_at text len = if nat_le len 65535 && is_some (name_read (take len text)) then Some (take len text, drop len text)
    else None

-- the quoted name that a text begins with, and the rest
abbrev pub quoted_front : List ℕ → Option (List ℕ × List ℕ)
quoted_front [] = None
quoted_front (b ∷ bs) = if b == 34 then option_and_then (λ n. name_at (b ∷ bs) (n + 1)) (quote_len bs) else None

-- nothing stands behind the second name
abbrev pub whole : SymbolWord → List ℕ → List ℕ → List ℕ → Option (SymbolWord × List ℕ × List ℕ)
whole kind from to [] = Some (kind, from, to)
whole kind from to (b ∷ bs) = None

-- the kind and the two quoted names
abbrev pub split_interpret : List ℕ → Option (SymbolWord × List ℕ × List ℕ)
split_interpret value = do
  kind ← kind_front value
  first ← after_blanks kind.1
  from ← quoted_front first
  second ← after_blanks from.1
  rest ← after_word (codes "as") second
  third ← after_blanks rest
  to ← quoted_front third
  whole kind.0 from.0 to.0 to.1

-- a law: a value is read exactly where it is an interpretation, and in one way
abbrev pub OneInterpretation : Type 0
OneInterpretation =
    (value : List ℕ) (kind : SymbolWord) (from to : List ℕ)
    → (split_interpret value ≡ Some (kind, from, to)) ↔ IsInterpretation value kind from to

-- ---- the symbol that is renamed

-- a kind and a name
abbrev pub Symbol : Type 0
Symbol = SymbolWord × Name

-- whether two kinds are one
abbrev pub same_word : SymbolWord → SymbolWord → Bool
same_word Con Con = true
same_word Con TyOp = false
same_word TyOp Con = false
same_word TyOp TyOp = true

-- whether two symbols are one
abbrev pub same_symbol : Symbol → Symbol → Bool
same_symbol a b = same_word a.0 b.0 && same_name a.1 b.1

-- the symbol of a value: its kind, and the name that the first quoted text spells
abbrev pub symbol_of : List ℕ → Option Symbol
symbol_of value = split_interpret value >>= λ parts. option_map (λ name. (parts.0, name)) (name_read parts.1)

-- ---- the answers of the code

-- what an answer says, without where it lies in the text
abbrev pub parts_value : Option (SymbolWord × Bor (List ℕ) × Bor (List ℕ)) → Option (SymbolWord × List ℕ × List ℕ)
parts_value None = None
parts_value (Some p) = Some (p.0, p.1.now, p.2.now)
