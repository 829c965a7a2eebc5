-- What a line that holds a command says.
use Rattle.std.specs.Prelude.{◌≡◌, ℕ, ℤ, min, pos, neg_ℤ, List, [], ◌∷◌, Bool, true, false, codes, Result, Ok, Err}
use Rattle.std.specs.Prelude.{Option, Some, None, is_some, nat_lt, int_le, ◌==◌, ◌&&◌, ◌||◌, ◌^◌, ◌-◌, if◌then◌else◌}
use Rattle.std.specs.Option.{option_map}
use Rattle.std.specs.Char.{is_ascii_digit}
use Rattle.std.specs.Str.{bytes_eq}
use Rattle.std.specs.List.{list_all}
use Rattle.std.specs.Str.Parse.{digits_value}
use Rattle.ot_logic.specs.declared.command.Cmd.{Cmd}
use Rattle.ot_logic.specs.Commands.{command_of}
use Rattle.ot_logic.specs.Faults.{Fault, UnknownCommand, BadName, BadNumber, NumberRange}
use Rattle.ot_logic.specs.Names.{Name}
use Rattle.ot_logic.specs.Reading.{name_read}
use Rattle.ot_scan.specs.declared.words.Word.{Word}
use Rattle.ot_scan.specs.declared.words.Word.TheVariants as code
use Rattle.ot_scan.specs.declared.words.WordFault.{WordFault}
use Rattle.ot_scan.specs.declared.words.WordFault.TheVariants as fault

-- a number, a quoted text that spells a name, or a command
pub data WordValue : Type 0 where
  Numeral : ℤ → WordValue
  Quoted : List ℕ → WordValue
  Order : Cmd → WordValue

-- the value of digits that don't begin with 0
abbrev pub positive : List ℕ → Option ℕ
positive [] = None
positive (d ∷ ds) = if nat_lt 48 d && list_all is_ascii_digit (d ∷ ds) then Some (digits_value 10 (d ∷ ds)) else None

-- the number that a text writes: 0, or digits that don't begin with 0, perhaps behind a minus
abbrev pub number : List ℕ → Option ℤ
number [] = None
number (b ∷ bs) =
    if b == 45 then option_map (λ n. neg_ℤ (pos n)) (positive bs)
    else (if bytes_eq (b ∷ bs) (codes "0") then Some (pos 0) else option_map pos (positive (b ∷ bs)))

-- a number of 64 bits
abbrev pub is_in_range : ℤ → Bool
is_in_range z = int_le (neg_ℤ (pos (2 ^ 63))) z && int_le z (pos (2 ^ 63 - 1))

-- the word of a text that begins as a number: its spelling is judged before its range
abbrev pub number_word : Option ℤ → Result WordValue (Fault Name)
number_word None = Err BadNumber
number_word (Some z) = if is_in_range z then Ok (Numeral z) else Err NumberRange

-- the word of a command, where it is one
abbrev pub command_word : Option Cmd → Result WordValue (Fault Name)
command_word None = Err UnknownCommand
command_word (Some c) = Ok (Order c)

-- the word of a text that begins as a name, with its quotes
abbrev pub name_word : List ℕ → Result WordValue (Fault Name)
name_word text = if is_some (name_read text) then Ok (Quoted text) else Err BadName

-- the word of a text that isn't empty: its first byte says of which kind it is
abbrev pub word : List ℕ → Result WordValue (Fault Name)
word [] = Err UnknownCommand
word (b ∷ bs) =
    if b == 34 then name_word (b ∷ bs)
    else (if (b == 45) || is_ascii_digit b then number_word (number (b ∷ bs))
    else command_word (command_of (b ∷ bs)))

-- ---- the answers of the code

-- a word without where it lies in memory
abbrev pub word_value : Word → WordValue
word_value (code.Number k) = Numeral k
word_value (code.Name text) = Quoted text.now
word_value (code.Command c) = Order c

-- the fault of the stated machine
abbrev pub word_fault : WordFault → Fault Name
word_fault fault.UnknownCommand = UnknownCommand
word_fault fault.BadName = BadName
word_fault fault.BadNumber = BadNumber
word_fault fault.NumberRange = NumberRange

-- what the code answers
abbrev pub word_answer : Result Word WordFault → Result WordValue (Fault Name)
word_answer (Ok w) = Ok (word_value w)
word_answer (Err e) = Err (word_fault e)

-- a u64 that stands for a number, the last one for each that is greater
abbrev pub IsCapped : ℕ → ℕ → Type 0
IsCapped n value = value ≡ min n (2 ^ 64 - 1)

-- the value of these bytes, where they are digits
abbrev pub ReadsDigits : Option ℕ → List ℕ → Type 0
ReadsDigits None bytes = list_all is_ascii_digit bytes ≡ false
ReadsDigits (Some value) bytes = (list_all is_ascii_digit bytes ≡ true) × IsCapped (digits_value 10 bytes) value
