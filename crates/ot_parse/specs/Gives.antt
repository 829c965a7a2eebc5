-- How what a function answers stands to the reading of a text.
use Rattle.std.specs.Prelude.{◌≡◌, ℕ, Bool, true, false, List, [], ◌∷◌, ◌++◌, map, Result, Ok, Err}
use Rattle.ot_logic.specs.Names.{Name}
use Rattle.ot_forms.specs.Reading.{Reading, Got, Halted, NoForm, OneTooMany}
use Rattle.ot_forms.specs.Reading.{mapped, before, bare_at, bare_on, spelled_at}
use Rattle.ot_parse.specs.declared.halt.Halt.{Halt}
use Rattle.ot_parse.specs.declared.halt.Halt.TheVariants as halts
use Rattle.ot_parse.specs.declared.spelling.Piece.{Piece}
use Rattle.ot_parse.specs.declared.spelling.Piece.TheVariants as pieces
use Rattle.ot_parse.specs.declared.spelling.Parts.{Parts}

abbrev pub IsHalt : {A : Type 0} → Halt → Reading A → Type 0
IsHalt (halts.Syntax r) o = o ≡ Halted NoForm r.now
IsHalt (halts.TooManyOpen r) o = o ≡ Halted OneTooMany r.now
IsHalt (halts.Memory memory) o = Unit {0}

-- the value and the bytes behind it are those that are read, unless memory ran out
abbrev pub IsReadAs : {X A : Type 0} → (X → A) → (X → List ℕ) → Result X Halt → Reading A → Type 0
IsReadAs value rest (Ok x) o = o ≡ Got (value x) (rest x)
IsReadAs value rest (Err h) o = IsHalt h o

-- a name without quotes or behind its opening quote; behind a byte of a part or not
abbrev pub name_at : Bool → Bool → List ℕ → Reading Name
name_at true inside = spelled_at
name_at false true = bare_on
name_at false false = bare_at

-- what is read where this piece of a name comes first
abbrev pub piece_reading : Bool → List ℕ → Piece → Reading Name
piece_reading quoted s (pieces.Byte b after) = mapped (before b) (name_at quoted true after.now)
piece_reading quoted s (pieces.Dot after) = mapped (λ n. [] ∷ n) (name_at quoted false after.now)
piece_reading quoted s pieces.End = Got ([] ∷ []) s
piece_reading quoted s (pieces.Stop r) = Halted NoForm r.now

-- the components so far and the bytes of the last one, before what is read behind them
abbrev pub glue : List (List ℕ) → List ℕ → Name → Name
glue cs c [] = cs
glue cs c (d ∷ ds) = cs ++ (c ++ d) ∷ ds

abbrev pub glued : Parts → Name → Name
glued p = glue (map (λ c. c.items) p.done.items) p.last.items
