-- A name read from left to right.
use Rattle.std.specs.Prelude.{◌<◌, length, ℕ, List, [], ◌∷◌, ◌++◌, ◌==◌, if◌then◌else◌}
use Rattle.std.specs.Prelude.{◌≡◌, Result, Ok, Err, Option, Some, None}
use Rattle.ot_logic.specs.declared.name.NameFault.{NameFault}
use Rattle.ot_logic.specs.declared.name.NameFault.TheVariants as faults
use Rattle.ot_logic.specs.declared.name.Part.{Part}
use Rattle.ot_logic.specs.declared.name.Part.TheVariants.{End, Trailing, Unterminated, Byte, Dot}

-- the name of a text that ends with its closing quote, or none: the quote is missing, or bytes follow it
pub data Reading : Type 0 where
  Done : List (List ℕ) → Reading
  Unended : Reading
  Trails : Reading

-- a byte before the first component
abbrev pub push : ℕ → Reading → Reading
push b (Done []) = Done []
push b (Done (x ∷ xs)) = Done ((b ∷ x) ∷ xs)
push b Unended = Unended
push b Trails = Trails

-- an empty component before the others
abbrev pub dot : Reading → Reading
dot (Done []) = Done []
dot (Done (x ∷ xs)) = Done ([] ∷ x ∷ xs)
dot Unended = Unended
dot Trails = Trails

-- the bytes after the first quote
abbrev pub read_from : List ℕ → Reading
read_from [] = Unended
read_from (b ∷ []) = if b == 34 then Done ([] ∷ []) else Unended
read_from (b ∷ c ∷ bs) =
    if b == 34 then Trails else
    (if b == 92 then push c (read_from bs) else
    (if b == 46 then dot (read_from (c ∷ bs)) else push b (read_from (c ∷ bs))))

-- what the next part of the text says about the whole
abbrev pub read_part : Part → Reading
read_part End = Done ([] ∷ [])
read_part Trailing = Trails
read_part Unterminated = Unended
read_part (Byte b after) = push b (read_from after.now)
read_part (Dot after) = dot (read_from after.now)

-- whole components and the front of one before what is read
abbrev pub behind : List (List ℕ) → List ℕ → Reading → Reading
behind done now (Done []) = Done []
behind done now (Done (x ∷ xs)) = Done (done ++ (now ++ x) ∷ xs)
behind done now Unended = Unended
behind done now Trails = Trails

-- each part that goes on leaves less
abbrev pub IsShorter : Part → ℕ → Type 0
IsShorter End n = Unit {0}
IsShorter Trailing n = Unit {0}
IsShorter Unterminated n = Unit {0}
IsShorter (Byte b after) n = length after.now < n
IsShorter (Dot after) n = length after.now < n

-- what a function answered is what was read, unless memory ran out
abbrev pub Gives : Result (List (List ℕ)) NameFault → Reading → Type 0
Gives (Ok name) reading = reading ≡ Done name
Gives (Err faults.Unterminated) reading = reading ≡ Unended
Gives (Err faults.Trailing) reading = reading ≡ Trails
Gives (Err (faults.Memory memory)) reading = Unit {0}

-- the name that was read, if one was
abbrev pub done_name : Reading → Option (List (List ℕ))
done_name (Done name) = Some name
done_name Unended = None
done_name Trails = None

-- the name that a quoted text spells, if it spells one
abbrev pub name_read : List ℕ → Option (List (List ℕ))
name_read [] = None
name_read (b ∷ bs) = if b == 34 then done_name (read_from bs) else None
