-- What calls read of a source, and what may follow behind it.
use Rattle.std.specs.Prelude.{◌≡◌, ◌++◌, ℕ, List, [], Bool, true, false, Option, Some, None}
use Rattle.std.specs.Io.KnownBytes.{Consumes, IsAtEnd}

-- behind bytes that were read: any, and none where the end was seen
abbrev pub MayFollow : (ended : Bool) → List ℕ → Type 0
MayFollow ended rest = ended ≡ true → rest ≡ []

-- some bytes were read: a source that tells what is left lost them, and has none left where the end was seen, behind
-- which nothing is read; and of these bytes followed by any that may follow, and of those alone, this holds
pub record Reads (ended ended' : Bool) (left left' : Option (List ℕ)) (Holds : (all rest : List ℕ) → Type 0) : Type 0
  where
    pub read : List ℕ
    pub lost : Consumes left left' read
    pub stays : ended ≡ true → (ended' ≡ true) × (read ≡ [])
    pub end : (ended ≡ true → IsAtEnd left) → ended' ≡ true → IsAtEnd left'
    pub holds : (rest : List ℕ) → MayFollow ended' rest → Holds (read ++ rest) rest

-- a call read some bytes, perhaps to the end, and did so in this case
pub record HasRead (left left' : Option (List ℕ)) (ToEnd : Type 0) (Holds : (all rest : List ℕ) → Type 0) : Type 0
  where
    pub ended : Bool
    pub to_end : ToEnd → ended ≡ true
    pub reads : Reads false ended left left' Holds

-- of a source that told its bytes this holds; those that are left are told too
abbrev pub OfTold : (left left' : Option (List ℕ)) → (Holds : (all rest : List ℕ) → Type 0) → Type 0
OfTold None left' Holds = Unit {0}
OfTold (Some all) None Holds = ⊥
OfTold (Some all) (Some rest) Holds = Holds all rest
