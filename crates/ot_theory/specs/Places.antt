-- The keys, values and names of a theory are parts of its text, in order.
use Rattle.std.specs.Prelude.{◌≡◌, ◌≤◌, ◌+◌, ℕ, List, [], ◌∷◌, ◌++◌, ◌==◌, length, count_by, IfOk}
use Rattle.std.specs.List.{flat_map}
use Rattle.ot_theory.specs.Theory.{TagText, BlockText, theory}

-- a key, a value or the name of a block, with the number of its line
pub record Part : Type 0 where
  pub line : ℕ
  pub bytes : List ℕ

-- the key and the value of a statement
abbrev pub tag_parts : TagText → List Part
tag_parts t = record { line = t.line; bytes = t.key } ∷ record { line = t.line; bytes = t.value } ∷ []

-- the name of a block, and the parts of its statements
abbrev pub block_parts : BlockText → List Part
block_parts b = record { line = b.line; bytes = b.name } ∷ flat_map tag_parts b.statements

-- how many newlines a text has
abbrev pub newlines : List ℕ → ℕ
newlines text = count_by (λ b. b == 10) text

-- a part begins at this place of the text, in the line that has its number
pub record StandsAt (text : List ℕ) (part : Part) (place : ℕ) : Type 0 where
  pub before : List ℕ
  pub after : List ℕ
  pub cut : text ≡ before ++ (part.bytes ++ after)
  pub place_is : place ≡ length before
  pub line_is : part.line ≡ newlines before + 1

-- the parts stand in the text one behind the other, from a place on
abbrev pub StandInOrder : List ℕ → ℕ → List Part → Type 0
StandInOrder text from [] = Unit {0}
StandInOrder text from (part ∷ parts) =
    (place : ℕ) × ((from ≤ place) × (StandsAt text part place × StandInOrder text (place + length part.bytes) parts))

-- a law: so do the keys and values of a theory's tags, and the names of its blocks with the keys and values of their
-- statements
abbrev pub InPlace : Type 0
InPlace =
    (text : List ℕ) → IfOk (theory text) (λ t.
    StandInOrder text 0 (flat_map tag_parts t.tags) × StandInOrder text 0 (flat_map block_parts t.blocks))
