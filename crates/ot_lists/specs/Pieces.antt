-- A sequence in pieces, as another one has them.
use Rattle.std.specs.Prelude.{◌≡◌, ℕ, ◌+◌, ◌<◌, ◌≤◌, List, [], ◌∷◌, ◌++◌, length, take, drop, map, replicate}
use Rattle.std.specs.Prelude.{Option, None, Some}
use Rattle.std.specs.List.{filter, range_with_len}
use Rattle.std.specs.Option.{is_none}
use Rattle.ot_logic.specs.Lists.{IsMember}
use Rattle.ot_lists.specs.SequenceTable.{SequenceTable, sequence_at}
use Rattle.ot_lists.specs.Places.{place_in}
use Rattle.ot_lists.specs.Parts.{part_of}
use Rattle.ot_lists.specs.declared.sequence.walk.Part.{Part}
use Rattle.ot_lists.specs.declared.sequence.pieces.Piece.{Piece}
use Rattle.ot_lists.specs.declared.sequence.pieces.Piece.TheVariants.{NewTree, NewOne, Same}

-- the numbers of a function, then those that an argument adds
abbrev pub joined_in : List ℕ → List ℕ → List ℕ
joined_in fs xs = fs ++ filter (λ x. is_none (place_in fs x)) xs

-- the numbers of parts that are still to be walked, the first one last
abbrev pub ahead : SequenceTable → List Part → List ℕ
ahead t [] = []
ahead t (p ∷ ps) = ahead t ps ++ part_of t p

-- the numbers of a piece, where fs is the function's sequence
abbrev pub piece_of : SequenceTable → List ℕ → Piece → List ℕ
piece_of t fs (NewTree i) = sequence_at t i
piece_of t fs (NewOne x) = x ∷ []
piece_of t fs (Same k n) = take n (drop k fs)

abbrev pub whole : SequenceTable → List ℕ → List Piece → List ℕ
whole t fs [] = []
whole t fs (p ∷ ps) = piece_of t fs p ++ whole t fs ps

-- the function lacks what is new, and has what is the same
abbrev pub IsPiece : SequenceTable → List ℕ → Piece → Type 0
IsPiece t fs (NewTree i) = (i < length t.lists) × ((x : ℕ) → IsMember x (sequence_at t i) → ¬ (IsMember x fs))
IsPiece t fs (NewOne x) = ¬ (IsMember x fs)
IsPiece t fs (Same k n) = k + n ≤ length fs

abbrev pub ArePieces : SequenceTable → List ℕ → List Piece → Type 0
ArePieces t fs ps = (p : Piece) → IsMember p ps → IsPiece t fs p

-- what may be a piece, as far as it is one
abbrev pub found_of : SequenceTable → List ℕ → Option Piece → List ℕ
found_of t fs None = []
found_of t fs (Some p) = piece_of t fs p

-- the numbers that a piece adds to the function's
abbrev pub added : SequenceTable → Piece → List ℕ
added t (NewTree i) = sequence_at t i
added t (NewOne x) = x ∷ []
added t (Same k n) = []

-- the holes of a piece
abbrev pub holes : SequenceTable → Piece → List (Option ℕ)
holes t (NewTree i) = replicate (length (sequence_at t i)) None
holes t (NewOne x) = None ∷ []
holes t (Same k n) = map Some (range_with_len k n)

-- what a piece adds is of the table
abbrev pub IsKnown : SequenceTable → Piece → Type 0
IsKnown t (NewTree i) = i < length t.lists
IsKnown t (NewOne x) = x < length t.keys
IsKnown t (Same k n) = Unit {0}

-- a sequence has this part at this place
pub record IsPartAt (l part : List ℕ) (place : ℕ) : Type 0 where
  pub front : List ℕ
  pub back : List ℕ
  pub split : front ++ (part ++ back) ≡ l
  pub place_is : place ≡ length front
