-- Sequences with a gap.
use Rattle.std.specs.Prelude.{ℕ, ◌<◌, List, [], ◌∷◌, ◌++◌, length}
use Rattle.ot_lists.specs.Ranks.{IsTop}
use Rattle.ot_lists.specs.SequenceTable.{SequenceTable, sequence_at}
use Rattle.ot_lists.specs.declared.sequence.append.Frame.{Frame}
use Rattle.ot_lists.specs.declared.sequence.append.Frame.TheVariants.{Behind, Before}

-- the number beside the gap
abbrev pub top_of : Frame → ℕ
top_of (Behind a x) = x
top_of (Before x b) = x

-- what stands at its other side
abbrev pub side_of : Frame → ℕ
side_of (Behind a x) = a
side_of (Before x b) = b

-- the sequence with the gap filled
abbrev pub filled : SequenceTable → Frame → List ℕ → List ℕ
filled t (Behind a x) l = sequence_at t a ++ x ∷ l
filled t (Before x b) l = l ++ x ∷ sequence_at t b

-- frames within each other, the innermost one filled
abbrev pub nested : SequenceTable → List Frame → List ℕ → List ℕ
nested t [] l = l
nested t (f ∷ fs) l = filled t f (nested t fs l)

-- each frame's number has the highest rank of what it makes
abbrev pub AreTops : SequenceTable → List Frame → List ℕ → Type 0
AreTops t [] l = Unit {0}
AreTops t (f ∷ fs) l =
    (side_of f < length t.lists) × (top_of f < length t.keys) × IsTop (top_of f) (filled t f (nested t fs l))
    × AreTops t fs l
