-- Parts of a sequence that are still to be walked, the last one first.
use Rattle.std.specs.Prelude.{◌≡◌, ℕ, ◌+◌, ◌*◌, ◌<◌, List, [], ◌∷◌, ◌++◌, length}
use Rattle.ot_logic.specs.Lists.{IsMember}
use Rattle.ot_lists.specs.SequenceTable.{SequenceTable, sequence_at}
use Rattle.ot_lists.specs.declared.sequence.walk.Part.{Part}
use Rattle.ot_lists.specs.declared.sequence.walk.Part.TheVariants.{Tree, One}

abbrev pub part_of : SequenceTable → Part → List ℕ
part_of t (Tree i) = sequence_at t i
part_of t (One x) = x ∷ []

-- the numbers of all parts
abbrev pub spread : SequenceTable → List Part → List ℕ
spread t [] = []
spread t (p ∷ ps) = part_of t p ++ spread t ps

-- how many steps it takes to walk them, at most
abbrev pub steps_of : SequenceTable → Part → ℕ
steps_of t (Tree i) = 3 * length (sequence_at t i) + 1
steps_of t (One x) = 1

abbrev pub steps : SequenceTable → List Part → ℕ
steps t [] = 0
steps t (p ∷ ps) = steps_of t p + steps t ps

-- the part is of the table
abbrev pub IsPartOf : SequenceTable → Part → Type 0
IsPartOf t (Tree i) = i < length t.lists
IsPartOf t (One x) = Unit {0}

abbrev pub ArePartsOf : SequenceTable → List Part → Type 0
ArePartsOf t [] = Unit {0}
ArePartsOf t (p ∷ ps) = IsPartOf t p × ArePartsOf t ps

-- the parts are what is left of a sequence, which has no x in what was walked
pub record AreLeft (t : SequenceTable) (x : ℕ) (l : List ℕ) (ps : List Part) (end : ℕ) : Type 0 where
  pub walked : List ℕ
  pub split : spread t ps ++ walked ≡ l
  pub apart : ¬ (IsMember x walked)
  pub end_is : end ≡ length (spread t ps)
