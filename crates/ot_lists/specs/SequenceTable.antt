-- What the crate's contracts see of the table of sequences of numbers, each the number of a variable.
use Rattle.std.specs.Prelude.{◌≡◌, ℕ, ◌<◌, List, [], Option, None, Some, length, slice_get, slice_index_or}
use Rattle.ot_logic.specs.Lists.{IsMember, AreDistinct}
use Rattle.ot_logic.specs.Table.{Extends, IsInjective}
use Rattle.ot_lists.specs.declared.list.Key.{Key}

-- the variables, and the sequences of their numbers
pub record SequenceTable : Type 0 where
  pub keys : List Key
  pub lists : List (List ℕ)

-- the number that a variable has among these, if it has one
abbrev pub IsNumberOf : List Key → Key → Option ℕ → Type 0
IsNumberOf ks k None = ¬ (IsMember k ks)
IsNumberOf ks k (Some x) = slice_get ks x ≡ Some k

-- the sequence of a number
abbrev pub sequence_in : List (List ℕ) → ℕ → List ℕ
sequence_in ss i = slice_index_or ss i []

abbrev pub sequence_at : SequenceTable → ℕ → List ℕ
sequence_at t i = sequence_in t.lists i

-- each number is below k
abbrev pub IsUnder : ℕ → List ℕ → Type 0
IsUnder k l = (x : ℕ) → IsMember x l → x < k

-- each sequence keeps its number, and no variable is added
pub record Grows (old new : SequenceTable) : Type 0 where
  pub keys : new.keys ≡ old.keys
  pub lists : Extends old.lists new.lists

-- each variable and each sequence has one number, and no number stands in a sequence twice
pub record IsSequenceTable (t : SequenceTable) : Type 0 where
  pub keys : IsInjective t.keys
  pub lists : IsInjective t.lists
  pub distinct : (i : ℕ) (l : List ℕ) → slice_get t.lists i ≡ Some l → AreDistinct l
  pub under : (i : ℕ) (l : List ℕ) → slice_get t.lists i ≡ Some l → IsUnder (length t.keys) l
