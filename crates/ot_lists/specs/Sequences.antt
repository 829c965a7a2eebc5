-- The table of sequences.
use Rattle.std.specs.Prelude.{◌≡◌, ℕ, ◌<◌, ◌≤◌, List, [], ◌∷◌, ◌++◌, length}
use Rattle.ot_logic.specs.Lists.{IsMember, AreDistinct}
use Rattle.ot_logic.specs.Table.{IsInjective}
use Rattle.ot_logic.specs.Interned.{trees_of, IsSound}
use Rattle.ot_lists.specs.Ranks.{IsTop}
use Rattle.ot_lists.specs.SequenceTable.{sequence_in, IsUnder}
use Rattle.ot_lists.specs.declared.list.Key.{Key}
use Rattle.ot_lists.specs.declared.sequence.SequenceNode.{SequenceNode}
use Rattle.ot_lists.specs.declared.sequence.SequenceNode.TheVariants.{Empty, Cut}
use Rattle.ot_lists.specs.declared.sequence.Extent.{Extent}

-- the sequence of a node
abbrev pub sequence_of : List (List ℕ) → SequenceNode → List ℕ
sequence_of ss Empty = []
sequence_of ss (Cut a x b) = sequence_in ss a ++ x ∷ sequence_in ss b

-- the node's parts have numbers below k
abbrev pub IsBelow : ℕ → SequenceNode → Type 0
IsBelow k Empty = Unit {0}
IsBelow k (Cut a x b) = (a < k) × (b < k)

-- it is cut at the number of the highest rank
abbrev pub IsCutAtTop : SequenceNode → List ℕ → Type 0
IsCutAtTop Empty l = Unit {0}
IsCutAtTop (Cut a x b) l = IsTop x l

-- how many numbers the sequence has, each once, and bounds of these
pub record Describes (l : List ℕ) (e : Extent) : Type 0 where
  pub count_is : e.count ≡ length l
  pub distinct : AreDistinct l
  pub low : (x : ℕ) → IsMember x l → e.low ≤ x
  pub high : (x : ℕ) → IsMember x l → x ≤ e.high

-- what stands beside a node, where there are k variables
pub record IsBeside (k : ℕ) (ss : List (List ℕ)) (n : SequenceNode) (e : Extent) : Type 0 where
  pub describes : Describes (sequence_of ss n) e
  pub top : IsCutAtTop n (sequence_of ss n)
  pub under : IsUnder k (sequence_of ss n)

-- the sequences of the entries
abbrev pub sequences_of : List (SequenceNode × Extent) → List (List ℕ)
sequences_of es = trees_of sequence_of es

abbrev pub AreSequenceNodes : ℕ → List (SequenceNode × Extent) → List (List ℕ) → Type 0
AreSequenceNodes k es ss = IsSound sequence_of IsBelow (IsBeside k) es ss

-- what the fields keep
pub record AreSequences (ks : List Key) (es : List (SequenceNode × Extent)) (ss : List (List ℕ)) : Type 0 where
  pub nodes : AreSequenceNodes (length ks) es ss
  pub keys : IsInjective ks
