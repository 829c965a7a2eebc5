-- What calls leave.
use Rattle.std.specs.Prelude.{◌↔◌, ◌⊎◌, ℕ, ◌<◌, List, length}
use Rattle.ot_logic.specs.Lists.{IsMember, IsPart}
use Rattle.ot_sets.specs.Trees.{Tree}
use Rattle.ot_sets.specs.Table.{Has}

-- the set of a number has exactly these numbers
pub record IsSetOf (ts : List Tree) (id : ℕ) (IsIn : ℕ → Type 0) : Type 0 where
  pub within : id < length ts
  pub numbers : (k : ℕ) → Has ts id k ↔ IsIn k

-- to a list came numbers of the second kind, all those among them that are not of the first
pub record Adds (IsKnown IsIn : ℕ → Type 0) (before after : List ℕ) : Type 0 where
  pub kept : IsPart before after
  pub added : (k : ℕ) → IsIn k → IsKnown k ⊎ IsMember k after
  pub only : (k : ℕ) → IsMember k after → IsMember k before ⊎ IsIn k

-- those of one set that another lacks
abbrev pub HasAdded : List Tree → ℕ → ℕ → List ℕ → List ℕ → Type 0
HasAdded ts known id = Adds (Has ts known) (Has ts id)
