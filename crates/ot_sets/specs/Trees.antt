-- Sets of numbers as trees.
use Rattle.std.specs.Prelude.{ℕ, List, [], ◌∷◌, ◌++◌}

-- no number, one number alone, or those of two sets
pub data Tree : Type 0 where
  Empty : Tree
  One : ℕ → Tree
  Both : Tree → Tree → Tree

-- the numbers
abbrev pub members : Tree → List ℕ
members Empty = []
members (One k) = k ∷ []
members (Both s t) = members s ++ members t
