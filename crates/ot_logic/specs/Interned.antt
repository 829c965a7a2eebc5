-- Tables of nodes that refer to earlier nodes by number. Each number stands for a tree.
--     N, T, D      nodes, trees, and what is kept beside a node
--     of ts n      the tree of the node n, whose numbers are places in ts
use Rattle.std.specs.Prelude.{◌≡◌, ℕ, ◌≤◌, Bool, true, List, [], ◌∷◌, ◌++◌, length, slice_get, Some}
use Rattle.ot_logic.specs.Table.{Extends, IsInjective}

module _ {N T D : Type 0} (of : List T → N → T) where
  -- the tree of each entry in turn, each over the trees before it
  abbrev pub grow : List T → List (N × D) → List T
  grow ts [] = ts
  grow ts (e ∷ es) = grow (ts ++ of ts e.0 ∷ []) es

  -- the trees of all entries
  abbrev pub trees_of : List (N × D) → List T
  trees_of es = grow [] es

  module _ (Below : ℕ → N → Type 0) (Fits : List T → N → D → Type 0) where
    -- the entry's node stands for the tree at its number, refers to lower numbers alone, and has beside it what fits
    pub record IsEntry (ts : List T) (i : ℕ) (n : N) (d : D) : Type 0 where
      pub tree : slice_get ts i ≡ Some (of ts n)
      pub below : Below i n
      pub fits : Fits ts n d

    -- the trees of the entries, number by number, each once
    pub record IsSound (es : List (N × D)) (ts : List T) : Type 0 where
      pub same_length : length ts ≡ length es
      pub entries : (i : ℕ) (n : N) (d : D) → slice_get es i ≡ Some (n, d) → IsEntry ts i n d
      pub injective : IsInjective ts

    -- what has to be shown of nodes, once for each kind of table
    pub record NodeLaws (same : N → N → Bool) : Type 0 where
      -- a node refers below more, too
      pub more_below : (j k : ℕ) → j ≤ k → (n : N) → Below j n → Below k n
      -- its tree stays when the table grows, and what fits still fits
      pub tree_stays : (ts us : List T) → Extends ts us → (n : N) → Below (length ts) n → of us n ≡ of ts n
      pub fits_stays : (ts us : List T) → Extends ts us → (n : N) (d : D) → Below (length ts) n → Fits ts n d
          → Fits us n d
      -- the test of nodes is equality of trees
      pub tree_same : (ts : List T) (m n : N) → same m n ≡ true → of ts m ≡ of ts n
      pub same_tree : (ts : List T) → IsInjective ts → (m n : N) (d e : D) → Below (length ts) m → Below (length ts) n
          → Fits ts m d → Fits ts n e → of ts m ≡ of ts n → same m n ≡ true
