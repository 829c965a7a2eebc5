-- The order in which blocks run, depth first over their imports. A block is its place in the file.
use Rattle.std.specs.Prelude.{ℕ, List, [], ◌∷◌, ◌==◌, Bool, Result, Ok, length, map, slice_index_or}
use Rattle.ot_walk.specs.Walk.{Edge, Walk, walk_from}
use Rattle.ot_blocks.specs.declared.walk.Import.{Import}

-- the imports of a block
abbrev pub imports_at : List (List Import) → ℕ → List Import
imports_at g b = slice_index_or g b []

-- an import leads to its block; one that leads back is told by its line
abbrev pub edge_of : Import → Edge ℕ ℕ
edge_of i = record { target = Ok i.block; back = i.line }

-- those of a block
abbrev pub edges_of : List (List Import) → ℕ → Result (List (Edge ℕ ℕ)) ℕ
edges_of g b = Ok (map edge_of (imports_at g b))

-- leads to the first block
abbrev pub edge_to : ℕ → Edge ℕ ℕ
edge_to main = record { target = Ok main; back = 0 }

-- the order of what a block reaches; no path is longer than there are blocks
abbrev pub order_of : List (List Import) → ℕ → Walk ℕ ℕ
order_of g main = walk_from (λ a b. a == b) (edges_of g) (length g) (edge_to main ∷ [])
