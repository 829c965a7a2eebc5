-- The table of maps: for each hole of an argument, the hole of the function that is the same variable, or none.
use Rattle.std.specs.Prelude.{◌≡◌, ◌≢◌, ℕ, suc, ◌<◌, List, [], ◌∷◌, ◌++◌, map, replicate, slice_index_or}
use Rattle.std.specs.Prelude.{Option, Some, None}
use Rattle.std.specs.List.{range_with_len}
use Rattle.ot_logic.specs.Interned.{trees_of, IsSound}
use Rattle.ot_lists.specs.declared.map.MapNode.{MapNode}
use Rattle.ot_lists.specs.declared.map.MapNode.TheVariants.{Empty, New, Same}

-- the map of a number
abbrev pub map_at : List (List (Option ℕ)) → ℕ → List (Option ℕ)
map_at ms i = slice_index_or ms i []

-- the map of a node
abbrev pub map_of : List (List (Option ℕ)) → MapNode → List (Option ℕ)
map_of ms Empty = []
map_of ms (New front n) = map_at ms front ++ replicate n None
map_of ms (Same front k n) = map_at ms front ++ map Some (range_with_len k n)

-- the node's map has a number below k
abbrev pub IsBelow : ℕ → MapNode → Type 0
IsBelow k Empty = Unit {0}
IsBelow k (New front n) = front < k
IsBelow k (Same front j n) = front < k

-- the node's run is not empty, and does not go on from what stands before it
abbrev pub IsLongest : List (List (Option ℕ)) → MapNode → Type 0
IsLongest ms Empty = Unit {0}
IsLongest ms (New front n) = (0 < n) × ((m : List (Option ℕ)) → map_at ms front ≢ m ++ None ∷ [])
IsLongest ms (Same front k n) =
    (0 < n) × ((m : List (Option ℕ)) (j : ℕ) → suc j ≡ k → map_at ms front ≢ m ++ Some j ∷ [])

-- nothing else stands beside a node
abbrev pub IsBeside : List (List (Option ℕ)) → MapNode → Unit {0} → Type 0
IsBeside ms n b = IsLongest ms n

-- the maps of the entries
abbrev pub maps_of : List (MapNode × Unit {0}) → List (List (Option ℕ))
maps_of es = trees_of map_of es

-- what the nodes keep
abbrev pub AreMapNodes : List (MapNode × Unit {0}) → List (List (Option ℕ)) → Type 0
AreMapNodes es ms = IsSound map_of IsBelow IsBeside es ms
