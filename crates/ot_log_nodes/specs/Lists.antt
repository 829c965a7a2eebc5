-- Lists of binders: of those around a part of a term, the ones that count to it, each as a pair of the number of
-- binders before it that don't count, and its type.
use Rattle.std.specs.Prelude.{◌≡◌, ◌⊎◌, ℕ, zero, suc, ◌+◌, ◌≤◌, List, [], ◌∷◌, Option, None, Some, slice_get}
use Rattle.std.specs.Prelude.{slice_index_or}
use Rattle.std.specs.List.{All}
use Rattle.ot_logic.specs.Interned.{trees_of, IsSound}
use Rattle.ot_log_nodes.specs.Items.{Item, HasType}
use Rattle.ot_log_nodes.specs.declared.table.lists.Link.{Link}

-- n times a type, before others
abbrev pub run : ℕ → ℕ → List ℕ → List ℕ
run zero t l = l
run (suc n) t l = t ∷ run n t l

-- the types of all binders, the innermost first: one that doesn't count has the type of the next one that does
abbrev pub spread : List (ℕ × ℕ) → List ℕ
spread [] = []
spread (p ∷ l) = run p.0 p.1 (p.1 ∷ spread l)

-- the binder of this place is one that counts
abbrev pub IsPlace : List (ℕ × ℕ) → ℕ → Type 0
IsPlace [] k = ⊥
IsPlace (p ∷ l) k = (k ≡ p.0) ⊎ ((j : ℕ) × (k ≡ suc (p.0 + j)) × IsPlace l j)

-- at these places two lists of types agree
abbrev pub Agree : List (ℕ × ℕ) → List ℕ → List ℕ → Type 0
Agree places l r = (k : ℕ) → IsPlace places k → slice_get l k ≡ slice_get r k

-- ---- numbers of lists: that of the empty list is 0

abbrev pub list_at : List (List (ℕ × ℕ)) → ℕ → List (ℕ × ℕ)
list_at ls zero = []
list_at ls (suc i) = slice_index_or ls i []

-- the types of all binders of a list
abbrev pub types_of : List (List (ℕ × ℕ)) → ℕ → List ℕ
types_of ls b = spread (list_at ls b)

abbrev pub IsLinked : Option (List (ℕ × ℕ)) → Type 0
IsLinked None = ⊥
IsLinked (Some []) = ⊥
IsLinked (Some (p ∷ l)) = Unit {0}

-- the number is that of a list
abbrev pub HasList : List (List (ℕ × ℕ)) → ℕ → Type 0
HasList ls zero = Unit {0}
HasList ls (suc i) = IsLinked (slice_get ls i)

-- and that of this list
pub record IsList (ls : List (List (ℕ × ℕ))) (b : ℕ) (l : List (ℕ × ℕ)) : Type 0 where
  pub has : HasList ls b
  pub is : list_at ls b ≡ l

-- the number is that of a list of binders whose types are of the table
pub record AreBinders (ts : List Item) (ls : List (List (ℕ × ℕ))) (b : ℕ) : Type 0 where
  pub has : HasList ls b
  pub types : All (HasType ts) (types_of ls b)

-- the first link of a list
abbrev pub IsFront : List (List (ℕ × ℕ)) → List (ℕ × ℕ) → Option Link → Type 0
IsFront ls l None = l ≡ []
IsFront ls l (Some n) = HasList ls n.rest × (l ≡ (n.skipped, n.ty) ∷ list_at ls n.rest)

-- the type at a place, and the number of a list with the types behind it
pub record IsSplit (ls : List (List (ℕ × ℕ))) (l : List ℕ) (k t b : ℕ) : Type 0 where
  pub has : HasList ls b
  pub here : slice_get l k ≡ Some t
  pub behind : (j : ℕ) → slice_get l (suc (k + j)) ≡ slice_get (types_of ls b) j

-- if there is one
abbrev pub IsBehind : List (List (ℕ × ℕ)) → List ℕ → ℕ → Option Link → Type 0
IsBehind ls l k None = Unit {0}
IsBehind ls l k (Some n) = IsSplit ls l k n.ty n.rest

-- ---- the links of the table

abbrev pub link_list : List (List (ℕ × ℕ)) → Link → List (ℕ × ℕ)
link_list ls n = (n.skipped, n.ty) ∷ list_at ls n.rest

-- a link refers to earlier ones
abbrev pub IsLinkBelow : ℕ → Link → Type 0
IsLinkBelow k n = n.rest ≤ k

-- and what it refers to is a list, and so is what stands beside it
abbrev pub HasRest : List (List (ℕ × ℕ)) → Link → ℕ → Type 0
HasRest ls n places = HasList ls n.rest × HasList ls places

abbrev pub lists_of : List (Link × ℕ) → List (List (ℕ × ℕ))
lists_of es = trees_of link_list es

abbrev pub AreLinks : List (Link × ℕ) → List (List (ℕ × ℕ)) → Type 0
AreLinks es ls = IsSound link_list IsLinkBelow HasRest es ls
