-- What is remembered of lists that were joined.
use Rattle.std.specs.Prelude.{◌≡◌, ◌&&◌, ℕ, ◌<◌, Bool, nat_eq, List, Option, Some, map, length, slice_get}
use Rattle.std.specs.Map.{lookup}
use Rattle.ot_logic.specs.Trees.{Variable}
use Rattle.ot_logic.specs.NamedTerms.{place}
use Rattle.ot_logic.specs.Naming.{numbers}
use Rattle.ot_shape.specs.Shape.{joined}
use Rattle.ot_lists.specs.Variables.{list_at}
use Rattle.ot_lists.specs.declared.joining.Joined.{Joined}
use Rattle.ot_class.specs.declared.node.Pair.{Pair}

-- whether two pairs are one
abbrev pub same_pair : Pair → Pair → Bool
same_pair p q = nat_eq p.f q.f && nat_eq p.x q.x

-- the list of a function's variables and those that an argument adds, and which of the argument's the function has
pub record IsJoin (ls : List (List (Variable ℕ))) (ms : List (List (Option ℕ))) (f x : ℕ) (j : Joined) : Type 0 where
  pub list : slice_get ls j.list ≡ Some (joined numbers (list_at ls f) (list_at ls x))
  pub map_is : slice_get ms j.map ≡ Some (map (place numbers (list_at ls f)) (list_at ls x))

-- each entry is the join of its pair
pub record AreJoins (ls : List (List (Variable ℕ))) (ms : List (List (Option ℕ))) (es : List (Pair × Joined)) : Type
    0 where
  pub known : (p : Pair) (j : Joined) → lookup (same_pair p) es ≡ Some j
      → (p.f < length ls) × (p.x < length ls) × IsJoin ls ms p.f p.x j
