-- The places of terms: which of the binders around a term count to it.
use Rattle.std.specs.Prelude.{◌≡◌, ◌&&◌, ◌⊎◌, ◌+◌, ℕ, suc, Bool, nat_eq, List, Some}
use Rattle.std.specs.Map.{lookup}
use Rattle.ot_logic.specs.Names.{Name}
use Rattle.ot_logic.specs.Trees.{Tm, Free, Con, Bound, App, Abs}
use Rattle.ot_log_nodes.specs.Items.{Item, HasTerm, term_at}
use Rattle.ot_log_nodes.specs.Lists.{IsPlace, list_at, HasList}
use Rattle.ot_log_nodes.specs.declared.table.places.Pair.{Pair}
use Rattle.ot_log_nodes.specs.declared.table.places.Places.{Places}
use Rattle.ot_log_nodes.specs.declared.table.places.PlaceTables.{PlaceTables}

-- the term has a place that leads to the binder around it with this number, the innermost 0
abbrev pub HasPlace : Tm Name → ℕ → Type 0
HasPlace (Free v) k = ⊥
HasPlace (Con n t) k = ⊥
HasPlace (Bound j) k = k ≡ j
HasPlace (App f x) k = HasPlace f k ⊎ HasPlace x k
HasPlace (Abs t b) k = HasPlace b (suc k)

-- the list has each place of the term
pub record ArePlaces (ls : List (List (ℕ × ℕ))) (b : ℕ) (t : Tm Name) : Type 0 where
  pub has : HasList ls b
  pub each : (k : ℕ) → HasPlace t k → IsPlace (list_at ls b) k

-- the list has each place of the two
pub record IsUnion (ls : List (List (ℕ × ℕ))) (l r : List (ℕ × ℕ)) (b : ℕ) : Type 0 where
  pub has : HasList ls b
  pub left : (k : ℕ) → IsPlace l k → IsPlace (list_at ls b) k
  pub right : (k : ℕ) → IsPlace r k → IsPlace (list_at ls b) k

-- the list has each place of the other one, as it is called outside of so many binders
pub record IsPast (ls : List (List (ℕ × ℕ))) (l : List (ℕ × ℕ)) (n : ℕ) (b : ℕ) : Type 0 where
  pub has : HasList ls b
  pub each : (k j : ℕ) → IsPlace l k → k ≡ n + j → IsPlace (list_at ls b) j

-- ---- what is known of places

-- whether two pairs are one
abbrev pub same_pair : Pair → Pair → Bool
same_pair p q = nat_eq p.left q.left && nat_eq p.right q.right

-- each list that is kept is that of its pair
pub record AreUnions (ls : List (List (ℕ × ℕ))) (es : List (Pair × ℕ)) : Type 0 where
  pub known : (p : Pair) (r : ℕ) → lookup (same_pair p) es ≡ Some r → HasList ls p.left × HasList ls p.right
      × IsUnion ls (list_at ls p.left) (list_at ls p.right) r

-- and each that is kept for a term has the term's places
pub record ArePlaceTables (ts : List Item) (ls : List (List (ℕ × ℕ))) (p : PlaceTables) : Type 0 where
  pub unions : AreUnions ls p.unions.entries
  pub terms : (id : ℕ) (r : Places) → lookup (nat_eq id) p.terms.entries ≡ Some r → HasTerm ts id
      × ArePlaces ls r.list (term_at ts id)
