-- The lists that were read to their ends; and numbers that the table has just made.
use Rattle.std.specs.Prelude.{◌≡◌, ◌≤◌, ℕ, List, map, take, length, Result, Ok}
use Rattle.std.proofs.Common.{sym, ap, subst}
use Rattle.ot_logic.specs.Names.{Name}
use Rattle.ot_logic.specs.Trees.{Ty, Tm}
use Rattle.ot_logic.specs.Faults.{Fault}
use Rattle.ot_log_nodes.specs.Items.{Item, IsType, IsTerm, HasName, HasType, name_at, type_at}
use Rattle.ot_log_nodes.proofs.ItemLemmas.{type-is, term-is, has-type, has-term}
use Rattle.ot_machine.specs.Objects.{Object, a_type, term}
use Rattle.ot_machine.specs.Places.{as_name, as_type}
use Rattle.ot_machine.specs.Values.{value}
use Rattle.ot_machine.specs.Meaning.{origin_of}
use Rattle.ot_machine.specs.declared.session.Session.{Session}
use Rattle.ot_machine.proofs.Tops.{same-ok}
use Rattle.ot_log_values.specs.Steps.{Makes, IsNameOf, IsTypeOf, IsTermOf}
use Rattle.ot_log_values.specs.Lists.{AreElementsOf, AreEachOf, AreNamesOf, AreTypesOf}
use Rattle.ot_log_values.proofs.Listing.{AreEach, each-whole, each-all, reads-each}

-- ---- what was just made

pub type-made : (s : Session) (ts : List Item) (step id : ℕ) (t : Ty Name) → IsType ts id t
    → Makes (origin_of s step) (a_type t)
    → IsTypeOf s ts step id
type-made s ts step id t h made = record {
  has = has-type ts id t h;
  made = subst (λ u. Makes (origin_of s step) (a_type u)) (sym (type-is ts id t h)) made;
}

pub term-made : (s : Session) (ts : List Item) (step id : ℕ) (t : Tm Name) → IsTerm ts id t
    → Makes (origin_of s step) (term t)
    → IsTermOf s ts step id
term-made s ts step id t h made = record {
  has = has-term ts id t h;
  made = subst (λ u. Makes (origin_of s step) (term u)) (sym (term-is ts id t h)) made;
}

-- ---- lists

-- the steps, as the loop has them, and how far it has come
module _ (s : Session) (ts : List Item) (step : ℕ) (steps items : List ℕ) (k : ℕ) (same : items ≡ steps)
    (elements : AreElementsOf (origin_of s step) (map (origin_of s) steps)) (end : length items ≤ k) where
  pub gathered : {X A : Type 0} (R : ℕ → X → Type 0) (Has : List Item → X → Type 0) (value_at : List Item → X → A)
      (as_one : Object → Result A (Fault Name)) → ((i : ℕ) (x : X) → R i x → Has ts x)
      → ((i : ℕ) (x : X) (v : Object) → R i x → value (origin_of s i) ≡ Ok v → as_one v ≡ Ok (value_at ts x))
      → (xs : List X) → AreEach R (take k items) xs → AreEachOf Has value_at as_one s ts step xs
  gathered R Has value_at as_one has one xs each = record {
    has = each-all R (Has ts) has (take k items) xs each;
    read =
        reads-each s R as_one (value_at ts) one (origin_of s step) items xs
        (subst (λ is. AreElementsOf (origin_of s step) (map (origin_of s) is)) (sym same) elements)
        (each-whole R items k xs end each);
  }

  pub names-gathered : (ids : List ℕ) → AreEach (IsNameOf s ts) (take k items) ids → AreNamesOf s ts step ids
  names-gathered = gathered (IsNameOf s ts) HasName name_at as_name (λ i x h. h.has)
      (λ i x v h e. ap as_name (same-ok _ _ _ e h.is))

  pub types-gathered : (ids : List ℕ) → AreEach (IsTypeOf s ts) (take k items) ids → AreTypesOf s ts step ids
  types-gathered = gathered (IsTypeOf s ts) HasType type_at as_type (λ i x h. h.has)
      (λ i x v h e. ap as_type (h.made.is v e))
