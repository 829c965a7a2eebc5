-- A look-up in the set of a list.
use Rattle.std.specs.Bool.{Decides}
use Rattle.std.specs.List.{list_all, list_any}
use Rattle.std.proofs.Common.{◌≡◌, Bool, List, [], fold}
use Rattle.indexmap.specs.IndexSet.{insert_key}
use Rattle.ot_laws.proofs.Sets.{same_set-self}
use Rattle.ot_term.proofs.Distinct.{distinct_members}
use Rattle.ot_laws.proofs.Membership.{part-same_set}

module _ {X : Type 0} (eq : X → X → Bool) (is : (x y : X) → Decides (eq x y) (x ≡ y)) where
  pub among-set : (xs ys : List X) → list_all (λ x. list_any (eq x) (fold (insert_key eq) [] ys)) xs
      ≡ list_all (λ x. list_any (eq x) ys) xs
  among-set xs ys = part-same_set eq is xs xs (fold (insert_key eq) [] ys) ys (same_set-self xs)
      (distinct_members eq is [] ys)
