use Rattle.std.proofs.Common.{ℕ, List, subst}
use Rattle.std.specs.List.{Contains}
use Rattle.std.proofs.lemmas.List.Filters.{dedup_is}
use Rattle.std.proofs.lemmas.List.Kept.{Contains-dedup_nat, Contains-from_dedup}
use Rattle.std.proofs.lemmas.List.Sorted.{Contains-permutation, IsPermutation-sym}
use Rattle.std.proofs.lemmas.Map.Keys.{IsStrictlyIncreasing-dedup}
use Rattle.std.proofs.lemmas.Option.{slice_get_within, get_or_from_slice_get}
use Rattle.ot_logic.specs.Lists.{IsMember}
use Rattle.ot_logic.proofs.Members.{IsMember-get_or, IsMember-place}
use Rattle.ot_leads.proofs.rising.rising.Goals as goal

member-from : (xs : List ℕ) (x : ℕ) → Contains xs x → IsMember x xs
member-from xs x c = subst (λ z. IsMember z xs) c.2 (IsMember-get_or xs c.0 x c.1)

contains : (xs : List ℕ) (x : ℕ) → IsMember x xs → Contains xs x
contains xs x m =
    let at = IsMember-place x xs m in
    (at.0, slice_get_within xs at.0 x at.1, get_or_from_slice_get xs at.0 x x at.1)

pub returns-clause-rises : goal.returns-clause-rises
returns-clause-rises c =
    let is = dedup_is _ _ _ c.dedup.ensures.filtered in
    rw is (IsStrictlyIncreasing-dedup _ c.sort_unstable.ensures.sorted)

pub returns-clause-same : goal.returns-clause-same
returns-clause-same c =
    let is = dedup_is _ _ _ c.dedup.ensures.filtered in
    let moved = c.sort_unstable.ensures.permutation in
    λ p. (
      λ m. member-from _ p (Contains-permutation _ _ p (IsPermutation-sym _ _ moved)
          (Contains-from_dedup _ _ p (rw is at (contains _ p m)))),
      λ m. member-from _ p (rw is (Contains-dedup_nat _ p (Contains-permutation _ _ p moved (contains _ p m)))),
    )
