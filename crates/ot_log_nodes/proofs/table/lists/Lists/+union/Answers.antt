use Rattle.std.proofs.Common.{◌≡◌, ◌∙◌, ◌∷◌, ℕ, suc, ◌≤◌, length, eqb-true, sym, ap, subst, arith}
use Rattle.std.proofs.lemmas.Result.{IfOk-weaker}
use Rattle.ot_logic.proofs.Results.{on_ok}
use Rattle.ot_log_nodes.specs.Lists.{list_at}
use Rattle.ot_log_nodes.specs.Places.{IsPast, IsUnion}
use Rattle.ot_log_nodes.proofs.ListLemmas.{list-stays, still-list, length-rest}
use Rattle.ot_log_nodes.proofs.PlaceLemmas.{union-same, union-none_left, union-none_right, union-later, union-smaller}
use Rattle.ot_log_nodes.proofs.PlaceLemmas.{past-grown, unions-grown, unions-insert}
use Rattle.ot_log_nodes.proofs.table.lists.Lists.+union.Goals as goal
use Rattle.ot_log_nodes.proofs.table.lists.Lists.+union.Goals.{union-In_ok-union}

pub union-returns-then-eq-clause-ok : goal.union-returns-then-eq-clause-ok
union-returns-then-eq-clause-ok t c = union-same c.args.self.now c.args.left c.args.right c.requires.left
    (eqb-true c.args.left c.args.right (sym c.eq.ensures ∙ c.if-eq.true))

pub union-returns-in_default-clause-ok : goal.union-returns-in_default-clause-ok
union-returns-in_default-clause-ok t c = union-none_left c.args.self.now (list_at c.args.self.now c.args.left)
    c.args.right c.in_default.ensures c.requires.right

pub union-returns-in_default-front-clause-ok : goal.union-returns-in_default-front-clause-ok
union-returns-in_default-front-clause-ok t c = union-none_right c.args.self.now
    (list_at c.args.self.now c.args.right) c.args.left c.in_default-front.ensures c.requires.left

pub union-returns-in-Some-get-clause-ok : goal.union-returns-in-Some-get-clause-ok
union-returns-in-Some-get-clause-ok t c =
    (c.requires.known.known (record { left = c.args.left; right = c.args.right }) c.in-Some-get.known.now
    (sym c.in-Some-get.ensures.value)).2

pub union-union_of-requires : goal.union-union_of-requires
union-union_of-requires t c =
    let ls = c.args.self.now in
    let first = c.in-Some.ensures in
    let second = c.in-Some-front.ensures in (
      omega (
        arith,
        length-rest ls (list_at ls c.args.left) c.in-Some.first first.1,
        length-rest ls (list_at ls c.args.right) c.in-Some-front.second second.1,
      ),
      (first.0, (second.0, c.requires.known)),
    )

-- the union of the two lists is that of their links
module _ (t : ℕ) (c : union-In_ok-union t) where
  is-union : IsUnion c.union_of.new.self (list_at c.args.self.now c.args.left)
      (list_at c.args.self.now c.args.right) c.in_ok-union.union
  is-union =
      let ls = c.args.self.now in
      let ms = c.union_of.new.self in
      let first = c.in-Some.first in
      subst (λ l. IsUnion ms l (list_at ls c.args.right) c.in_ok-union.union) (sym c.in-Some.ensures.1)
      (subst (λ r. IsUnion ms ((first.skipped, first.ty) ∷ list_at ls first.rest) r c.in_ok-union.union)
      (sym c.in-Some-front.ensures.1) c.in_ok-union.ensures.ok)

pub union-returns-clause-ok : goal.union-returns-clause-ok
union-returns-clause-ok t c = is-union t (goal.at.union-returns-clause-ok t c).In_ok-union

pub union-returns-clause-known : goal.union-returns-clause-known
union-returns-clause-known t c =
    let ls = c.args.self.now in
    let ms = c.union_of.new.self in
    let e = c.in_ok-union.ensures.extends in
    let left = c.args.left in
    let right = c.args.right in
    let union = c.in_ok-union.union in
    let is = is-union t (goal.at.union-returns-clause-known t c).In_ok-union in
    unions-insert ms c.union_of.new.unions.entries c.insert.new.self.entries (record { left = left; right = right })
    union c.in_ok-union.ensures.known (still-list ls ms e left c.requires.left)
    (still-list ls ms e right c.requires.right)
    (subst (λ l. IsUnion ms l (list_at ms right) union) (sym (list-stays ls ms e left c.requires.left))
    (subst (λ r. IsUnion ms (list_at ls left) r union) (sym (list-stays ls ms e right c.requires.right)) is))
    c.in_ok-insert.ensures.updates.0

-- what follows a first part that is taken off each list
pub union_of-past-requires-2-clause-rest : goal.union_of-past-requires-2-clause-rest
union_of-past-requires-2-clause-rest t c = still-list c.args.self.now c.past.new.self c.in_ok-left.ensures.extends
    c.args.second.rest c.requires.second

pub union_of-union-requires : goal.union_of-union-requires
union_of-union-requires t c =
    let ls = c.args.self.now in
    let ms = c.past.new.self in
    let os = c.past-2.new.self in
    let left = c.in_ok-left.ensures in
    let right = c.in_ok-right.ensures in
    let one : length (list_at os c.in_ok-left.left) ≡ length (list_at ms c.in_ok-left.left) =
    ap length (list-stays ms os right.extends c.in_ok-left.left left.ok.has) in
    let two : length (list_at ms c.args.second.rest) ≡ length (list_at ls c.args.second.rest) =
    ap length (list-stays ls ms left.extends c.args.second.rest c.requires.second) in
    let less = union-smaller (length (list_at ls c.args.first.rest)) (length (list_at ms c.args.second.rest))
    (length (list_at ms c.in_ok-left.left)) (length (list_at os c.in_ok-right.right)) c.args.first.skipped
    c.args.second.skipped c.min-place.result c.min-place.ensures left.shorter left.short right.shorter right.short in (
      omega (arith, less, one, two),
      (
        still-list ms os right.extends c.in_ok-left.left left.ok.has,
        (
          right.ok.has,
          unions-grown ms os right.extends c.args.unions.now.entries
              (unions-grown ls ms left.extends c.args.unions.now.entries c.requires.known),
        ),
      ),
    )

pub union_of-place-requires : goal.union_of-place-requires
union_of-place-requires t c = c.in_ok-rest.ensures.ok.has

pub union_of-returns-clause-ok : goal.union_of-returns-clause-ok
union_of-returns-clause-ok t c =
    let ls = c.args.self.now in
    let ms = c.past.new.self in
    let os = c.past-2.new.self in
    let first = c.args.first in
    let second = c.args.second in
    let left = past-grown ms os c.in_ok-right.ensures.extends
    ((first.skipped, first.ty) ∷ list_at ls first.rest) (suc c.min-place.result) c.in_ok-left.left
    c.in_ok-left.ensures.ok in
    let right = subst (λ l. IsPast os ((second.skipped, second.ty) ∷ l) (suc c.min-place.result) c.in_ok-right.right)
    (list-stays ls ms c.in_ok-left.ensures.extends second.rest c.requires.second) c.in_ok-right.ensures.ok in
    let before : c.min-place.result ≤ first.skipped = omega (arith, c.min-place.ensures) in
    let before_too : c.min-place.result ≤ second.skipped = omega (arith, c.min-place.ensures) in
    IfOk-weaker c.place.result _ _
    (λ r h. union-later os c.union.new.self c.place.new.self (list_at ls first.rest) (list_at ls second.rest)
    c.min-place.result first.skipped second.skipped first.ty second.ty 0 c.in_ok-left.left c.in_ok-right.right
    c.in_ok-rest.rest r before before_too left right c.in_ok-rest.ensures.ok h) c.place.ensures.ok

pub union_of-returns-clause-known : goal.union_of-returns-clause-known
union_of-returns-clause-known t c =
    on_ok c.place.result
    (unions-grown c.union.new.self c.place.new.self c.place.ensures.extends c.union.new.unions.entries
    c.in_ok-rest.ensures.known)
