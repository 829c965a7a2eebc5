-- The needed definitions are the needed set.
use Rattle.std.proofs.Common.{◌≡◌, Bool, true, List, refl, sym, subst}
use Rattle.std.specs.Bool.{Decides}
use Rattle.std.specs.List.{filter}
use Rattle.ot_logic.specs.Lists.{IsMember}
use Rattle.ot_trace.specs.Origins.{Origin}
use Rattle.ot_written.specs.Needed.{firsts, is_among, needed_definitions}
use Rattle.ot_written.specs.Laws.{NeededSetLaw}
use Rattle.ot_written.proofs.Filters.{any-to, any-from}
use Rattle.ot_written.proofs.NeededDefinitions.{needed-reached, reached-needed, needed-distinct, needed-least}
use Rattle.ot_written.proofs.NeededDefinitions.{needed-closed, needed-again, origin-reached, reached-origin}
use Rattle.ot_written.proofs.Walk.{needed-by-test}

module _ {N : Type 0} (same : Origin N → Origin N → Bool)
    (same-is : (a b : Origin N) → Decides (same a b) (a ≡ b)) where
  pub among-to : (o : Origin N) (ds : List (Origin N)) → is_among same o ds ≡ true → IsMember o ds
  among-to o ds h = let x = any-to (same o) ds h in subst (λ z. IsMember z ds) (sym ((same-is o x.0).0 x.2)) x.1

  pub among-from : (o : Origin N) (ds : List (Origin N)) → IsMember o ds → is_among same o ds ≡ true
  among-from o ds m = any-from (same o) o ds m ((same-is o o).1 refl)

  -- of the first ones those that are needed
  pub needed-among : (roots ds : List (Origin N)) → needed_definitions same roots ds
      ≡ filter (λ d. is_among same d (needed_definitions same roots ds)) (firsts same ds)
  needed-among roots ds =
      let found : List (Origin N) = needed_definitions same roots ds in
      needed-by-test same same-is roots ds (λ d. is_among same d found) (λ d m. (
        λ h. (needed-reached same same-is roots ds d (among-to d found h)).1,
        λ a. among-from d found (reached-needed same same-is roots ds d m a),
      ))

pub needed-set-law : {N : Type 0} → NeededSetLaw N
needed-set-law same same-is roots ds = (
  record {
    reached = λ d. (needed-reached same same-is roots ds d, λ p. reached-needed same same-is roots ds d p.0 p.1);
    in_order = needed-among same same-is roots ds;
    distinct = needed-distinct same same-is roots ds;
    closed = needed-closed same same-is roots ds;
    least = λ S h d m. needed-least same same-is roots ds (λ x. IsMember x S) h d m;
  },
  needed-again same same-is roots ds,
  λ o. (origin-reached same same-is roots ds o, reached-origin same same-is roots ds o),
)
