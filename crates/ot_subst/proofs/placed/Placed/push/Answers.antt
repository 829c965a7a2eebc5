use Rattle.std.proofs.Common.{◌≡◌, Some, nat_eq, slice_get, slice_set, subst, ap, sym, ◌∙◌}
use Rattle.std.specs.Map.{lookup}
use Rattle.ot_subst.specs.Places.{ArePlaced}
use Rattle.ot_subst.proofs.ByPlace.{placed-push-in}
use Rattle.ot_subst.proofs.placed.Placed.push.Goals as goal

pub invariant_of-self : goal.invariant_of-self
invariant_of-self c i e at = c.in_err-reach.ensures.extends.keeps e.0 i (c.self.invariant i e at)

pub invariant_of-self-in_err-push : goal.invariant_of-self-in_err-push
invariant_of-self-in_err-push c i e at = c.in_ok-reach.ensures.extends.keeps e.0 i
    (c.self.invariant i e (subst (λ ps. slice_get ps i ≡ Some e) c.in_err-push.ensures.items at))

pub invariant_of-self-2 : goal.invariant_of-self-2
invariant_of-self-2 c =
    let s = c.self.inside in
    subst (ArePlaced (slice_set c.reach.new.places.items c.index-index.result c.len-place.result))
    (sym c.in_ok-push.ensures.items)
    (placed-push-in s.places.items s.pairs.items c.self.invariant c.args.id c.reach.new.places.items
    c.index-index.result c.len-place.result c.args.image
    c.in_ok-reach.ensures.extends c.index-index.ensures c.in_ok-reach.ensures.within
    (c.len-place.ensures ∙ s.pairs.ok.0) (ap (lookup (nat_eq c.args.id)) c.self.view_is ∙ c.requires.absent))
