use Rattle.std.proofs.Common.{sym, subst}
use Rattle.ot_verify.specs.Asking.{IsAt, AreEach}
use Rattle.ot_verify.proofs.Places.{get-same, none-some, each-next, each-none}
use Rattle.ot_verify.proofs.finding.each_at.Goals as goal

pub returns-in-Err : goal.returns-in-Err
returns-in-Err g c =
    let same = get-same c.args.places.now c.loop-place.place-index 0 _ c.loop-place-test.true in
    each-none (IsAt c.args.items.now) c.args.places.now c.loop-place.place-index
    _ c.loop-place-test.true same (λ y e. none-some _ y c.in-Err.ensures.1 e)

pub loop-place-preserved : goal.loop-place-preserved
loop-place-preserved g c =
    let same = get-same c.args.places.now c.loop-place.place-index 0 _ c.loop-place-test.true in
    subst (AreEach (IsAt c.args.items.now) _) (sym c.in_ok-push-in-Ok.ensures.items)
    (each-next (IsAt c.args.items.now) c.args.places.now c.loop-place.place-index _
    c.loop-place.found.items _ c.loop-place-test.true same c.loop-place.invariant c.in-Ok.ensures)
