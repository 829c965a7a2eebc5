use Rattle.std.proofs.Common.{◌≡◌, ◌<◌, ◌-◌, ◌+◌, length, slice_set, Some, ap, subst, sym, ◌∙◌, arith}
use Rattle.std.proofs.lemmas.Option.{slice_get-get_or}
use Rattle.ot_kernel.specs.Chains.{AreChainedFrom}
use Rattle.ot_kernel.proofs.Chaining.{chained-more}
use Rattle.ot_kernel.proofs.candidates.chained.Goals as goal

pub loop-place-preserved : goal.loop-place-preserved
loop-place-preserved c =
    let p = c.loop-place.place in
    let parts = c.args.parts.now in
    let here = c.index-parts-place.result in
    let nexts = c.loop-place.nexts.items in
    let short : p - 1 < length parts = omega (arith, c.loop-place-test.true, c.loop-place.auto.place) in
    let one : p - 1 + 1 ≡ p = omega (arith, c.loop-place-test.true) in
    chained-more parts (p - 1) p here c.loop-place.firsts.entries c.insert.new.self.entries nexts
    (slice_set nexts (p - 1) c.unwrap_or.result) c.in_ok-next.next
    (slice_get-get_or parts (p - 1) here short ∙ ap Some (sym c.index-parts-place.is)) one c.in_ok-next.ensures.old
    (λ q. c.in_ok-next.ensures.updates.0 q) c.in_ok-next.ensures.updates.1
    (ap (slice_set nexts (p - 1)) c.unwrap_or.ensures) c.loop-place.invariant

pub returns : goal.returns
returns c =
    let none : c.loop-place.place ≡ 0 = omega (arith, c.loop-place-test.false) in
    subst (λ n. AreChainedFrom n c.args.parts.now c.loop-place.firsts.entries c.loop-place.nexts.items) none
    c.loop-place.invariant
