use Rattle.std.specs.Prelude.{◌↔◌, slice_set, true, false}
use Rattle.std.proofs.Common.{◌≡◌, ◌<◌, ◌+◌, ◌++◌, [], ◌∷◌, ℕ, length, slice_index, sym, subst, arith}
use Rattle.std.proofs.lemmas.List.{get_or_read}
use Rattle.ot_logic.specs.Lists.{IsMember}
use Rattle.ot_leads.specs.Found.{IsFirst}
use Rattle.ot_leads.proofs.FirstPlaces.{IsNoting, noting-new, noting-old}
use Rattle.ot_leads.proofs.MeetLemmas.{read-at}
use Rattle.ot_leads.proofs.rising.first_places.Goals as goal
use Rattle.ot_leads.proofs.rising.first_places.Goals.{then-index+in_ok-push, else-index}

pub loop-place-preserved : goal.loop-place-preserved
loop-place-preserved c =
    let steps = c.args.steps.now in
    let k = c.loop-place.place in
    let x = c.index-steps-place.result in
    let marks = c.loop-place.is_new.items in
    let places = c.loop-place.places.items in
    let was = c.loop-place.invariant in
    let here : slice_index steps k ≡ x = sym (get_or_read steps k x c.loop-place-test.true c.index-steps-place.is 0) in
    let inside : x < c.args.count =
    subst (λ y. y < c.args.count) (sym c.index-steps-place.is) (c.requires k x c.loop-place-test.true) in
    let long = was.long in
    elim c.if-index.branch [
      | then-index+in_ok-push w ↦
          let fresh = read-at marks c.index.result x c.index-in-loop-place.result.now true (omega (arith, inside, long))
          c.index.ensures c.index-in-loop-place.ensures w.if-index.true in
          subst (λ v. IsNoting steps c.args.count (k + 1) v.items c.if-index.places.items) (sym w.is_new-is)
          (subst (λ v. IsNoting steps c.args.count (k + 1) (slice_set marks w.index-then-index.result false) v.items)
          (sym w.places-is)
          (subst (λ l. IsNoting steps c.args.count (k + 1) (slice_set marks w.index-then-index.result false) l)
          (sym w.in_ok-push.ensures.items)
          (subst (λ i. IsNoting steps c.args.count (k + 1) (slice_set marks i false) (places ++ k ∷ []))
          (sym w.index-then-index.ensures)
          (noting-new steps c.args.count k x marks places here was inside fresh))))
      | else-index w ↦
          let known = read-at marks c.index.result x c.index-in-loop-place.result.now false
          (omega (arith, inside, long)) c.index.ensures c.index-in-loop-place.ensures w.if-index.false in
          subst (λ v. IsNoting steps c.args.count (k + 1) v.items c.if-index.places.items) (sym w.is_new-is)
          (subst (λ v. IsNoting steps c.args.count (k + 1) marks v.items) (sym w.places-is)
          (noting-old steps c.args.count k x marks places here was known))
    ]

pub returns : goal.returns
returns c =
    let most = c.loop-place.auto.place-end in
    let least = c.loop-place-test.false in
    let all : c.loop-place.place ≡ length c.args.steps.now = omega (arith, most, least) in
    subst (λ k. (p : ℕ) → IsMember p c.loop-place.places.items ↔ ((p < k) × IsFirst c.args.steps.now p)) all
    c.loop-place.invariant.firsts
