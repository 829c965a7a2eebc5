use Rattle.std.specs.Prelude.{slice_get, slice_set, is_some, not, Option, None, Some, true, false}
use Rattle.std.proofs.Common.{◌≡◌, ℕ, ◌++◌, [], ◌∷◌, refl, sym, ap, subst, ◌∙◌, true≢false}
use Rattle.ot_leads.specs.Meeting.{Meets}
use Rattle.ot_leads.proofs.MeetLemmas.{meets-new, meets-none, read-at}
use Rattle.ot_leads.proofs.meeting.Walk.meet.Goals as goal

none-is : (o : Option ℕ) → is_some o ≡ false → o ≡ None
none-is None p = refl
none-is (Some k) p = absurd (true≢false p)

some-is : (o : Option ℕ) → is_some o ≡ true → (k : ℕ) × (o ≡ Some k)
some-is None p = absurd (true≢false (sym p))
some-is (Some k) p = (k, refl)

pub returns-in_ok-push : goal.returns-in_ok-push
returns-in_ok-push c =
    let ms = c.args.self.now.met.items in
    let ps = c.args.self.now.pending.items in
    let id = c.args.id in
    let unmet = read-at ms c.index.result id c.index-2.result.now None c.requires c.index.ensures c.index-2.ensures
    (none-is c.index-2.result.now (c.is_none.ensures ∙ ap not c.if-is_none.true)) in
    subst (λ qs. Meets (λ i. i ≡ id) ms ps (slice_set ms c.index-then-is_none.result (Some id)) qs)
    (sym c.in_ok-push.ensures.items)
    (subst (λ k. Meets (λ i. i ≡ id) ms ps (slice_set ms k (Some id)) (ps ++ id ∷ []))
    (sym c.index-then-is_none.ensures)
    (meets-new ms ps id c.requires unmet))

pub returns-else-is_none : goal.returns-else-is_none
returns-else-is_none c =
    let ms = c.args.self.now.met.items in
    let met = some-is c.index-2.result.now (c.is_none.ensures ∙ ap not c.if-is_none.false) in
    meets-none (λ i. i ≡ c.args.id) ms c.args.self.now.pending.items (λ i e. (
      met.0,
      subst (λ z. slice_get ms z ≡ Some (Some met.0)) (sym e)
          (read-at ms c.index.result c.args.id c.index-2.result.now (Some met.0) c.requires c.index.ensures
          c.index-2.ensures met.1),
    ))
