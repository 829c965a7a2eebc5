-- The walk as a whole: what is marked and what waits, from its begin to its end.
use Rattle.std.proofs.Common.{◌≡◌, ℕ, zero, suc, ◌+◌, ◌<◌, ◌⊎◌, inl, inr, Bool, true, false, List, [], ◌∷◌, ◌++◌}
use Rattle.std.proofs.Common.{length, map, replicate, refl, sym, ap, subst, ◌∙◌, true≢false, arith, length-append}
use Rattle.std.specs.List.{All}
use Rattle.std.proofs.lemmas.Option.{none-some, same_Some, slice_get_within}
use Rattle.ot_logic.specs.Lists.{IsMember}
use Rattle.ot_trace.specs.Origins.{Origin, Outcome}
use Rattle.ot_trace.specs.Trace.{origin_at, IsStepTable, IsPartOf}
use Rattle.ot_trace.specs.Reach.{IsMarked, IsReached, Root, Operand, OfTheorem, OfSymbol, MarksReached}
use Rattle.ot_trace.specs.Walk.{Visits, StepLeadsTo, unmarked}
use Rattle.ot_trace.proofs.TraceLemmas.{origin_at-injective}
use Rattle.ot_trace.proofs.EdgeLemmas.{map-at, map-from, all-member}
use Rattle.ot_logic.proofs.Members.{IsMember-last, IsMember-left, IsMember-push}

pub empty-from : (xs : List ℕ) → length xs ≡ 0 → xs ≡ []
empty-from [] p = refl
empty-from (x ∷ xs) p = absurd (omega (arith, p))

module _ (ts : List (Origin ℕ)) (roots ds : List ℕ) where
  -- what is marked is reached, and leads to marked steps alone, or waits
  pub record IsWalk (ms : List Bool) (ps : List ℕ) : Type 0 where
    pub length_is : length ms ≡ length ts
    pub sound : (i : ℕ) → IsMarked ms i → IsReached (map (origin_at ts) roots) (map (origin_at ts) ds)
        (origin_at ts i)
    pub waiting : (i : ℕ) → IsMember i ps → IsMarked ms i
    pub followed : (i : ℕ) → IsMarked ms i → IsMember i ps ⊎ ((j : ℕ) → StepLeadsTo ts ds i j → IsMarked ms j)
    pub begun : (i : ℕ) → IsMember i roots → IsMarked ms i

  unmarked-all : (n i : ℕ) → IsMarked (replicate n false) i → ⊥
  unmarked-all zero i p = none-some true p
  unmarked-all (suc n) zero p = true≢false (sym (same_Some false true p))
  unmarked-all (suc n) (suc i) p = unmarked-all n i p

  pub walk-begin : (ms : List Bool) (ps : List ℕ) (n : ℕ) (begin : List Bool) (none : List ℕ)
      → begin ≡ replicate n false → none ≡ [] → length begin ≡ length ts
      → Visits (λ i. IsMember i roots) begin none ms ps → IsWalk ms ps
  walk-begin ms ps n begin none fresh empty same u =
      let v : Visits (λ i. IsMember i roots) (replicate n false) [] ms ps =
      subst (λ b. Visits (λ i. IsMember i roots) b [] ms ps) fresh
      (subst (λ l. Visits (λ i. IsMember i roots) begin l ms ps) empty u) in record {
        length_is = u.same_length ∙ same;
        sound = λ i m. elim (v.only i m)
            [ inl a ↦ absurd (unmarked-all n i a) | inr a ↦ Root (origin_at ts i) (map-at ts roots i a.0) ];
        waiting = λ i m. elim (v.each i m) [ inl never ↦ absurd never | inr a ↦ v.visited i a ];
        followed = λ i m. elim (v.only i m) [ inl a ↦ absurd (unmarked-all n i a) | inr a ↦ inl a.1 ];
        begun = v.visited;
      }

  reached-next : (i j : ℕ) → IsReached (map (origin_at ts) roots) (map (origin_at ts) ds) (origin_at ts i)
      → StepLeadsTo ts ds i j → IsReached (map (origin_at ts) roots) (map (origin_at ts) ds) (origin_at ts j)
  reached-next i j r (here, inl (inl m)) = Operand (origin_at ts i) (origin_at ts j) r m
  reached-next i j r (here, inl (inr e)) =
      OfTheorem e.0 (origin_at ts j) (subst (IsReached (map (origin_at ts) roots) (map (origin_at ts) ds)) e.1 r)
  reached-next i j r (here, inr s) = OfSymbol (origin_at ts i) (origin_at ts j) r s.0 s.1

  pub walk-step : (ms : List Bool) (ps : List ℕ) (k : ℕ) (ns : List Bool) (qs : List ℕ) → IsWalk ms (ps ++ k ∷ [])
      → Visits (StepLeadsTo ts ds k) ms ps ns qs → IsWalk ns qs
  walk-step ms ps k ns qs w v =
      let here : IsMarked ms k = w.waiting k (IsMember-last k ps) in
      record {
        length_is = v.same_length ∙ w.length_is;
        sound = λ i m. elim (v.only i m) [ inl a ↦ w.sound i a | inr a ↦ reached-next k i (w.sound k here) a.0 ];
        waiting = λ i m. elim (v.each i m) [
          | inl a ↦ v.kept i (w.waiting i (IsMember-left i ps (k ∷ []) a))
          | inr a ↦
              v.visited i a
        ];
        followed = λ i m. elim (v.only i m) [
          | inl a ↦ elim (w.followed i a) [
            | inl b ↦ elim (IsMember-push i ps k b) [
              | inl d ↦ inl (v.waits i d)
              | inr e ↦
                  inr (λ j l. v.visited j (subst (λ i. StepLeadsTo ts ds i j) (sym e) l))
            ]
            | inr b ↦ inr (λ j l. v.kept j (b j l))
          ]
          | inr a ↦ inl a.1
        ];
        begun = λ i m. v.kept i (w.begun i m);
      }

  pub waiting-below : (ms : List Bool) (ps olds : List ℕ) (k : ℕ) → olds ≡ ps ++ k ∷ [] → IsWalk ms olds
      → k < length ts
  waiting-below ms ps olds k same w = subst (λ n. k < n) w.length_is
      (slice_get_within ms k true (w.waiting k (subst (IsMember k) (sym same) (IsMember-last k ps))))

  -- each step takes one away
  pub walk-less : (ms : List Bool) (ps olds : List ℕ) (k : ℕ) (ns : List Bool) (qs : List ℕ) → olds ≡ ps ++ k ∷ []
      → Visits (StepLeadsTo ts ds k) ms ps ns qs → unmarked ns + length qs < unmarked ms + length olds
  walk-less ms ps olds k ns qs same v = omega (arith, v.left, ap length same, length-append ps (k ∷ []))

  module _ (table : IsStepTable ts) (roots_in : All (λ i. i < length ts) roots) (ds_in : All (λ i. i < length ts) ds)
      (ms : List Bool) (w : IsWalk ms []) where
    next : (i j : ℕ) → IsMarked ms i → StepLeadsTo ts ds i j → IsMarked ms j
    next i j m l = elim (w.followed i m) [ inl never ↦ absurd never | inr f ↦ f j l ]

    abbrev IsFound : Origin ℕ → Type 0
    IsFound o = (i : ℕ) × (i < length ts) × IsMarked ms i × (origin_at ts i ≡ o)

    part-found : (o p : Origin ℕ) → IsFound o → IsPartOf p o → IsFound p
    part-found o p f part =
        let here : IsPartOf p (origin_at ts f.0) = subst (IsPartOf p) (sym f.3) part in
        let r = table.closed f.0 p f.1 here in
        let low : r.0 < f.0 = r.1 in
        let within : r.0 < length ts = omega (arith, low, f.1) in
        (r.0, within, next f.0 r.0 f.2 (within, inl (subst (λ p. IsPartOf p (origin_at ts f.0)) (sym r.2) here)), r.2)

    found : (o : Origin ℕ) → IsReached (map (origin_at ts) roots) (map (origin_at ts) ds) o → IsFound o
    found o (Root q m) =
        let r = map-from ts roots q m in
        (r.0, all-member (length ts) roots roots_in r.0 r.1, w.begun r.0 r.1, r.2)
    found o (Operand q p r m) = part-found q p (found q r) (inl m)
    found o (OfTheorem j d r) = part-found (Outcome j d) d (found (Outcome j d) r) (inr (j, refl))
    found o (OfSymbol q d r m s) =
        let f = found q r in
        let k = map-from ts ds d m in
        let within = all-member (length ts) ds ds_in k.0 k.1 in
        (k.0, within, next f.0 k.0 f.2 (within, inr (map-at ts ds k.0 k.1, rw (f.3, k.2) s)), k.2)

    pub walk-end : MarksReached ts roots ds ms
    walk-end = record {
      length_is = w.length_is;
      marked = λ i within. (
        w.sound i,
        λ r.
            let f = found (origin_at ts i) r in
            subst (IsMarked ms) (origin_at-injective ts table.injective f.0 i f.1 within f.3) f.2,
      );
    }
