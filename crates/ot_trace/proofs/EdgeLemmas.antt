-- Lemmas on what a step leads to.
use Rattle.std.proofs.Common.{◌≡◌, ℕ, ◌<◌, ◌⊎◌, inl, inr, List, [], ◌∷◌, length, map}
use Rattle.std.proofs.Common.{slice_get, Some, pos, refl, sym, ap, subst, arith}
use Rattle.std.specs.List.{All}
use Rattle.std.proofs.lemmas.Option.{get_or_from_slice_get, slice_get-get_or}
use Rattle.std.proofs.lemmas.List.Elements.{All-head, All-tail}
use Rattle.ot_logic.specs.Lists.{IsMember}
use Rattle.ot_logic.specs.Table.{IsInjective}
use Rattle.ot_logic.proofs.InternedLemmas.{entry_at}
use Rattle.ot_trace.specs.Origins.{Origin, Number, Named, Make, Define, Outcome, listed}
use Rattle.ot_trace.specs.Trace.{origin_at, origins_at, origin_of, IsBelow}
use Rattle.ot_trace.specs.Trace.{HasSymbols, IsPartOf, IsStepTable, IsTrace}
use Rattle.ot_trace.specs.Walk.{IsPartNumber, IsNoted, AreDefiners, StepLeadsTo}
use Rattle.ot_trace.specs.declared.step.Step.{Step}
use Rattle.ot_trace.specs.declared.step.Step.TheVariants as steps
use Rattle.ot_trace.proofs.TraceLemmas.{step_eq, laws, origin_at-injective}

-- ---- members of the origins of numbers
pub listed-at : (ts : List (Origin ℕ)) (is : List ℕ) (j : ℕ) → IsMember j is
    → IsMember (origin_at ts j) (listed (origins_at ts is))
listed-at ts [] j m = absurd m
listed-at ts (i ∷ is) j (inl e) = inl (ap (origin_at ts) e)
listed-at ts (i ∷ is) j (inr m) = inr (listed-at ts is j m)

pub listed-from : (ts : List (Origin ℕ)) (is : List ℕ) (p : Origin ℕ) → IsMember p (listed (origins_at ts is))
    → (k : ℕ) × IsMember k is × (origin_at ts k ≡ p)
listed-from ts [] p m = absurd m
listed-from ts (i ∷ is) p (inl e) = (i, inl refl, e)
listed-from ts (i ∷ is) p (inr m) = let r = listed-from ts is p m in (r.0, inr r.1, r.2)

pub map-at : (ts : List (Origin ℕ)) (is : List ℕ) (j : ℕ) → IsMember j is
    → IsMember (origin_at ts j) (map (origin_at ts) is)
map-at ts [] j m = absurd m
map-at ts (i ∷ is) j (inl e) = inl (ap (origin_at ts) e)
map-at ts (i ∷ is) j (inr m) = inr (map-at ts is j m)

pub map-from : (ts : List (Origin ℕ)) (is : List ℕ) (p : Origin ℕ) → IsMember p (map (origin_at ts) is)
    → (k : ℕ) × IsMember k is × (origin_at ts k ≡ p)
map-from ts [] p m = absurd m
map-from ts (i ∷ is) p (inl e) = (i, inl refl, e)
map-from ts (i ∷ is) p (inr m) = let r = map-from ts is p m in (r.0, inr r.1, r.2)

pub all-member : (n : ℕ) (is : List ℕ) → All (λ i. i < n) is → (j : ℕ) → IsMember j is → j < n
all-member n [] h j m = absurd m
all-member n (i ∷ is) h j (inl e) = subst (λ j. j < n) e (All-head (λ i. i < n) i is h)
all-member n (i ∷ is) h j (inr m) = all-member n is (All-tail (λ i. i < n) i is h) j m

-- ---- parts
part-to : (ts : List (Origin ℕ)) (s : Step) (j : ℕ) → IsPartNumber s j → IsPartOf (origin_at ts j) (origin_of ts s)
part-to ts (steps.Number k) j m = absurd m
part-to ts (steps.Name n) j m = absurd m
part-to ts (steps.Make w ops) j m = inl (listed-at ts ops j m)
part-to ts (steps.Define w ops syms) j m = inl (listed-at ts ops.value.items j m)
part-to ts (steps.Outcome i d) j e = inr (i, ap (λ k. Outcome i (origin_at ts k)) (sym e))

part-from : (ts : List (Origin ℕ)) (s : Step) (p : Origin ℕ) → IsPartOf p (origin_of ts s)
    → (k : ℕ) × IsPartNumber s k × (origin_at ts k ≡ p)
part-from ts (steps.Number k) p (inl m) = absurd m
part-from ts (steps.Number k) p (inr e) = let q : Number k ≡ Outcome e.0 p = e.1 in cc
part-from ts (steps.Name n) p (inl m) = absurd m
part-from ts (steps.Name n) p (inr e) = let q : Named n ≡ Outcome e.0 p = e.1 in cc
part-from ts (steps.Make w ops) p (inl m) = listed-from ts ops p m
part-from ts (steps.Make w ops) p (inr e) = let q : Make w (origins_at ts ops) ≡ Outcome e.0 p = e.1 in cc
part-from ts (steps.Define w ops syms) p (inl m) = listed-from ts ops.value.items p m
part-from ts (steps.Define w ops syms) p (inr e) = let q : Define w (origins_at ts ops.value.items) ≡ Outcome e.0 p = e.1 in
    cc
part-from ts (steps.Outcome i d) p (inl m) = absurd m
part-from ts (steps.Outcome i d) p (inr e) =
    let q : Outcome i (origin_at ts d) ≡ Outcome e.0 p = e.1 in
    let r : origin_at ts d ≡ p = cc in
    (d, refl, r)

part-below : (n : ℕ) (s : Step) (k : ℕ) → IsBelow n s → IsPartNumber s k → k < n
part-below n (steps.Number j) k h m = absurd m
part-below n (steps.Name j) k h m = absurd m
part-below n (steps.Make w ops) k h m = all-member n ops h k m
part-below n (steps.Define w ops syms) k h m = all-member n ops.value.items h.0 k m
part-below n (steps.Outcome i d) k h e = subst (λ k. k < n) (sym e) h

-- ---- what holds of a table
pub step_table : (es : List (Step × Unit {0})) (ts : List (Origin ℕ)) → IsTrace es ts → IsStepTable ts
step_table es ts sound = record {
  injective = sound.injective;
  closed = λ i p within part.
      let e = entry_at origin_of IsBelow (λ ts s (u : Unit {0}). HasSymbols ts s) step_eq laws es ts sound i
      (origin_at ts i) (slice_get-get_or ts i (Number (pos 0)) within) in
      let entry = sound.entries i e.0 e.1 e.2 in
      let tree : origin_at ts i ≡ origin_of ts e.0 = get_or_from_slice_get ts i _ (Number (pos 0)) entry.tree in
      let r = part-from ts e.0 p (subst (IsPartOf p) tree part) in
      (r.0, part-below i e.0 r.0 entry.below r.1, r.2);
}

-- ---- what a step leads to
module _ (ts : List (Origin ℕ)) (one : IsInjective ts) (ds : List ℕ) (first further : List (ℕ × ℕ))
    (known : AreDefiners ts ds first further)
    (inside : (s d : ℕ) → IsNoted first further s d → d < length ts) (id : ℕ) (s : Step) (within : id < length ts)
    (get : slice_get ts id ≡ Some (origin_of ts s)) (below : IsBelow id s) where
  tree : origin_at ts id ≡ origin_of ts s
  tree = get_or_from_slice_get ts id _ (Number (pos 0)) get

  pub leads-to : (j : ℕ) → IsPartNumber s j ⊎ IsNoted first further id j → StepLeadsTo ts ds id j
  leads-to j (inl a) =
      let low : j < id = part-below id s j below a in
      (omega (arith, low, within), inl (subst (IsPartOf (origin_at ts j)) (sym tree) (part-to ts s j a)))
  leads-to j (inr b) = (inside id j b, inr (map-at ts ds j (known.sound id j b).0, (known.sound id j b).1))

  pub leads-from : (j : ℕ) → StepLeadsTo ts ds id j → IsPartNumber s j ⊎ IsNoted first further id j
  leads-from j (here, inl part) =
      let r = part-from ts s (origin_at ts j) (subst (IsPartOf (origin_at ts j)) tree part) in
      let low : r.0 < id = part-below id s r.0 below r.1 in
      let same : r.0 ≡ j = origin_at-injective ts one r.0 j (omega (arith, low, within)) here r.2 in
      inl (subst (IsPartNumber s) same r.1)
  leads-from j (here, inr symbol) =
      let r = map-from ts ds (origin_at ts j) symbol.0 in
      let same : r.0 ≡ j = origin_at-injective ts one r.0 j (known.inside r.0 r.1) here r.2 in
      inr (known.all id j within (subst (λ d. IsMember d ds) same r.1) symbol.1)
