-- Chains of a list's places, made from its end on.
use Rattle.std.specs.Prelude.{nat_eq, slice_get, Some, None, Option}
use Rattle.std.specs.Map.{lookup}
use Rattle.std.specs.Option.{unwrap_or}
use Rattle.std.proofs.Common.{◌≡◌, ℕ, ◌+◌, ◌<◌, ◌≤◌, Bool, true, false, cond, List, [], length, set}
use Rattle.std.proofs.Common.{refl, sym, ap, subst, ◌∙◌, ◌⊎◌, inl, inr, arith, eqb-true, true≢false}
use Rattle.std.proofs.Math.ListN.{length-set}
use Rattle.std.proofs.lemmas.Bool.{and_parts, cases_lt}
use Rattle.std.proofs.lemmas.List.{get_or-set_same, get_or-set_other}
use Rattle.std.proofs.lemmas.Option.{same_Some, none-some}
use Rattle.ot_logic.proofs.Elements.{slice_get-low}
use Rattle.ot_kernel.specs.declared.candidates.Part.{Part}
use Rattle.ot_kernel.specs.declared.candidates.Part.TheVariants.{Bare, With}
use Rattle.ot_kernel.specs.Chains.{same_part, next_at, AreChainedFrom}

-- parts that pass the test are one
same_part-is : (p q : Part) → same_part p q ≡ true → p ≡ q
same_part-is (Bare c) (Bare d) e = ap Bare (eqb-true c d e)
same_part-is (With c h) (With d k) e =
    let parts = and_parts (nat_eq c d) (nat_eq h k) e in
    let concl = eqb-true c d parts.0 in
    let hyp = eqb-true h k parts.1 in
    λ i. With (concl i) (hyp i)
same_part-is (Bare c) (With d k) e = absurd (true≢false (sym e))
same_part-is (With c h) (Bare d) e = absurd (true≢false (sym e))

-- at the end of the list nothing is chained
pub chained-none : (parts : List Part) (firsts : List (Part × ℕ)) (nexts : List ℕ) → firsts ≡ []
    → length nexts ≡ length parts → AreChainedFrom (length parts) parts firsts nexts
chained-none parts firsts nexts none many = record {
  many = many;
  first = λ j p le at. let low = slice_get-low parts j p at in absurd (omega (arith, low, le));
  first_has = λ p f at. absurd (none-some f (sym (ap (lookup (same_part p)) none) ∙ at));
  next = λ i j p le lt at other. let low = slice_get-low parts i p at in absurd (omega (arith, low, le));
  next_has = λ i p le at lt. let low = slice_get-low parts i p at in absurd (omega (arith, low, le));
  rises = λ i le lt. absurd (omega (arith, le, lt));
}

-- the place n, before those from m on
module _ (parts : List Part) (n m : ℕ) (here : Part) (firsts more : List (Part × ℕ)) (nexts longer : List ℕ)
    (old : Option ℕ) (at : slice_get parts n ≡ Some here) (one : n + 1 ≡ m)
    (was : old ≡ lookup (same_part here) firsts)
    (new : (q : Part) → lookup (same_part q) more ≡ cond (same_part here q) (Some n) (lookup (same_part q) firsts))
    (self : lookup (same_part here) more ≡ Some n) (put : longer ≡ set nexts n (unwrap_or old (length parts)))
    (c : AreChainedFrom m parts firsts nexts) where
  short : n < length nexts
  short = let low = slice_get-low parts n here at in omega (arith, low, c.many)

  next-here : next_at longer n ≡ unwrap_or old (length parts)
  next-here = ap (λ ns. next_at ns n) put ∙ get_or-set_same nexts n (unwrap_or old (length parts)) 0 short

  next-other : (i : ℕ) → n < i → next_at longer i ≡ next_at nexts i
  next-other i lt = ap (λ ns. next_at ns i) put
      ∙ get_or-set_other nexts n i (unwrap_or old (length parts)) 0 (λ e. omega (arith, e, lt))

  -- n, or one of those from m on
  either : (i : ℕ) → n ≤ i → (n ≡ i) ⊎ ((n < i) × (m ≤ i))
  either i le = elim (cases_lt n i) [ inl lt ↦ inr (lt, omega (arith, one, lt)) | inr ge ↦ inl (omega (arith, le, ge)) ]

  is-here : (i : ℕ) (p : Part) → n ≡ i → slice_get parts i ≡ Some p → here ≡ p
  is-here i p e found = same_Some here p (sym at ∙ ap (slice_get parts) e ∙ found)

  -- what stands behind n
  target : (o : Option ℕ) → o ≡ lookup (same_part here) firsts
      → ((unwrap_or o (length parts) ≡ length parts) × (lookup (same_part here) firsts ≡ None))
      ⊎ ((m ≤ unwrap_or o (length parts)) × (slice_get parts (unwrap_or o (length parts)) ≡ Some here)
      × (lookup (same_part here) firsts ≡ Some (unwrap_or o (length parts))))
  target None e = inl (refl, sym e)
  target (Some f) e = let h = c.first_has here f (sym e) in inr (h.0, h.1, sym e)

  first-by : (b : Bool) (j : ℕ) (p : Part) → same_part here p ≡ b → n ≤ j
      → (f : ℕ) × (lookup (same_part p) firsts ≡ Some f) × (f ≤ j)
      → (f : ℕ) × (lookup (same_part p) more ≡ Some f) × (f ≤ j)
  first-by true j p e le old =
      (n, new p ∙ ap (λ b. cond b (Some n) (lookup (same_part p) firsts)) e, le)
  first-by false j p e le (f, found, h) =
      (f, new p ∙ ap (λ b. cond b (Some n) (lookup (same_part p) firsts)) e ∙ found, h)

  has-by : (b : Bool) (p : Part) (f : ℕ) → same_part here p ≡ b → lookup (same_part p) more ≡ Some f
      → (n ≤ f) × (slice_get parts f ≡ Some p)
  has-by true p f e found =
      let is : n ≡ f = same_Some n f
      (sym (new p ∙ ap (λ b. cond b (Some n) (lookup (same_part p) firsts)) e) ∙ found) in (
        omega (arith, is),
        ap (slice_get parts) (sym is) ∙ at ∙ ap Some (same_part-is here p e),
      )
  has-by false p f e found =
      let h = c.first_has p f
      (sym (new p ∙ ap (λ b. cond b (Some n) (lookup (same_part p) firsts)) e) ∙ found) in
      (omega (arith, h.0, one), h.1)

  pub chained-more : AreChainedFrom n parts more longer
  chained-more = record {
    many = ap length put ∙ length-set nexts n (unwrap_or old (length parts)) ∙ c.many;
    first = λ j p le found. elim (either j le) [
      | inl e ↦
          (n, subst (λ q. lookup (same_part q) more ≡ Some n) (is-here j p e found) self, le)
      | inr h ↦
          first-by (same_part here p) j p refl le (c.first j p h.1 found)
    ];
    first_has = λ p f found. has-by (same_part here p) p f refl found;
    next = λ i j p le lt found other. elim (either i le) [
      | inl e ↦ subst (λ k. next_at longer k ≤ j) e (first-next j p (omega (arith, e, lt)) (is-here i p e found) other)
      | inr h ↦ subst (λ k. k ≤ j) (sym (next-other i h.0)) (c.next i j p h.1 lt found other)
    ];
    next_has = λ i p le found lt. elim (either i le) [
      | inl e ↦
          subst (λ k. slice_get parts (next_at longer k) ≡ Some p) e
          (here-has p (is-here i p e found) (subst (λ k. next_at longer k < length parts) (sym e) lt))
      | inr h ↦
          subst (λ k. slice_get parts k ≡ Some p) (sym (next-other i h.0))
          (c.next_has i p h.1 found (subst (λ k. k < length parts) (next-other i h.0) lt))
    ];
    rises = λ i le lt. elim (either i le) [
      | inl e ↦ subst (λ k. k < next_at longer k) e here-rises
      | inr h ↦ subst (λ k. i < k) (sym (next-other i h.0)) (c.rises i h.1 lt)
    ];
  }
    where
      first-next : (j : ℕ) (p : Part) → n < j → here ≡ p → slice_get parts j ≡ Some p → next_at longer n ≤ j
      first-next j p lt same other =
          let low = c.first j here (omega (arith, lt, one)) (other ∙ ap Some (sym same)) in
          elim (target old was) [
            | inl t ↦ absurd (none-some low.0 (sym t.1 ∙ low.1))
            | inr t ↦
                let f = same_Some (unwrap_or old (length parts)) low.0 (sym t.2 ∙ low.1) in
                omega (arith, next-here, f, low.2)
          ]

      here-has : (p : Part) → here ≡ p → next_at longer n < length parts → slice_get parts (next_at longer n) ≡ Some p
      here-has p same lt = elim (target old was) [
        | inl t ↦ absurd (omega (arith, next-here, t.0, lt))
        | inr t ↦ ap (slice_get parts) next-here ∙ t.1 ∙ ap Some same
      ]

      here-rises : n < next_at longer n
      here-rises = elim (target old was) [
        | inl t ↦ let low = slice_get-low parts n here at in omega (arith, next-here, t.0, low)
        | inr t ↦
            omega (arith, next-here, t.0, one)
      ]
