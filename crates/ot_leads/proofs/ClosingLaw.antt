-- What is found by sets is what the root leads to.
use Rattle.std.specs.Prelude.{slice_get, Some, slice_index, map}
use Rattle.std.proofs.Common.{◌≡◌, ℕ, ◌<◌, inl, inr, List, [], ◌∷◌, length, refl, sym, ap, subst, ◌∙◌, arith}
use Rattle.std.proofs.lemmas.Option.{slice_get_within, get_or_from_slice_get}
use Rattle.ot_logic.specs.Lists.{IsMember}
use Rattle.ot_logic.proofs.Members.{IsMember-get_or, IsMember-place}
use Rattle.ot_trace.specs.Origins.{Origin, Outcome, operands, symbols}
use Rattle.ot_trace.specs.Reach.{IsReached, Root, Operand, OfTheorem, OfSymbol}
use Rattle.ot_trace.specs.Trace.{origin_at, IsStepTable, IsPartOf}
use Rattle.ot_trace.proofs.EdgeLemmas.{map-at, map-from}
use Rattle.ot_trace.proofs.TraceLemmas.{origin_at-injective}
use Rattle.ot_leads.specs.Found.{IsFrom, IsFirst}
use Rattle.ot_leads.specs.Columns.{HasPlace, HasPart, IsWithin, Itself, Further}
use Rattle.ot_leads.specs.Leads.{IsMade, AreLeads}
use Rattle.ot_leads.specs.Closing.{IsLed, Start, Next}
use Rattle.ot_leads.specs.declared.finding.Leads as code
use Rattle.ot_leads.proofs.Firsts.{first-of}

module _ (ts : List (Origin ℕ)) (table : IsStepTable ts) (root : ℕ) (gs ds : List ℕ) (l : code.Leads)
    (a : AreLeads ts (root ∷ []) gs ds l) where
  abbrev at : ℕ → Origin ℕ
  at = origin_at ts

  abbrev From : ℕ → Type 0
  From = IsFrom ts ds root

  abbrev Met : ℕ → Type 0
  Met i = slice_get a.met i ≡ Some (Some i)

  met-within : (i : ℕ) → Met i → i < length ts
  met-within i m = let n = a.parts.length_is in let h = slice_get_within a.met i (Some i) m in omega (arith, n, h)

  made-met : (p : ℕ) → p < length ds → Met (slice_index ds p)
  made-met p h = a.parts.definitions_met (slice_index ds p) (IsMember-get_or ds p 0 h)

  -- ---- what is found is reached
  within-from : (i j : ℕ) → From i → IsWithin ts i j → From j
  within-from i _ r Itself = r
  within-from i _ r (Further j k w (here, inl (inl m))) = Operand (at j) (at k) (within-from i j r w) m
  within-from i _ r (Further j k w (here, inl (inr e))) =
      OfTheorem e.0 (at k) (subst (IsReached (at root ∷ []) (map at ds)) e.1 (within-from i j r w))
  within-from i _ r (Further j k w (here, inr s)) = absurd s.0

  made-from : (i p : ℕ) → From i → IsMade ts ds i p → From (slice_index ds p)
  made-from i p r (lt, first, inl e) = subst From (sym e) r
  made-from i p r (lt, first, inr m) =
      OfSymbol (at i) (at (slice_index ds p)) r
      (map-at ts ds (slice_index ds p) (IsMember-get_or ds p 0 lt)) m

  pub given-found : (i p : ℕ) → From i → i < length ts → HasPlace l.assumptions i p
      → (p < length gs) × From (slice_index gs p)
  given-found i p r h has =
      let o = a.assumptions.only i p h has in
      let given = o.3 in
      (given.0, subst From (sym given.1) (within-from i o.0 r o.2))

  pub made-found : (i p : ℕ) → From i → i < length ts → HasPlace l.definitions i p
      → (p < length ds) × IsFirst ds p × From (slice_index ds p)
  made-found i p r h has =
      let o = a.definitions.only i p h has in
      let made = o.3 in
      (made.0, made.1, made-from o.0 p (within-from i o.0 r o.2) made)

  pub led-from : (i : ℕ) → IsLed l ds root i → From i × (i < length ts)
  led-from _ Start = (Root (at root) (inl refl), met-within root (a.parts.roots_met root (inl refl)))
  led-from _ (Next i p led has) =
      let before = led-from i led in
      let found = made-found i p before.0 before.1 has in
      (found.2, met-within (slice_index ds p) (made-met p found.0))

  -- ---- what is reached is found
  abbrev Given : ℕ → Type 0
  Given p = (i : ℕ) × IsLed l ds root i × HasPlace l.assumptions i p

  abbrev Made : ℕ → Type 0
  Made p = (i : ℕ) × IsLed l ds root i × HasPlace l.definitions i p

  -- the number of an origin, all whose places are found
  record IsCovered (o : Origin ℕ) : Type 0 where
    number : ℕ
    is_o : at number ≡ o
    met : Met number
    given : (p : ℕ) → HasPlace l.assumptions number p → Given p
    made : (p : ℕ) → HasPlace l.definitions number p → Made p

  part-covered : (o p : Origin ℕ) (c : IsCovered o) → IsPartOf p (at c.number)
      → ((k : ℕ) → k < length ts → at k ≡ p → HasPart ts c.number k) → IsCovered p
  part-covered o p c part has =
      let h = met-within c.number c.met in
      let k = table.closed c.number p h part in
      let low = k.1 in
      let within : k.0 < length ts = omega (arith, low, h) in
      let there = has k.0 within k.2 in
      record {
        number = k.0;
        is_o = k.2;
        met = a.parts.parts_met c.number k.0 c.met there;
        given = λ q n. c.given q (a.assumptions.closed c.number k.0 q c.met there n);
        made = λ q n. c.made q (a.definitions.closed c.number k.0 q c.met there n);
      }

  covered : (o : Origin ℕ) → IsReached (at root ∷ []) (map at ds) o → IsCovered o
  covered o (Root _ (inl e)) = record {
    number = root;
    is_o = e;
    met = a.parts.roots_met root (inl refl);
    given = λ p n. (root, Start, n);
    made = λ p n. (root, Start, n);
  }
  covered o (Root _ (inr m)) = absurd m
  covered p (Operand o _ r m) =
      let c = covered o r in
      part-covered o p c (inl (subst (λ z. IsMember p (operands z)) (sym c.is_o) m))
      (λ k h e. (
        h,
        inl (inl (subst (λ z. IsMember z (operands (at c.number))) (sym e)
            (subst (λ z. IsMember p (operands z)) (sym c.is_o) m))),
      ))
  covered d (OfTheorem j _ r) =
      let c = covered (Outcome j d) r in
      part-covered (Outcome j d) d c (inr (j, c.is_o))
      (λ k h e. (h, inl (inr (j, c.is_o ∙ ap (Outcome j) (sym e)))))
  covered d (OfSymbol o _ r m s) =
      let c = covered o r in
      let e = map-from ts ds d m in
      let q = IsMember-place e.0 ds e.1 in
      let f = first-of ds q.0 (slice_get_within ds q.0 e.0 q.1) in
      let is_e : slice_index ds f.0 ≡ e.0 = f.3 ∙ get_or_from_slice_get ds q.0 e.0 0 q.1 in
      let is_d : at (slice_index ds f.0) ≡ d = ap at is_e ∙ e.2 in
      let symbol : IsMember (at c.number) (symbols (at (slice_index ds f.0))) =
      subst (λ z. IsMember z (symbols (at (slice_index ds f.0)))) (sym c.is_o)
      (subst (λ z. IsMember o (symbols z)) (sym is_d) s) in
      let has = a.definitions.own c.number f.0 (met-within c.number c.met) (f.1, f.2, inr symbol) in
      let found = c.made f.0 has in
      let led = Next found.0 f.0 found.1 found.2 in
      record {
        number = slice_index ds f.0;
        is_o = is_d;
        met = made-met f.0 f.1;
        given = λ p n. (slice_index ds f.0, led, n);
        made = λ p n. (slice_index ds f.0, led, n);
      }

  number-is : (i : ℕ) → i < length ts → (c : IsCovered (at i)) → c.number ≡ i
  number-is i h c = origin_at-injective ts table.injective c.number i (met-within c.number c.met) h c.is_o

  pub found-given : (p : ℕ) → p < length gs → From (slice_index gs p) → Given p
  found-given p h r =
      let i = slice_index gs p in
      let inside = a.given_inside p h in
      let c = covered (at i) r in
      c.given p (subst (λ k. HasPlace l.assumptions k p) (sym (number-is i inside c))
      (a.assumptions.own i p inside (h, refl)))

  pub found-made : (p : ℕ) → p < length ds → IsFirst ds p → From (slice_index ds p) → Made p
  found-made p h first r =
      let i = slice_index ds p in
      let inside = met-within i (made-met p h) in
      let c = covered (at i) r in
      c.made p (subst (λ k. HasPlace l.definitions k p) (sym (number-is i inside c))
      (a.definitions.own i p inside (h, first, inl refl)))
