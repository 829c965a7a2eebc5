-- What is noted of steps: the places of a list, a definition with its symbols, the parts of a step.
use Rattle.std.specs.Prelude.{◌↔◌, slice_index, pos, Some, slice_get}
use Rattle.std.proofs.Common.{◌≡◌, ℕ, ◌+◌, ◌<◌, ◌⊎◌, inl, inr, List, [], ◌∷◌, length, map, take}
use Rattle.std.proofs.Common.{refl, sym, ap, subst, ◌∙◌, arith, get_or}
use Rattle.std.proofs.lemmas.Bool.Decides.{eqb_tells}
use Rattle.std.proofs.lemmas.List.{get_or_default, get_or_read}
use Rattle.std.proofs.lemmas.Option.{get_or_from_slice_get}
use Rattle.ot_logic.specs.Lists.{IsMember}
use Rattle.ot_logic.specs.Table.{IsInjective}
use Rattle.ot_trace.specs.Origins.{Origin, Number, symbols}
use Rattle.ot_trace.specs.Trace.{origin_at, origin_of, IsBelow, HasSymbols}
use Rattle.ot_trace.specs.Walk.{symbol_numbers, IsPartNumber}
use Rattle.ot_trace.specs.declared.step.Step.{Step}
use Rattle.ot_trace.specs.declared.step.Step.TheVariants as steps
use Rattle.ot_trace.proofs.EdgeLemmas.{map-at, map-from, all-member}
use Rattle.ot_trace.proofs.TraceLemmas.{origin_at-injective}
use Rattle.ot_leads.specs.Found.{IsFirst}
use Rattle.ot_leads.specs.Columns.{HasPlace, IsColumn, Gains, HasPart}
use Rattle.ot_leads.specs.Leads.{IsDefined, IsGiven, IsMade}
use Rattle.ot_leads.specs.declared.column.Column.{Column}
use Rattle.ot_leads.proofs.ColumnLemmas.{gains-none, gains-as, gains-then, gains-more}
use Rattle.ot_leads.proofs.MeetLemmas.{part-to, part-from}

-- nothing of an empty list
pub gains-begin : (n : ℕ) (ids : List ℕ) (c : Column) (A : ℕ → ℕ → ℕ → Type 0) → IsColumn n c
    → Gains n c c (λ i p. (j : ℕ) × IsMember j (take 0 ids) × A j i p)
gains-begin n [] c A col = gains-none n c col (λ i p. (j : ℕ) × ⊥ × A j i p) (λ i p a. absurd a.1)
gains-begin n (x ∷ ids) c A col = gains-none n c col (λ i p. (j : ℕ) × ⊥ × A j i p) (λ i p a. absurd a.1)

-- ---- the places of a list
-- those before the k-th
abbrev pub IsGivenBelow : List ℕ → ℕ → ℕ → ℕ → Type 0
IsGivenBelow ids k i p = (p < k) × (slice_index ids p ≡ i)

pub given-more : (n : ℕ) (ids : List ℕ) (k x : ℕ) (c d e : Column) → x ≡ get_or ids k x → k < length ids
    → Gains n c d (IsGivenBelow ids k) → Gains n d e (λ i p. (i ≡ x) × (p ≡ k)) → Gains n c e (IsGivenBelow ids (k + 1))
given-more n ids k x c d e item within g h =
    gains-as n c e (λ i p. IsGivenBelow ids k i p ⊎ ((i ≡ x) × (p ≡ k))) (IsGivenBelow ids (k + 1)) to back
    (gains-then n c d e (IsGivenBelow ids k) (λ i p. (i ≡ x) × (p ≡ k)) g h)
  where
    is : slice_index ids k ≡ x
    is = sym (get_or_read ids k x within item 0)

    to : (i p : ℕ) → i < n → IsGivenBelow ids k i p ⊎ ((i ≡ x) × (p ≡ k)) → IsGivenBelow ids (k + 1) i p
    to i p h (inl a) = (let low = a.0 in omega (arith, low), a.1)
    to i p h (inr a) = (let e = a.1 in omega (arith, e), ap (slice_index ids) a.1 ∙ is ∙ sym a.0)

    back : (i p : ℕ) → i < n → IsGivenBelow ids (k + 1) i p → IsGivenBelow ids k i p ⊎ ((i ≡ x) × (p ≡ k))
    back i p h a = elim (eqb_tells p k) [
      | inl e ↦ inr (sym a.1 ∙ ap (slice_index ids) e.1 ∙ is, e.1)
      | inr e ↦ inl (let ne = e.1 in let low = a.0 in omega (arith, ne, low), a.1)
    ]

pub given-begin : (n : ℕ) (ids : List ℕ) (c : Column) → IsColumn n c → Gains n c c (IsGivenBelow ids 0)
given-begin n ids c col =
    gains-none n c col (IsGivenBelow ids 0) (λ i p a. let low = a.0 in absurd (omega (arith, low)))

pub given-end : (n : ℕ) (ids : List ℕ) (k : ℕ) (c d : Column) → k ≡ length ids → Gains n c d (IsGivenBelow ids k)
    → Gains n c d (IsGiven ids)
given-end n ids k c d e g = subst (λ k. Gains n c d (IsGivenBelow ids k)) e g

-- ---- symbols
symbols-of : (ts : List (Origin ℕ)) (s : Step) → HasSymbols ts s
    → map (origin_at ts) (symbol_numbers s) ≡ symbols (origin_of ts s)
symbols-of ts (steps.Number k) h = refl
symbols-of ts (steps.Name n) h = refl
symbols-of ts (steps.Make w ops) h = refl
symbols-of ts (steps.Define w ops syms) h = h
symbols-of ts (steps.Outcome i d) h = refl

symbols-below : (n : ℕ) (s : Step) (k : ℕ) → IsBelow n s → IsMember k (symbol_numbers s) → k < n
symbols-below n (steps.Number j) k h m = absurd m
symbols-below n (steps.Name j) k h m = absurd m
symbols-below n (steps.Make w ops) k h m = absurd m
symbols-below n (steps.Define w ops syms) k h m = all-member n syms.value.items h.1 k m
symbols-below n (steps.Outcome i d) k h m = absurd m

module _ (ts : List (Origin ℕ)) (one : IsInjective ts) (d : ℕ) (s : Step) (within : d < length ts)
    (get : slice_get ts d ≡ Some (origin_of ts s)) (below : IsBelow d s) (has : HasSymbols ts s) where
  symbols-are : map (origin_at ts) (symbol_numbers s) ≡ symbols (origin_at ts d)
  symbols-are =
      symbols-of ts s has ∙ ap symbols (sym (get_or_from_slice_get ts d (origin_of ts s) (Number (pos 0)) get))

  -- the definition, then its symbols
  pub definition-noted : (b c e : Column) (place : ℕ) → Gains (length ts) b c (λ i p. (i ≡ d) × (p ≡ place))
      → Gains (length ts) c e (λ i p. IsMember i (symbol_numbers s) × (p ≡ place))
      → Gains (length ts) b e (λ i p. (p ≡ place) × IsDefined ts d i)
  definition-noted b c e place g h =
      gains-as (length ts) b e (λ i p. ((i ≡ d) × (p ≡ place)) ⊎ (IsMember i (symbol_numbers s) × (p ≡ place)))
      (λ i p. (p ≡ place) × IsDefined ts d i) to back
      (gains-then (length ts) b c e (λ i p. (i ≡ d) × (p ≡ place))
      (λ i p. IsMember i (symbol_numbers s) × (p ≡ place)) g h)
    where
      to : (i p : ℕ) → i < length ts → ((i ≡ d) × (p ≡ place)) ⊎ (IsMember i (symbol_numbers s) × (p ≡ place))
          → (p ≡ place) × IsDefined ts d i
      to i p here (inl a) = (a.1, inl (sym a.0))
      to i p here (inr a) =
          (a.1, inr (subst (IsMember (origin_at ts i)) symbols-are (map-at ts (symbol_numbers s) i a.0)))

      back : (i p : ℕ) → i < length ts → (p ≡ place) × IsDefined ts d i
          → ((i ≡ d) × (p ≡ place)) ⊎ (IsMember i (symbol_numbers s) × (p ≡ place))
      back i p here (e, inl q) = inl (sym q, e)
      back i p here (e, inr m) =
          let r = map-from ts (symbol_numbers s) (origin_at ts i)
          (subst (IsMember (origin_at ts i)) (sym symbols-are) m) in
          let low = symbols-below d s r.0 below r.1 in
          let same = origin_at-injective ts one r.0 i (omega (arith, low, within)) here r.2 in
          inr (subst (λ k. IsMember k (symbol_numbers s)) same r.1, e)

  -- the parts that the step names are those of its origin
  pub parts-gathered : (b c : Column)
      → Gains (length ts) b c (λ i p. (i ≡ d) × (j : ℕ) × IsPartNumber s j × HasPlace b j p)
      → Gains (length ts) b c (λ i p. (i ≡ d) × (j : ℕ) × HasPart ts d j × HasPlace b j p)
  parts-gathered b c g =
      gains-as (length ts) b c (λ i p. (i ≡ d) × (j : ℕ) × IsPartNumber s j × HasPlace b j p)
      (λ i p. (i ≡ d) × (j : ℕ) × HasPart ts d j × HasPlace b j p)
      (λ i p h a. (a.0, a.1, part-to ts one d s within get below a.1 a.2, a.3))
      (λ i p h a. (a.0, a.1, part-from ts one d s within get below a.1 a.2, a.3)) g

-- the places of definitions, one after another
pub definition-more : (ts : List (Origin ℕ)) (ds places : List ℕ) (k x : ℕ) (b c d : Column) → k < length places
    → slice_index places k < length ds → x ≡ get_or ds (slice_index places k) x
    → Gains (length ts) b c
    (λ i p. (j : ℕ) × IsMember j (take k places) × ((p ≡ j) × IsDefined ts (slice_index ds j) i))
    → Gains (length ts) c d (λ i p. (p ≡ slice_index places k) × IsDefined ts x i)
    → Gains (length ts) b d
    (λ i p. (j : ℕ) × IsMember j (take (k + 1) places) × ((p ≡ j) × IsDefined ts (slice_index ds j) i))
definition-more ts ds places k x b c d within inside item g h =
    let place = slice_index places k in
    gains-more (length ts) places k place b c d (λ j i p. (p ≡ j) × IsDefined ts (slice_index ds j) i) within
    (get_or_default places k 0 place within) g
    (subst (λ z. Gains (length ts) c d (λ i p. (p ≡ place) × IsDefined ts z i)) (get_or_read ds place x inside item 0)
    h)

pub definitions-all : (ts : List (Origin ℕ)) (ds places : List ℕ) (c d : Column)
    → Gains (length ts) c d (λ i p. (j : ℕ) × IsMember j places × ((p ≡ j) × IsDefined ts (slice_index ds j) i))
    → Gains (length ts) c d (λ i p. IsMember p places × IsDefined ts (slice_index ds p) i)
definitions-all ts ds places c d g =
    gains-as (length ts) c d
    (λ i p. (j : ℕ) × IsMember j places × ((p ≡ j) × IsDefined ts (slice_index ds j) i))
    (λ i p. IsMember p places × IsDefined ts (slice_index ds p) i) to (λ i p h a. (p, a.0, (refl, a.1))) g
  where
    to : (i p : ℕ) → i < length ts
        → (j : ℕ) × IsMember j places × ((p ≡ j) × IsDefined ts (slice_index ds j) i)
        → IsMember p places × IsDefined ts (slice_index ds p) i
    to i p h a =
        let same = a.2.0 in (
          subst (λ q. IsMember q places) (sym same) a.1,
          subst (λ q. IsDefined ts (slice_index ds q) i) (sym same) a.2.1,
        )

-- the first places are those of the definitions
pub made-all : (ts : List (Origin ℕ)) (ds firsts : List ℕ) (c d : Column)
    → ((p : ℕ) → IsMember p firsts ↔ ((p < length ds) × IsFirst ds p))
    → Gains (length ts) c d (λ i p. IsMember p firsts × IsDefined ts (slice_index ds p) i)
    → Gains (length ts) c d (IsMade ts ds)
made-all ts ds firsts c d are g =
    gains-as (length ts) c d (λ i p. IsMember p firsts × IsDefined ts (slice_index ds p) i) (IsMade ts ds)
    (λ i p h a. let first = (are p).0 a.0 in (first.0, first.1, a.1))
    (λ i p h a. ((are p).1 (a.0, a.1), a.2)) g

-- ---- parts that are joined one after another
-- a part below a step has what it had
pub join-more : (n id : ℕ) (parts : List ℕ) (k x : ℕ) (c d e : Column) → id < n → k < length parts
    → x ≡ get_or parts k x → x < id
    → Gains n c d (λ i p. (j : ℕ) × IsMember j (take k parts) × ((i ≡ id) × HasPlace c j p))
    → Gains n d e (λ i p. (i ≡ id) × HasPlace d x p)
    → Gains n c e (λ i p. (j : ℕ) × IsMember j (take (k + 1) parts) × ((i ≡ id) × HasPlace c j p))
join-more n id parts k x c d e inside within item low g h =
    gains-more n parts k x c d e (λ j i p. (i ≡ id) × HasPlace c j p) within item g
    (gains-as n d e (λ i p. (i ≡ id) × HasPlace d x p) (λ i p. (i ≡ id) × HasPlace c x p)
    (λ i p b a. (a.0, was p a.1)) (λ i p b a. (a.0, (g.leads x p here).1 (inl a.1))) h)
  where
    here : x < n
    here = omega (arith, low, inside)

    was : (p : ℕ) → HasPlace d x p → HasPlace c x p
    was p m = elim ((g.leads x p here).0 m) [
      | inl l ↦ l
      | inr a ↦ let e = a.2 in absurd (omega (arith, e, low))
    ]

pub join-all : (n id : ℕ) (parts : List ℕ) (c d : Column)
    → Gains n c d (λ i p. (j : ℕ) × IsMember j parts × ((i ≡ id) × HasPlace c j p))
    → Gains n c d (λ i p. (i ≡ id) × (j : ℕ) × IsMember j parts × HasPlace c j p)
join-all n id parts c d g =
    gains-as n c d (λ i p. (j : ℕ) × IsMember j parts × ((i ≡ id) × HasPlace c j p))
    (λ i p. (i ≡ id) × (j : ℕ) × IsMember j parts × HasPlace c j p) (λ i p h a. (a.2.0, a.0, a.1, a.2.1))
    (λ i p h a. (a.1, a.2, (a.0, a.3))) g

-- the places of a list at one place
pub note-all : (n place : ℕ) (ids : List ℕ) (c d : Column)
    → Gains n c d (λ i p. (j : ℕ) × IsMember j ids × ((i ≡ j) × (p ≡ place)))
    → Gains n c d (λ i p. IsMember i ids × (p ≡ place))
note-all n place ids c d g =
    gains-as n c d (λ i p. (j : ℕ) × IsMember j ids × ((i ≡ j) × (p ≡ place))) (λ i p. IsMember i ids × (p ≡ place))
    (λ i p h a. (subst (λ z. IsMember z ids) (sym a.2.0) a.1, a.2.1)) (λ i p h a. (i, a.0, (refl, a.1))) g

-- ---- the parts that a step names
module _ (n id : ℕ) (s : Step) (c d : Column) where
  -- those of a list
  pub parts-listed : (ids : List ℕ) → ((j : ℕ) → IsMember j ids → IsPartNumber s j)
      → ((j : ℕ) → IsPartNumber s j → IsMember j ids)
      → Gains n c d (λ i p. (i ≡ id) × (j : ℕ) × IsMember j ids × HasPlace c j p)
      → Gains n c d (λ i p. (i ≡ id) × (j : ℕ) × IsPartNumber s j × HasPlace c j p)
  parts-listed ids to back g =
      gains-as n c d (λ i p. (i ≡ id) × (j : ℕ) × IsMember j ids × HasPlace c j p)
      (λ i p. (i ≡ id) × (j : ℕ) × IsPartNumber s j × HasPlace c j p) (λ i p h a. (a.0, a.1, to a.1 a.2, a.3))
      (λ i p h a. (a.0, a.1, back a.1 a.2, a.3)) g

  -- the definition of a theorem
  pub part-only : (place part : ℕ) → s ≡ steps.Outcome place part
      → Gains n c d (λ i p. (i ≡ id) × HasPlace c part p)
      → Gains n c d (λ i p. (i ≡ id) × (j : ℕ) × IsPartNumber s j × HasPlace c j p)
  part-only place part is g =
      gains-as n c d (λ i p. (i ≡ id) × HasPlace c part p)
      (λ i p. (i ≡ id) × (j : ℕ) × IsPartNumber s j × HasPlace c j p)
      (λ i p h a. (a.0, part, subst (λ s. IsPartNumber s part) (sym is) refl, a.1))
      (λ i p h a. (a.0, subst (λ j. HasPlace c j p) (subst (λ s. IsPartNumber s a.1) is a.2) a.3)) g

  -- none
  pub parts-none : IsColumn n c → ((j : ℕ) → IsPartNumber s j → ⊥)
      → Gains n c c (λ i p. (i ≡ id) × (j : ℕ) × IsPartNumber s j × HasPlace c j p)
  parts-none col none =
      gains-none n c col (λ i p. (i ≡ id) × (j : ℕ) × IsPartNumber s j × HasPlace c j p) (λ i p a. none a.1 a.2)
