-- The walk to the parts of steps.
use Rattle.std.proofs.Common.{◌≡◌, ℕ, zero, suc, ◌+◌, ◌<◌, ◌⊎◌, inl, inr, List, [], ◌∷◌, ◌++◌, length, take}
use Rattle.std.proofs.Common.{slice_get, slice_set, get_or, Option, None, Some, refl, sym, ap, subst, ◌∙◌, arith}
use Rattle.std.proofs.Common.{length-append, replicate}
use Rattle.std.proofs.lemmas.List.{length-replicate}
use Rattle.std.proofs.lemmas.Option.{none-some, same_Some, slice_get-get_or, slice_get_within}
use Rattle.ot_logic.specs.Lists.{IsMember}
use Rattle.ot_logic.specs.Table.{IsInjective}
use Rattle.ot_logic.proofs.Members.{IsMember-last, IsMember-left, IsMember-push}
use Rattle.ot_trace.specs.Origins.{Origin}
use Rattle.ot_trace.specs.Trace.{IsBelow, origin_of}
use Rattle.ot_trace.specs.Walk.{IsPartNumber, IsNoted}
use Rattle.ot_trace.specs.declared.step.Step.{Step}
use Rattle.ot_trace.proofs.EdgeLemmas.{leads-to, leads-from}
use Rattle.ot_trace.proofs.NoteLemmas.{definers-none}
use Rattle.ot_trace.proofs.WalkLemmas.{taken}
use Rattle.ot_leads.specs.Columns.{HasPart, HasParts}
use Rattle.ot_leads.specs.Meeting.{IsMet, unmet, Meets}

abbrev Steps : Type 0
Steps = List (Option ℕ)

-- ---- a write
module _ {X : Type 0} where
  pub set-here : (xs : List X) (i : ℕ) (x : X) → i < length xs → slice_get (slice_set xs i x) i ≡ Some x
  set-here [] i x h = absurd (omega (arith, h))
  set-here (y ∷ xs) zero x h = refl
  set-here (y ∷ xs) (suc i) x h = set-here xs i x (omega (arith, h))

  set-keeps : (xs : List X) (i j : ℕ) (x y : X) → (j ≡ i → x ≡ y) → slice_get xs j ≡ Some y
      → slice_get (slice_set xs i x) j ≡ Some y
  set-keeps [] i j x y h p = p
  set-keeps (z ∷ xs) zero zero x y h p = ap Some (h refl)
  set-keeps (z ∷ xs) zero (suc j) x y h p = p
  set-keeps (z ∷ xs) (suc i) zero x y h p = p
  set-keeps (z ∷ xs) (suc i) (suc j) x y h p = set-keeps xs i j x y (λ e. h (ap suc e)) p

  pub set-only : (xs : List X) (i j : ℕ) (x y : X) → slice_get (slice_set xs i x) j ≡ Some y
      → (slice_get xs j ≡ Some y) ⊎ ((j ≡ i) × (x ≡ y))
  set-only [] i j x y p = inl p
  set-only (z ∷ xs) zero zero x y p = inr (refl, same_Some x y p)
  set-only (z ∷ xs) zero (suc j) x y p = inl p
  set-only (z ∷ xs) (suc i) zero x y p = inl p
  set-only (z ∷ xs) (suc i) (suc j) x y p = elim (set-only xs i j x y p) [
    | inl a ↦ inl a
    | inr e ↦ inr (ap suc e.0, e.1)
  ]

  pub set-length : (xs : List X) (i : ℕ) (x : X) → length (slice_set xs i x) ≡ length xs
  set-length [] i x = refl
  set-length (y ∷ xs) zero x = refl
  set-length (y ∷ xs) (suc i) x = ap suc (set-length xs i x)

  -- what stands in a list of copies
  pub copied : (n i : ℕ) (x y : X) → slice_get (replicate n x) i ≡ Some y → x ≡ y
  copied zero i x y p = absurd (none-some y p)
  copied (suc n) zero x y p = same_Some x y p
  copied (suc n) (suc i) x y p = copied n i x y p

  -- what was read
  pub read-at : (xs : List X) (i id : ℕ) (b c : X) → id < length xs → i ≡ id → b ≡ get_or xs i b → b ≡ c
      → slice_get xs id ≡ Some c
  read-at xs i id b c within same read is =
      slice_get-get_or xs id b within ∙ ap (λ i. Some (get_or xs i b)) (sym same) ∙ ap Some (sym read ∙ is)

unmet-set : (ms : Steps) (i k : ℕ) → slice_get ms i ≡ Some None → unmet ms ≡ suc (unmet (slice_set ms i (Some k)))
unmet-set [] i k p = absurd (none-some None p)
unmet-set (m ∷ ms) zero k p = ap (λ b. unmet (b ∷ ms)) (same_Some m None p)
unmet-set (None ∷ ms) (suc i) k p = ap suc (unmet-set ms i k p)
unmet-set (Some j ∷ ms) (suc i) k p = unmet-set ms i k p

-- ---- meetings
pub meets-new : (ms : Steps) (ps : List ℕ) (id : ℕ) → id < length ms → slice_get ms id ≡ Some None
    → Meets (λ i. i ≡ id) ms ps (slice_set ms id (Some id)) (ps ++ id ∷ [])
meets-new ms ps id within p = record {
  same_length = set-length ms id (Some id);
  met = λ i e. (
    id,
    subst (λ z. slice_get (slice_set ms id (Some id)) z ≡ Some (Some id)) (sym e)
        (set-here ms id (Some id) within),
  );
  kept = λ i m. elim (same-or i m) [ inl a ↦ a | inr a ↦ a ];
  only = λ i j m. elim (set-only ms id i (Some id) (Some j) m) [
    | inl a ↦ inl a
    | inr e ↦ inr (
      same_Some j id (sym e.1) ∙ sym e.0,
      e.0,
      subst (λ z. IsMember z (ps ++ id ∷ [])) (sym e.0) (IsMember-last id ps),
    )
  ];
  waits = λ i m. IsMember-left i ps (id ∷ []) m;
  each = λ i m. elim (IsMember-push i ps id m) [ inl a ↦ inl a | inr e ↦ inr (sym e) ];
  left = omega (arith, unmet-set ms id id p, length-append ps (id ∷ []));
}
  where
    same-or : (i : ℕ) → IsMet ms i → IsMet (slice_set ms id (Some id)) i ⊎ IsMet (slice_set ms id (Some id)) i
    same-or i m = inl (
      m.0,
      set-keeps ms id i (Some id) (Some m.0)
          (λ e. absurd (none-some m.0 (same_Some None (Some m.0) (sym p ∙ ap (slice_get ms) (sym e) ∙ m.1)))) m.1,
    )

pub meets-none : (A : ℕ → Type 0) (ms : Steps) (ps : List ℕ) → ((i : ℕ) → A i → IsMet ms i) → Meets A ms ps ms ps
meets-none A ms ps met = record {
  same_length = refl;
  met = met;
  kept = λ i m. m;
  only = λ i j m. inl m;
  waits = λ i m. m;
  each = λ i m. inl m;
  left = refl;
}

module _ (A B : ℕ → Type 0) where
  pub meets-as : (ms : Steps) (ps : List ℕ) (ns : Steps) (qs : List ℕ) → ((i : ℕ) → A i → B i)
      → ((i : ℕ) → B i → A i) → Meets A ms ps ns qs → Meets B ms ps ns qs
  meets-as ms ps ns qs to from v = record {
    same_length = v.same_length;
    met = λ i b. v.met i (from i b);
    kept = v.kept;
    only = λ i j m. elim (v.only i j m) [ inl a ↦ inl a | inr a ↦ inr (a.0, to i a.1, a.2) ];
    waits = v.waits;
    each = λ i m. elim (v.each i m) [ inl a ↦ inl a | inr a ↦ inr (to i a) ];
    left = v.left;
  }

  pub meets-then : (ms : Steps) (ps : List ℕ) (ns : Steps) (qs : List ℕ) (os : Steps) (rs : List ℕ)
      → Meets A ms ps ns qs → Meets B ns qs os rs → Meets (λ i. A i ⊎ B i) ms ps os rs
  meets-then ms ps ns qs os rs v w = record {
    same_length = w.same_length ∙ v.same_length;
    met = λ i a. elim a [ inl b ↦ w.kept i (v.met i b) | inr b ↦ w.met i b ];
    kept = λ i m. w.kept i (v.kept i m);
    only = λ i j m. elim (w.only i j m) [
      | inl a ↦ elim (v.only i j a) [ inl b ↦ inl b | inr b ↦ inr (b.0, inl b.1, w.waits i b.2) ]
      | inr a ↦ inr (a.0, inr a.1, a.2)
    ];
    waits = λ i m. w.waits i (v.waits i m);
    each = λ i m. elim (w.each i m) [
      | inl a ↦ elim (v.each i a) [ inl b ↦ inl b | inr b ↦ inr (inl b) ]
      | inr a ↦ inr (inr a)
    ];
    left = w.left ∙ v.left;
  }

pub meets-more : (ids : List ℕ) (i k : ℕ) (ms : Steps) (ps : List ℕ) (ns : Steps) (qs : List ℕ)
    (os : Steps) (rs : List ℕ) → i < length ids → k ≡ get_or ids i k
    → Meets (λ j. IsMember j (take i ids)) ms ps ns qs → Meets (λ j. j ≡ k) ns qs os rs
    → Meets (λ j. IsMember j (take (i + 1) ids)) ms ps os rs
meets-more ids i k ms ps ns qs os rs within item v w =
    let more = taken ids i k within item in
    meets-as _ _ ms ps os rs
    (λ j a. subst (IsMember j) (sym more)
    (elim a [
      | inl m ↦ IsMember-left j (take i ids) (k ∷ []) m
      | inr e ↦
          subst (λ j. IsMember j (take i ids ++ k ∷ [])) (sym e) (IsMember-last k (take i ids))
    ]))
    (λ j m. elim (IsMember-push j (take i ids) k (subst (IsMember j) more m)) [ inl a ↦ inl a | inr e ↦ inr (sym e) ])
    (meets-then _ _ ms ps ns qs os rs v w)

pub meets-first : (ids : List ℕ) (ms : Steps) (ps : List ℕ) → Meets (λ j. IsMember j (take 0 ids)) ms ps ms ps
meets-first [] ms ps = meets-none _ ms ps (λ i h. absurd h)
meets-first (x ∷ ids) ms ps = meets-none _ ms ps (λ i h. absurd h)

-- ---- parts by number
module _ (ts : List (Origin ℕ)) (one : IsInjective ts) (id : ℕ) (s : Step) (within : id < length ts)
    (get : slice_get ts id ≡ Some (origin_of ts s)) (below : IsBelow id s) where
  none : (i d : ℕ) → IsNoted [] [] i d → ⊥
  none i d (inl e) = none-some d e
  none i d (inr m) = m

  pub part-to : (j : ℕ) → IsPartNumber s j → HasPart ts id j
  part-to j m =
      leads-to ts one [] [] [] (definers-none ts) (λ i d n. absurd (none i d n)) id s within get below j (inl m)

  pub part-from : (j : ℕ) → HasPart ts id j → IsPartNumber s j
  part-from j m = elim (leads-from ts one [] [] [] (definers-none ts) (λ i d n. absurd (none i d n)) id s within get
      below j m) [ inl a ↦ a | inr n ↦ absurd (none id j n) ]

  pub met-parts : (ms : Steps) (ps : List ℕ) (ns : Steps) (qs : List ℕ) → Meets (IsPartNumber s) ms ps ns qs
      → Meets (HasPart ts id) ms ps ns qs
  met-parts ms ps ns qs v = meets-as _ _ ms ps ns qs part-to part-from v

pub empty-from : (xs : List ℕ) → length xs ≡ 0 → xs ≡ []
empty-from [] p = refl
empty-from (x ∷ xs) p = absurd (omega (arith, p))

none-all : (n i j : ℕ) → slice_get (replicate n (let none : Option ℕ = None in none)) i ≡ Some (Some j) → ⊥
none-all n i j p = none-some j (copied n i None (Some j) p)

-- ---- the walk as a whole
module _ (ts : List (Origin ℕ)) (roots ds : List ℕ) where
  pub record IsWalk (ms : Steps) (ps : List ℕ) : Type 0 where
    pub length_is : length ms ≡ length ts
    pub own : (i j : ℕ) → slice_get ms i ≡ Some (Some j) → j ≡ i
    pub waiting : (i : ℕ) → IsMember i ps → IsMet ms i
    pub followed : (i : ℕ) → IsMet ms i → IsMember i ps ⊎ ((j : ℕ) → HasPart ts i j → IsMet ms j)
    pub roots_met : (i : ℕ) → IsMember i roots → IsMet ms i
    pub definitions_met : (i : ℕ) → IsMember i ds → IsMet ms i

  pub walk-begin : (begin : Steps) → length begin ≡ length ts → ((i j : ℕ) → slice_get begin i ≡ Some (Some j) → ⊥)
      → (ms : Steps) (ps : List ℕ) → Meets (λ i. IsMember i roots ⊎ IsMember i ds) begin [] ms ps → IsWalk ms ps
  walk-begin begin long none ms ps v = record {
    length_is = v.same_length ∙ long;
    own = λ i j m. elim (v.only i j m) [ inl a ↦ absurd (none i j a) | inr a ↦ a.0 ];
    waiting = λ i m. elim (v.each i m) [ inl never ↦ absurd never | inr a ↦ v.met i a ];
    followed = λ i m. elim (v.only i m.0 m.1) [ inl a ↦ absurd (none i m.0 a) | inr a ↦ inl a.2 ];
    roots_met = λ i m. v.met i (inl m);
    definitions_met = λ i m. v.met i (inr m);
  }

  pub walk-first : (begin : Steps) (none : List ℕ) (ns : Steps) (qs : List ℕ) (ms : Steps) (n : ℕ) (ps : List ℕ)
      → begin ≡ replicate n None → none ≡ [] → n ≡ length ts → Meets (λ i. IsMember i roots) begin none ns qs
      → Meets (λ i. IsMember i ds) ns qs ms ps → IsWalk ms ps
  walk-first begin none ns qs ms n ps fresh empty long v w =
      walk-begin (replicate n None) (length-replicate n None ∙ long) (none-all n) ms ps
      (subst (λ b. Meets (λ i. IsMember i roots ⊎ IsMember i ds) b [] ms ps) fresh
      (subst (λ l. Meets (λ i. IsMember i roots ⊎ IsMember i ds) begin l ms ps) empty
      (meets-then _ _ begin none ns qs ms ps v w)))

  pub walk-step : (ms : Steps) (ps : List ℕ) (k : ℕ) (ns : Steps) (qs : List ℕ) → IsWalk ms (ps ++ k ∷ [])
      → Meets (HasPart ts k) ms ps ns qs → IsWalk ns qs
  walk-step ms ps k ns qs w v = record {
    length_is = v.same_length ∙ w.length_is;
    own = λ i j m. elim (v.only i j m) [ inl a ↦ w.own i j a | inr a ↦ a.0 ];
    waiting = λ i m. elim (v.each i m) [
      | inl a ↦ v.kept i (w.waiting i (IsMember-left i ps (k ∷ []) a))
      | inr a ↦ v.met i a
    ];
    followed = λ i m. elim (v.only i m.0 m.1) [
      | inl a ↦ elim (w.followed i (m.0, a)) [
        | inl b ↦ elim (IsMember-push i ps k b) [
          | inl d ↦ inl (v.waits i d)
          | inr e ↦ inr (λ j l. v.met j (subst (λ i. HasPart ts i j) (sym e) l))
        ]
        | inr b ↦ inr (λ j l. v.kept j (b j l))
      ]
      | inr a ↦ inl a.2
    ];
    roots_met = λ i m. v.kept i (w.roots_met i m);
    definitions_met = λ i m. v.kept i (w.definitions_met i m);
  }

  pub waiting-below : (ms : Steps) (ps olds : List ℕ) (k : ℕ) → olds ≡ ps ++ k ∷ [] → IsWalk ms olds → k < length ts
  waiting-below ms ps olds k same w =
      let m = w.waiting k (subst (IsMember k) (sym same) (IsMember-last k ps)) in
      subst (λ n. k < n) w.length_is (slice_get_within ms k (Some m.0) m.1)

  pub walk-less : (ms : Steps) (ps olds : List ℕ) (k : ℕ) (ns : Steps) (qs : List ℕ) → olds ≡ ps ++ k ∷ []
      → Meets (HasPart ts k) ms ps ns qs → unmet ns + length qs < unmet ms + length olds
  walk-less ms ps olds k ns qs same v = omega (arith, v.left, ap length same, length-append ps (k ∷ []))

  pub walk-end : (ms : Steps) → IsWalk ms [] → HasParts ts roots ds ms
  walk-end ms w = record {
    length_is = w.length_is;
    own = w.own;
    roots_met = λ i m. own-is i (w.roots_met i m);
    definitions_met = λ i m. own-is i (w.definitions_met i m);
    parts_met = λ i j m part. elim (w.followed i (i, m)) [
      | inl never ↦ absurd never
      | inr f ↦ own-is j (f j part)
    ];
  }
    where
      own-is : (i : ℕ) → IsMet ms i → slice_get ms i ≡ Some (Some i)
      own-is i m = m.1 ∙ ap (λ k. Some (Some k)) (w.own i m.0 m.1)
