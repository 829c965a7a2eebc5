-- The keys of steps, after one more is stored.
use Rattle.std.proofs.Common.{◌≡◌, ◌≢◌, ℕ, zero, suc, ◌<◌, ◌⊎◌, inl, inr, Bool, true, false}
use Rattle.std.proofs.Common.{not, cond, List, [], ◌∷◌, ◌++◌, map, set, length, slice_get}
use Rattle.std.proofs.Common.{slice_index_or, Option, None, Some, refl, sym, ap, ◌∙◌, arith}
use Rattle.std.specs.Prelude.{nat_eq}
use Rattle.std.specs.Bool.{Decides}
use Rattle.std.proofs.lemmas.List.{map-append, length-set, length-map}
use Rattle.std.proofs.lemmas.Bool.Decides.{eqb_tells, nat_tests}
use Rattle.std.specs.Option.{option_map, is_some}
use Rattle.ot_written.specs.Written as w
use Rattle.ot_trace.specs.Origins.{Origin}
use Rattle.ot_trace.specs.Trace.{IsStepTable, origin_at}
use Rattle.ot_write.specs.Emitting.{same, HasKeys, count_of}
use Rattle.ot_written.proofs.Same.{same-origin-law}
use Rattle.ot_logic.proofs.Elements.{slice_get-set_other, slice_get-set_same}

eq-is : (a b : ℕ) → Decides (nat_eq a b) (a ≡ b)
eq-is a b = (λ h. grind (arith, nat_tests), λ h. grind (arith, nat_tests))

pub same-is : (x y : Origin ℕ) → Decides (same x y) (x ≡ y)
same-is x y = same-origin-law nat_eq eq-is x y

abbrev or_last : Option ℕ → Bool → ℕ → Option ℕ
or_last (Some k) b n = Some k
or_last None b n = cond b (Some n) None

key-snoc : (p o : Origin ℕ) (ps : List (Origin ℕ)) → w.key_of same p (ps ++ o ∷ []) ≡ or_last (w.key_of same p ps)
    (same p o) (length ps)
key-snoc p o [] = go (same p o)
  where
    go : (b : Bool) → cond b (Some 0) (option_map suc (w.key_of same p [])) ≡ or_last None b 0
    go true = refl
    go false = refl
key-snoc p o (q ∷ ps) = go (same p q) (w.key_of same p ps) (key-snoc p o ps)
  where
    later : (r : Option ℕ) (b : Bool) (n : ℕ) → option_map suc (or_last r b n) ≡ or_last (option_map suc r) b (suc n)
    later (Some k) b n = refl
    later None true n = refl
    later None false n = refl

    go : (b : Bool) (r : Option ℕ) → w.key_of same p (ps ++ o ∷ []) ≡ or_last r (same p o) (length ps)
        → cond b (Some 0) (option_map suc (w.key_of same p (ps ++ o ∷ [])))
        ≡ or_last (cond b (Some 0) (option_map suc r)) (same p o) (suc (length ps))
    go true r e = refl
    go false r e = ap (option_map suc) e ∙ later r (same p o) (length ps)

module _ (ts : List (Origin ℕ)) (keys : List (Option ℕ)) (stored : List ℕ) (id : ℕ) (inside : id < length ts)
    (has : HasKeys ts keys stored) where
  more : (i : ℕ) → w.key_of same (origin_at ts i) (map (origin_at ts) (stored ++ id ∷ []))
      ≡ or_last (w.key_of same (origin_at ts i) (map (origin_at ts) stored)) (same (origin_at ts i) (origin_at ts id))
      (length stored)
  more i = ap (w.key_of same (origin_at ts i)) (map-append (origin_at ts) stored (id ∷ []))
      ∙ key-snoc (origin_at ts i) (origin_at ts id) (map (origin_at ts) stored)
      ∙ ap (or_last (w.key_of same (origin_at ts i) (map (origin_at ts) stored))
      (same (origin_at ts i) (origin_at ts id))) (length-map stored (origin_at ts))

  none-of : (j : ℕ) → slice_get keys j ≡ Some None → j < length ts
      → w.key_of same (origin_at ts j) (map (origin_at ts) stored) ≡ None
  none-of j p h = let q = has.each j h in
      let r : Some (w.key_of same (origin_at ts j) (map (origin_at ts) stored)) ≡ Some None = sym q ∙ p in cc

  -- the first time
  pub keys-first : ((i j : ℕ) → i < length ts → j < length ts → origin_at ts i ≡ origin_at ts j → i ≡ j)
      → slice_get keys id ≡ Some None → HasKeys ts (set keys id (Some (length stored))) (stored ++ id ∷ [])
  keys-first once free = record {
    long = length-set keys id (Some (length stored)) ∙ has.long;
    each = λ i h. elim (eqb_tells i id) [
      | inl e ↦
          let self : same (origin_at ts i) (origin_at ts id) ≡ true =
          (same-is (origin_at ts i) (origin_at ts id)).1 (ap (origin_at ts) e.1) in
          let empty : w.key_of same (origin_at ts i) (map (origin_at ts) stored) ≡ None =
          none-of i (ap (slice_get keys) e.1 ∙ free) h in
          let there : slice_get (set keys id (Some (length stored))) i ≡ Some (Some (length stored)) =
          ap (slice_get (set keys id (Some (length stored)))) e.1
          ∙ slice_get-set_same keys id (Some (length stored)) (omega (arith, has.long)) in
          there ∙ ap Some (sym (more i ∙ rw (empty, self) refl))
      | inr e ↦
          let other : same (origin_at ts i) (origin_at ts id) ≡ false = differ i h e.1 in
          slice_get-set_other keys id i (Some (length stored)) e.1 ∙ has.each i h
          ∙ ap Some (sym
          (more i ∙ rw other (or_none (w.key_of same (origin_at ts i) (map (origin_at ts) stored)))))
    ];
  }
    where
      cases : (b : Bool) → (b ≡ true) ⊎ (b ≡ false)
      cases true = inl refl
      cases false = inr refl

      differ : (i : ℕ) → i < length ts → i ≢ id → same (origin_at ts i) (origin_at ts id) ≡ false
      differ i h n = elim (cases (same (origin_at ts i) (origin_at ts id)))
          [ inl e ↦ absurd (n (once i id h inside ((same-is (origin_at ts i) (origin_at ts id)).0 e))) | inr e ↦ e ]

      or_none : (r : Option ℕ) → or_last r false (length stored) ≡ r
      or_none None = refl
      or_none (Some k) = refl

  -- once more: the first key counts
  pub keys-again : (k : ℕ) → ((i j : ℕ) → i < length ts → j < length ts → origin_at ts i ≡ origin_at ts j → i ≡ j)
      → slice_get keys id ≡ Some (Some k) → HasKeys ts keys (stored ++ id ∷ [])
  keys-again k once held = record {
    long = has.long;
    each = λ i h. has.each i h ∙ ap Some (sym (more i ∙ same_key i h (same (origin_at ts i) (origin_at ts id)) refl));
  }
    where
      keep_some : (r : Option ℕ) (b : Bool) → r ≡ Some k → or_last r b (length stored) ≡ r
      keep_some None b e = absurd (cc)
      keep_some (Some j) b e = refl

      or_none : (r : Option ℕ) → or_last r false (length stored) ≡ r
      or_none None = refl
      or_none (Some k) = refl

      same_key : (i : ℕ) → i < length ts → (b : Bool) → same (origin_at ts i) (origin_at ts id) ≡ b
          → or_last (w.key_of same (origin_at ts i) (map (origin_at ts) stored)) b (length stored)
          ≡ w.key_of same (origin_at ts i) (map (origin_at ts) stored)
      same_key i h false e = or_none (w.key_of same (origin_at ts i) (map (origin_at ts) stored))
      same_key i h true e =
          let one : origin_at ts i ≡ origin_at ts id = (same-is (origin_at ts i) (origin_at ts id)).0 e in
          let q : Some (w.key_of same (origin_at ts id) (map (origin_at ts) stored)) ≡ Some (Some k) =
          sym (has.each id inside) ∙ held in
          let r : w.key_of same (origin_at ts id) (map (origin_at ts) stored) ≡ Some k = cc in
          keep_some (w.key_of same (origin_at ts i) (map (origin_at ts) stored)) true
          (ap (λ z. w.key_of same z (map (origin_at ts) stored)) one ∙ r)

pub get-of : {X : Type 0} (xs : List X) (i : ℕ) (x : X) → i < length xs → x ≡ slice_index_or xs i x
    → slice_get xs i ≡ Some x
get-of [] i x h p = absurd (omega arith)
get-of (y ∷ xs) zero x h p = ap Some (sym p)
get-of (y ∷ xs) (suc i) x h p = get-of xs i x (omega arith) p

-- what stands at a place, where it has another name
pub read-at : {X : Type 0} (xs : List X) (i j : ℕ) (x : X) → i ≡ j → x ≡ slice_index_or xs i x
    → x ≡ slice_index_or xs j x
read-at xs i j x e p = p ∙ ap (λ z. slice_index_or xs z x) e

pub origin-here : (ts : List (Origin ℕ)) (i : ℕ) → i < length ts → slice_get ts i ≡ Some (origin_at ts i)
origin-here [] i h = absurd (omega arith)
origin-here (t ∷ ts) zero h = refl
origin-here (t ∷ ts) (suc i) h = origin-here ts i (omega arith)

-- each origin stands once
pub once-at : (ts : List (Origin ℕ)) → IsStepTable ts → (i j : ℕ) → i < length ts → j < length ts
    → origin_at ts i ≡ origin_at ts j → i ≡ j
once-at ts table i j h k e =
    table.injective.same i j (origin_at ts i) (origin-here ts i h) (origin-here ts j k ∙ ap Some (sym e))

module _ (ts : List (Origin ℕ)) (table : IsStepTable ts) (keys : List (Option ℕ)) (stored : List ℕ) (id : ℕ)
    (inside : id < length ts) (has : HasKeys ts keys stored) (place : ℕ) (here : place ≡ id) (x : Option ℕ)
    (at : x ≡ slice_index_or keys place x) (new : List ℕ) (added : new ≡ stored ++ id ∷ []) where
  at-id : x ≡ slice_index_or keys id x
  at-id = read-at keys place id x here at

  pub stored-first : (n : ℕ) → n ≡ length stored → x ≡ None → HasKeys ts (set keys place (Some n)) new
  stored-first n e none =
      rw (here, e, added)
      (keys-first ts keys stored id inside has (once-at ts table) (get-of keys id x (omega (arith, has.long)) at-id
      ∙ ap Some none))

  pub stored-again : (k : ℕ) → x ≡ Some k → HasKeys ts keys new
  stored-again k some =
      rw added (keys-again ts keys stored id inside has k (once-at ts table)
      (get-of keys id x (omega (arith, has.long)) at-id ∙ ap Some some))

pub none-from : (x : Option ℕ) (b : Bool) → is_some x ≡ not b → b ≡ true → x ≡ None
none-from None b p q = refl
none-from (Some k) true p q = absurd (cc)
none-from (Some k) false p q = absurd (cc)

pub some-from : (x : Option ℕ) (b : Bool) → is_some x ≡ not b → b ≡ false → (k : ℕ) × (x ≡ Some k)
some-from (Some k) b p q = (k, refl)
some-from None true p q = absurd (cc)
some-from None false p q = absurd (cc)

-- ---- counts

cases : (b : Bool) → (b ≡ true) ⊎ (b ≡ false)
cases true = inl refl
cases false = inr refl

-- the count of the tree at a place
pub count-at : (ts : List (Origin ℕ)) (cs : List ℕ) (i c : ℕ)
    → ((j k : ℕ) → j < length ts → k < length ts → origin_at ts j ≡ origin_at ts k → j ≡ k) → i < length ts
    → slice_get cs i ≡ Some c → count_of ts cs (origin_at ts i) ≡ c
count-at [] cs i c once h g = absurd (omega arith)
count-at (t ∷ ts) [] i c once h g = absurd (cc)
count-at (t ∷ ts) (d ∷ cs) zero c once h g = let e : d ≡ c = cc in rw ((same-is t t).1 refl) e
count-at (t ∷ ts) (d ∷ cs) (suc i) c once h g = elim (cases (same t (origin_at ts i))) [
  | inl e ↦ let q : 0 ≡ suc i = once 0 (suc i) (omega arith) h ((same-is t (origin_at ts i)).0 e) in absurd (cc)
  | inr e ↦
      rw e (count-at ts cs i c (λ j k a b p. let r : suc j ≡ suc k = once (suc j) (suc k) (omega arith) (omega arith)
      p in omega arith) (omega arith) g)
]

-- none where the tree isn't there
pub count-none : (ts : List (Origin ℕ)) (cs : List ℕ) (o : Origin ℕ) → ((i : ℕ) → i < length ts → origin_at ts i ≢ o)
    → count_of ts cs o ≡ 0
count-none [] cs o h = refl
count-none (t ∷ ts) [] o h = refl
count-none (t ∷ ts) (d ∷ cs) o h = elim (cases (same t o)) [
  | inl e ↦ absurd (h 0 (omega arith) ((same-is t o).0 e))
  | inr e ↦ rw e (count-none ts cs o (λ i l. h (suc i) (omega arith)))
]
