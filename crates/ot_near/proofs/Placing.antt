-- Lemmas on tables of nodes that are near or far.
use Rattle.std.proofs.Common.{◌≡◌, ◌+◌, ℕ, zero, suc, ◌<◌, ◌≤◌, inl, inr, Bool, true, false, ◌&&◌, not, cond, nat_lt}
use Rattle.std.proofs.Common.{List, [], ◌∷◌}
use Rattle.std.proofs.Common.{◌++◌, length, slice_get, slice_index, position, Option, Some, None, refl, sym, ap}
use Rattle.std.proofs.Common.{subst, ◌∙◌, true≢false}
use Rattle.std.proofs.Common.{arith, IfSome, is_some, lt-ltb, le-ltb}
use mathlib.Core.Bool.{beq}
use Rattle.std.specs.Cmp.{IsEquivalence}
use Rattle.std.specs.List.{position_or_len}
use Rattle.std.specs.Map.{keys_of, lookup}
use Rattle.std.proofs.lemmas.Option.{none-some, same_Some, slice_get_within}
use Rattle.std.proofs.lemmas.Map.{NonePasses, none_passes_from_lookup}
use Rattle.std.proofs.lemmas.Map.Entries.{length-keys_of}
use Rattle.std.proofs.lemmas.List.Quantifiers.{position-Some}
use Rattle.indexmap.specs.IndexMap.{IndexMap, keys, get, insert_entry}
use Rattle.indexmap.proofs.CallerLemmas.{insert_entry-new, keys-insert_entry-present}
use Rattle.ot_logic.proofs.InternedLemmas.{slice_get-push}
use Rattle.ot_near.specs.declared.place.Placed.{Placed}
use Rattle.ot_near.specs.Table.{nodes_of, IsFull, IsNear, IsSoughtIn}

-- ---- tests
and_same : (a b : Bool) → (a ≡ true → b ≡ true) → (a && b) ≡ a
and_same true b h = h refl
and_same false b h = refl

and_false : (a b : Bool) → (a && b) ≡ false → a ≡ true → b ≡ false
and_false true b h p = h
and_false false b h p = absurd (true≢false (sym p))

parts : (a b : Bool) → (a && b) ≡ true → (a ≡ true) × (b ≡ true)
parts true true p = (refl, refl)
parts true false p = absurd (true≢false (sym p))
parts false b p = absurd (true≢false (sym p))

same_bool : (a b : Bool) → beq a b ≡ true → a ≡ b
same_bool true true p = refl
same_bool false false p = refl
same_bool true false p = absurd (true≢false (sym p))
same_bool false true p = absurd (true≢false (sym p))

same_beq : (a b : Bool) → a ≡ b → beq a b ≡ true
same_beq true true p = refl
same_beq false false p = refl
same_beq true false p = absurd (true≢false p)
same_beq false true p = absurd (true≢false (sym p))

not_near : (b : Bool) → beq false b ≡ false → true ≡ b
not_near true h = refl
not_near false h = absurd (true≢false h)

far_or_near : (b : Bool) → (b ≡ true → ⊥) → false ≡ b
far_or_near true h = absurd (h refl)
far_or_near false h = refl

-- ---- entries, whether near or far
module _ {K V : Type 0} where
  pub length-nodes : (es : List (Placed K × V)) → length (nodes_of es) ≡ length es
  length-nodes [] = refl
  length-nodes (e ∷ es) = ap suc (length-nodes es)

  pub node_at : (es : List (Placed K × V)) (i : ℕ) (p : Placed K) (v : V) → slice_get es i ≡ Some (p, v)
      → slice_get (nodes_of es) i ≡ Some (p.node, v)
  node_at [] i p v h = absurd (none-some _ h)
  node_at (e ∷ es) zero p v h =
      let first : e ≡ (p, v) = same_Some e (p, v) h in
      ap (λ (e : Placed K × V). Some (e.0.node, e.1)) first
  node_at (e ∷ es) (suc i) p v h = node_at es i p v h

  pub key_at : (es : List (Placed K × V)) (i : ℕ) (p : Placed K) (v : V) → slice_get es i ≡ Some (p, v)
      → slice_get (keys_of (nodes_of es)) i ≡ Some p.node
  key_at [] i p v h = absurd (none-some _ h)
  key_at (e ∷ es) zero p v h =
      let first : e ≡ (p, v) = same_Some e (p, v) h in
      ap (λ (e : Placed K × V). Some e.0.node) first
  key_at (e ∷ es) (suc i) p v h = key_at es i p v h

  pub length-keys : (es : List (Placed K × V)) → length (keys_of (nodes_of es)) ≡ length es
  length-keys [] = refl
  length-keys (e ∷ es) = ap suc (length-keys es)

  pub no_node_at : (es : List (Placed K × V)) (i : ℕ) → slice_get es i ≡ None → slice_get (nodes_of es) i ≡ None
  no_node_at [] i h = refl
  no_node_at (e ∷ es) zero h = absurd (none-some _ (sym h))
  no_node_at (e ∷ es) (suc i) h = no_node_at es i h

  nodes-cond : (b : Bool) (xs ys : List (Placed K × V)) → nodes_of (cond b xs ys) ≡ cond b (nodes_of xs) (nodes_of ys)
  nodes-cond true xs ys = refl
  nodes-cond false xs ys = refl

-- ---- the place of the first key that passes
module _ {K : Type 0} (test : K → Bool) where
  or_len_first : (ks : List K) (i : ℕ) (x : K) → slice_get ks i ≡ Some x → test x ≡ true
      → ((k : ℕ) → k < i → (y : K) → slice_get ks k ≡ Some y → test y ≡ false) → position_or_len test ks ≡ i
  or_len_first [] i x at hit miss = absurd (none-some _ at)
  or_len_first (y ∷ ys) zero x at hit miss =
      ap (λ b. cond (not b) (1 + position_or_len test ys) 0) (ap test (same_Some y x at) ∙ hit)
  or_len_first (y ∷ ys) (suc i) x at hit miss =
      ap (λ b. cond (not b) (1 + position_or_len test ys) 0) (miss 0 (omega arith) y refl)
      ∙ ap (λ n. 1 + n) (or_len_first ys i x at hit (λ k l z p. miss (suc k) (omega arith) z p)) ∙ omega arith

  pub position_first : (ks : List K) (i : ℕ) (x : K) → slice_get ks i ≡ Some x → test x ≡ true
      → ((k : ℕ) → k < i → (y : K) → slice_get ks k ≡ Some y → test y ≡ false) → position test ks ≡ Some i
  position_first ks i x at hit miss =
      ap (λ n. cond (nat_lt n (length ks)) (Some n) None) (or_len_first ks i x at hit miss)
      ∙ ap (λ b. cond b (Some i) None) (lt-ltb i (length ks) (slice_get_within ks i x at))

  or_len_none : (ks : List K) → ((k : ℕ) (y : K) → slice_get ks k ≡ Some y → test y ≡ false)
      → position_or_len test ks ≡ length ks
  or_len_none [] miss = refl
  or_len_none (y ∷ ys) miss =
      ap (λ b. cond (not b) (1 + position_or_len test ys) 0) (miss 0 y refl)
      ∙ ap (λ n. 1 + n) (or_len_none ys (λ k z p. miss (suc k) z p)) ∙ omega arith

  pub position_none : (ks : List K) → ((k : ℕ) (y : K) → slice_get ks k ≡ Some y → test y ≡ false)
      → position test ks ≡ None
  position_none ks miss =
      ap (λ n. cond (nat_lt n (length ks)) (Some n) None) (or_len_none ks miss)
      ∙ ap (λ b. cond b (Some (length ks)) None) (le-ltb (length ks) (length ks) (omega arith))

-- a key that is found is one of the entries
pub position_within : {K V : Type 0} (test : K → Bool) (es : List (K × V)) (k : K) (r : Option ℕ)
    → r ≡ position test (keys_of es) → IfSome r (λ i. i < length es)
position_within test es k None h = tt
position_within test es k (Some i) h =
    omega (arith, (position-Some test (keys_of es) i k (sym h)).0, length-keys_of es)

-- ---- users that are counted
pub push-≤ : (us : List ℕ) (n i : ℕ) → slice_index us i ≤ slice_index (us ++ n ∷ []) i
push-≤ [] n i = omega arith
push-≤ (u ∷ us) n zero = omega arith
push-≤ (u ∷ us) n (suc i) = push-≤ us n i

module _ (us vs : List ℕ) (more : (i : ℕ) → slice_index us i ≤ slice_index vs i) where
  IsFull-more : (n : Option ℕ) → IsFull us n → IsFull vs n
  IsFull-more None h = h
  IsFull-more (Some n) h = omega (arith, more n)

module _ {K : Type 0} (same : K → K → Bool) (greatest : K → Option ℕ) where
  -- the test of placed nodes
  abbrev pub same_placed : Placed K → Placed K → Bool
  same_placed p x = same p.node x.node && beq p.is_far x.is_far

  pub IsNear-more : (ps : List (Placed K)) (us vs : List ℕ) → ((i : ℕ) → slice_index us i ≤ slice_index vs i)
      → IsNear same greatest ps us → IsNear same greatest ps vs
  IsNear-more ps us vs more near = record {
    once = near.once;
    full = λ i x at far. IsFull-more us vs more (greatest x.node) (near.full i x at far);
  }

  -- at each of these the test of placed nodes is that of nodes
  abbrev Agree : Placed K → List (Placed K) → Type 0
  Agree p [] = Unit {0}
  Agree p (x ∷ xs) = (same_placed p x ≡ same p.node x.node) × Agree p xs

  agree : (p : Placed K) (ps : List (Placed K))
      → ((i : ℕ) (x : Placed K) → slice_get ps i ≡ Some x → same p.node x.node ≡ true → p.is_far ≡ x.is_far)
      → Agree p ps
  agree p [] h = tt
  agree p (x ∷ xs) h = (
    and_same (same p.node x.node) (beq p.is_far x.is_far) (λ e. same_beq p.is_far x.is_far (h 0 x refl e)),
    agree p xs (λ i y at. h (suc i) y at),
  )

  module _ {V : Type 0} (p : Placed K) where
    or_len-agree : (es : List (Placed K × V)) → Agree p (keys_of es)
        → position_or_len (same_placed p) (keys_of es) ≡ position_or_len (same p.node) (keys_of (nodes_of es))
    or_len-agree [] a = refl
    or_len-agree (e ∷ es) a = λ i. cond (not (a.0 i)) (1 + or_len-agree es a.1 i) 0

    length-keys-agree : (es : List (Placed K × V)) → length (keys_of es) ≡ length (keys_of (nodes_of es))
    length-keys-agree [] = refl
    length-keys-agree (e ∷ es) = ap suc (length-keys-agree es)

    position-agree : (es : List (Placed K × V)) → Agree p (keys_of es)
        → position (same_placed p) (keys_of es) ≡ position (same p.node) (keys_of (nodes_of es))
    position-agree es a =
        let n = or_len-agree es a in
        λ i. cond (nat_lt (n i) (length-keys-agree es i)) (Some (n i)) None

    insert-agree : (es : List (Placed K × V)) (v : V) → Agree p (keys_of es)
        → nodes_of (insert_entry same_placed es p v) ≡ insert_entry same (nodes_of es) p.node v
    insert-agree [] v a = refl
    insert-agree (e ∷ es) v a =
        ap (λ b. nodes_of (cond b ((e.0, v) ∷ es) (e ∷ insert_entry same_placed es p v))) a.0
        ∙ nodes-cond (same p.node e.0.node) ((e.0, v) ∷ es) (e ∷ insert_entry same_placed es p v)
        ∙ ap (λ l. cond (same p.node e.0.node) ((e.0.node, v) ∷ nodes_of es) ((e.0.node, e.1) ∷ l))
        (insert-agree es v a.1)

  -- a look-up of what is sought finds the node
  pub position-sought : {V : Type 0} (es : List (Placed K × V)) (us : List ℕ) (p : Placed K)
      → IsSoughtIn same greatest (keys_of es) us p
      → position (same_placed p) (keys_of es) ≡ position (same p.node) (keys_of (nodes_of es))
  position-sought es us p sought = position-agree p es (agree p (keys_of es) sought.alike)

  pub or_len-sought : {V : Type 0} (es : List (Placed K × V)) (us : List ℕ) (p : Placed K)
      → IsSoughtIn same greatest (keys_of es) us p
      → position_or_len (same_placed p) (keys_of es) ≡ position_or_len (same p.node) (keys_of (nodes_of es))
  or_len-sought es us p sought = or_len-agree p es (agree p (keys_of es) sought.alike)

  pub insert-sought : {V : Type 0} (es : List (Placed K × V)) (us : List ℕ) (p : Placed K) (v : V)
      → IsSoughtIn same greatest (keys_of es) us p
      → nodes_of (insert_entry same_placed es p v) ≡ insert_entry same (nodes_of es) p.node v
  insert-sought es us p v sought = insert-agree p es v (agree p (keys_of es) sought.alike)

  -- ---- the table with one more
  apart : {V : Type 0} (test : Placed K → Bool) (es : List (Placed K × V)) → NonePasses test es → (i : ℕ)
      (x : Placed K) → slice_get (keys_of es) i ≡ Some x → test x ≡ false
  apart test [] h i x p = absurd (none-some _ p)
  apart test (e ∷ es) h zero x p = ap test (sym (same_Some e.0 x p)) ∙ h.0
  apart test (e ∷ es) h (suc i) x p = apart test es h.1 i x p

  -- what a look-up finds
  found_at : {V : Type 0} (test : Placed K → Bool) (es : List (Placed K × V)) → is_some (lookup test es) ≡ true
      → (i : ℕ) × (x : Placed K) × (slice_get (keys_of es) i ≡ Some x) × (test x ≡ true)
  found_at test [] h = absurd (true≢false (sym h))
  found_at {V} test (e ∷ es) h = by (test e.0) refl
      (λ t. found_at test es (sym (ap (λ b. is_some (cond b (Some e.1) (lookup test es))) t) ∙ h))
    where
      by : (b : Bool) → test e.0 ≡ b
          → (test e.0 ≡ false → (i : ℕ) × (x : Placed K) × (slice_get (keys_of es) i ≡ Some x) × (test x ≡ true))
          → (i : ℕ) × (x : Placed K) × (slice_get (keys_of (e ∷ es)) i ≡ Some x) × (test x ≡ true)
      by true t later = (0, e.0, refl, t)
      by false t later = let rest = later t in (suc rest.0, rest.1, rest.2, rest.3)

  module _ (laws : IsEquivalence same) where
    IsNear-push : (ps : List (Placed K)) (us : List ℕ) (p : Placed K) → IsNear same greatest ps us
        → IsSoughtIn same greatest ps us p
        → ((i : ℕ) (x : Placed K) → slice_get ps i ≡ Some x → same p.node x.node ≡ false)
        → IsNear same greatest (ps ++ p ∷ []) us
    IsNear-push ps us p near sought new = record {
      once = λ i j x y a b e. elim (slice_get-push ps p i x a) [
        | inl c ↦ elim (slice_get-push ps p j y b) [
          | inl d ↦ near.once i j x y c d e
          | inr d ↦ absurd (true≢false (sym e ∙ laws.symm x.node y.node
              ∙ ap (λ (q : Placed K). same q.node x.node) (sym d.1) ∙ new i x c))
        ]
        | inr c ↦ elim (slice_get-push ps p j y b) [
          | inl d ↦ absurd (true≢false (sym e ∙ ap (λ (q : Placed K). same q.node y.node) (sym c.1) ∙ new j y d))
          | inr d ↦ c.0 ∙ sym d.0
        ]
      ];
      full = λ i x a far. elim (slice_get-push ps p i x a) [
        | inl c ↦ near.full i x c far
        | inr c ↦ subst (λ (q : Placed K). IsFull us (greatest q.node)) c.1
            (sought.full (ap (λ (q : Placed K). q.is_far) c.1 ∙ far))
      ];
    }

    -- the table after what is sought was put in
    pub IsNear-insert : {V S : Type 0} (m : IndexMap (Placed K) V S) (us : List ℕ) (p : Placed K) (v : V)
        → IsNear same greatest (keys m) us → IsSoughtIn same greatest (keys m) us p
        → (new : List (Placed K × V)) → new ≡ insert_entry same_placed m.entries p v
        → IsNear same greatest (keys_of new) us
    IsNear-insert {V} m us p v near sought new inserted = by (get same_placed m p) refl
      where
        by : (r : Option V) → get same_placed m p ≡ r → IsNear same greatest (keys_of new) us
        by (Some w) found =
            let stays : keys_of new ≡ keys m = ap keys_of inserted
            ∙ keys-insert_entry-present same_placed m p v (ap is_some found) in
            subst (λ ps. IsNear same greatest ps us) (sym stays) near
        by None none =
            let pushed : new ≡ m.entries ++ (p, v) ∷ [] = inserted ∙ insert_entry-new same_placed m p v none in
            let more : keys_of new ≡ keys m ++ p ∷ [] = ap keys_of pushed ∙ keys-push m.entries in
            subst (λ ps. IsNear same greatest ps us) (sym more)
            (IsNear-push (keys m) us p near sought
            (λ i x at. sym ((agree_at i x at)) ∙ apart (same_placed p) m.entries
            (none_passes_from_lookup (same_placed p) m.entries none) i x at))
          where
            keys-push : (es : List (Placed K × V)) → keys_of (es ++ (p, v) ∷ []) ≡ keys_of es ++ p ∷ []
            keys-push [] = refl
            keys-push (e ∷ es) = ap (λ l. e.0 ∷ l) (keys-push es)

            agree_at : (i : ℕ) (x : Placed K) → slice_get (keys m) i ≡ Some x
                → same_placed p x ≡ same p.node x.node
            agree_at i x at = and_same (same p.node x.node) (beq p.is_far x.is_far)
                (λ e. same_beq p.is_far x.is_far (sought.alike i x at e))

    -- ---- what is sought
    module _ (number : (x y : K) → same x y ≡ true → greatest x ≡ greatest y) where
      -- a number with few users has none that is far
      pub sought-few : (ps : List (Placed K)) (us : List ℕ) (n : K) → IsNear same greatest ps us
          → (IsFull us (greatest n) → ⊥) → IsSoughtIn same greatest ps us (record { node = n; is_far = false })
      sought-few ps us n near few = record {
        alike = λ i x at e. far_or_near x.is_far
            (λ far. few (subst (IsFull us) (sym (number n x.node e)) (near.full i x at far)));
        full = λ far. absurd (true≢false (sym far));
      }

      -- what is near isn't far
      pub sought-near : {V : Type 0} (es : List (Placed K × V)) (us : List ℕ) (n : K)
          → IsNear same greatest (keys_of es) us
          → is_some (lookup (same_placed (record { node = n; is_far = false })) es) ≡ true
          → IsSoughtIn same greatest (keys_of es) us (record { node = n; is_far = false })
      sought-near es us n near found =
          let there = found_at (same_placed (record { node = n; is_far = false })) es found in
          let y = there.1 in
          let both = parts (same n y.node) (beq false y.is_far) there.3 in
          record {
            alike = λ i x at e.
                let one : same x.node y.node ≡ true = sym (laws.congr n x.node y.node e) ∙ both.0 in
                let place : i ≡ there.0 = near.once i there.0 x y at there.2 one in
                let is : x ≡ y = same_Some x y (sym at ∙ ap (slice_get (keys_of es)) place ∙ there.2) in
                same_bool false y.is_far both.1 ∙ ap (λ (q : Placed K). q.is_far) (sym is);
            full = λ far. absurd (true≢false (sym far));
          }

      -- what isn't near, of a number with many users, is far
      pub sought-far : {V : Type 0} (es : List (Placed K × V)) (us : List ℕ) (n : K)
          → is_some (lookup (same_placed (record { node = n; is_far = false })) es) ≡ false
          → IsFull us (greatest n) → IsSoughtIn same greatest (keys_of es) us (record { node = n; is_far = true })
      sought-far es us n absent full = record {
        alike = λ i x at e. not_near x.is_far
            (and_false (same n x.node) (beq false x.is_far)
            (apart (same_placed (record { node = n; is_far = false })) es
            (none_passes_from_lookup (same_placed (record { node = n; is_far = false })) es
            (none_from (lookup (same_placed (record { node = n; is_far = false })) es) absent)) i x at) e);
        full = λ far. full;
      }
        where
          none_from : {A : Type 0} (r : Option A) → is_some r ≡ false → r ≡ None
          none_from None h = refl
          none_from (Some a) h = absurd (true≢false h)

      -- of a number with many users: far exactly where it isn't near
      pub sought-full : {V : Type 0} (es : List (Placed K × V)) (us : List ℕ) (n : K) (found : Bool)
          → IsNear same greatest (keys_of es) us → IsFull us (greatest n)
          → is_some (lookup (same_placed (record { node = n; is_far = false })) es) ≡ found
          → IsSoughtIn same greatest (keys_of es) us (record { node = n; is_far = not found })
      sought-full es us n true near full there = sought-near es us n near there
      sought-full es us n false near full absent = sought-far es us n absent full
