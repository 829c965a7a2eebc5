-- A map by place: what is found at a term's place is what the pairs say of it.
use Rattle.std.specs.Prelude.{◌⊎◌, nat_eq}
use Rattle.std.proofs.Common.{◌≡◌, ◌≢◌, ◌<◌, ◌≤◌, ℕ, zero, suc, Bool, true, false, cond, get_or}
use Rattle.std.proofs.Common.{slice_set, true≢false, eq-eqb, arith, get_or-set_same}
use Rattle.std.proofs.Common.{get_or-set_other, length-set, Option, List, [], ◌∷◌, ◌++◌, length}
use Rattle.std.proofs.Common.{slice_get, Some, None, refl, sym, ap, subst, ◌∙◌, inl, inr, eqb-true}
use Rattle.std.specs.Map.{lookup}
use Rattle.std.proofs.lemmas.Option.{none-some, same_Some, slice_get_within, slice_get-get_or}
use Rattle.std.proofs.lemmas.Option.{get_or_from_slice_get, slice_get_read, slice_get_past}
use Rattle.ot_logic.specs.Lists.{IsMember}
use Rattle.ot_logic.specs.Table.{Extends}
use Rattle.ot_logic.proofs.InternedLemmas.{slice_get-push}
use Rattle.ot_subst.specs.Memory.{keys}
use Rattle.ot_subst.specs.Places.{ArePlaced}
use Rattle.ot_subst.proofs.Taken.{absent-member}

-- the pair that is looked up stands somewhere
place-of : (ps : List (ℕ × ℕ)) (id q : ℕ) → lookup (nat_eq id) ps ≡ Some q → (i : ℕ) × (slice_get ps i ≡ Some (id, q))
place-of [] id q h = absurd (none-some q h)
place-of (e ∷ es) id q h = go (nat_eq id e.0) refl h (place-of es id q)
  where
    go : (b : Bool) → nat_eq id e.0 ≡ b → cond b (Some e.1) (lookup (nat_eq id) es) ≡ Some q
        → (lookup (nat_eq id) es ≡ Some q → (i : ℕ) × (slice_get es i ≡ Some (id, q)))
        → (i : ℕ) × (slice_get (e ∷ es) i ≡ Some (id, q))
    go true p h f = (0, λ i. Some (sym (eqb-true id e.0 p) i, same_Some e.1 q h i))
    go false p h f = let (i, at) = f h in (suc i, at)

key-at : (ps : List (ℕ × ℕ)) (i : ℕ) (e : ℕ × ℕ) → slice_get ps i ≡ Some e → IsMember e.0 (keys ps)
key-at [] i e at = absurd (none-some e at)
key-at (p ∷ ps) zero e at = inl (ap (λ x. x.0) (same_Some p e at))
key-at (p ∷ ps) (suc i) e at = inr (key-at ps i e at)

set-kept : (xs : List ℕ) (i k x y : ℕ) → k ≢ i → slice_get xs k ≡ Some y → slice_get (slice_set xs i x) k ≡ Some y
set-kept xs i k x y other at =
    let within = slice_get_within xs k y at in
    slice_get-get_or (slice_set xs i x) k y (omega (arith, length-set xs i x, within))
    ∙ ap Some (get_or-set_other xs i k x y other ∙ get_or_from_slice_get xs k y y at)

set-there : (xs : List ℕ) (i x : ℕ) → i < length xs → slice_get (slice_set xs i x) i ≡ Some x
set-there xs i x within = slice_get-get_or (slice_set xs i x) i x (omega (arith, length-set xs i x, within))
    ∙ ap Some (get_or-set_same xs i x x within)

module _ (places : List ℕ) (ps : List (ℕ × ℕ)) (placed : ArePlaced places ps) (id : ℕ) where
  -- what stands at the place of a term, where it is of this term
  pub found : (i q : ℕ) → slice_get places id ≡ Some i → slice_get ps i ≡ Some (id, q)
      → Some q ≡ lookup (nat_eq id) ps
  found i q at here = go (lookup (nat_eq id) ps) refl
    where
      go : (o : Option ℕ) → lookup (nat_eq id) ps ≡ o → Some q ≡ lookup (nat_eq id) ps
      go None h = absurd (absent-member ps id h (key-at ps i (id, q) here))
      go (Some r) h =
          let (j, there) = place-of ps id r h in
          let same : j ≡ i = same_Some j i (sym (placed j (id, r) there) ∙ at) in
          let pair : (id, q) ≡ (id, r) =
          same_Some (id, q) (id, r) (sym here ∙ ap (slice_get ps) (sym same) ∙ there) in
          ap (λ e. Some e.1) pair ∙ sym h

  -- no pair, where none of this term stands at its place
  pub unfound : ((i q : ℕ) → slice_get places id ≡ Some i → slice_get ps i ≡ Some (id, q) → ⊥)
      → None ≡ lookup (nat_eq id) ps
  unfound none = go (lookup (nat_eq id) ps) refl
    where
      go : (o : Option ℕ) → lookup (nat_eq id) ps ≡ o → None ≡ lookup (nat_eq id) ps
      go None h = sym h
      go (Some r) h = let (i, at) = place-of ps id r h in absurd (none i r (placed i (id, r) at) at)

  -- one more pair, of a term that has none, and its place
  pub placed-push : (places' : List ℕ) (q : ℕ) → lookup (nat_eq id) ps ≡ None
      → ((k i : ℕ) → k ≢ id → slice_get places k ≡ Some i → slice_get places' k ≡ Some i)
      → slice_get places' id ≡ Some (length ps) → ArePlaced places' (ps ++ (id, q) ∷ [])
  placed-push places' q absent kept at i e h = go (slice_get-push ps (id, q) i e h)
    where
      go : (slice_get ps i ≡ Some e) ⊎ ((i ≡ length ps) × ((id, q) ≡ e)) → slice_get places' e.0 ≡ Some i
      go (inl old) =
          kept e.0 i (λ same. absent-member ps id absent (subst (λ k. IsMember k (keys ps)) same (key-at ps i e old)))
          (placed i e old)
      go (inr (last, new)) = subst (λ x. slice_get places' x.0 ≡ Some i) new (at ∙ ap Some (sym last))

  -- the same in a longer table of places
  pub placed-push-in : (longer : List ℕ) (index n q : ℕ) → Extends places longer → index ≡ id → index < length longer
      → n ≡ length ps → lookup (nat_eq id) ps ≡ None
      → ArePlaced (slice_set longer index n) (ps ++ (id, q) ∷ [])
  placed-push-in longer index n q more same within len absent =
      placed-push (slice_set longer index n) q absent
      (λ k i other at. set-kept longer index k n i (λ e. other (e ∙ same)) (more.keeps k i at))
      (subst (λ k. slice_get (slice_set longer index n) k ≡ Some (length ps)) same
      (set-there longer index n within ∙ ap Some len))

  -- as it is read: `index` is the number of the term, `n` and `m` the lengths of the tables
  at_index : (n index i : ℕ) → index ≡ id → n ≡ length places → index < n → i ≡ get_or places index i
      → slice_get places id ≡ Some i
  at_index n index i same long low is =
      subst (λ k. slice_get places k ≡ Some i) same (slice_get_read places n index i long low is)

  pub read-past : (n index : ℕ) → index ≡ id → n ≡ length places → n ≤ index → None ≡ lookup (nat_eq id) ps
  read-past n index same long past =
      unfound (λ i q at _. none-some i (sym (slice_get_past places id (omega (arith, same, long, past))) ∙ at))

  pub read-outside : (n m index i : ℕ) → index ≡ id → n ≡ length places → index < n → i ≡ get_or places index i
      → m ≡ length ps → m ≤ i → None ≡ lookup (nat_eq id) ps
  read-outside n m index i same long low is short past = unfound (λ j q at here.
      let e : i ≡ j = same_Some i j (sym (at_index n index i same long low is) ∙ at) in
      none-some (id, q) (sym (slice_get_past ps j (omega (arith, short, past, e))) ∙ here))

  module _ (n m index i : ℕ) (e : ℕ × ℕ) (same : index ≡ id) (long : n ≡ length places) (low : index < n)
      (is : i ≡ get_or places index i) (short : m ≡ length ps) (inside : i < m) (here : e ≡ get_or ps i e) where
    there : slice_get ps i ≡ Some e
    there = slice_get_read ps m i e short inside here

    pub read-own : true ≡ nat_eq e.0 id → Some e.1 ≡ lookup (nat_eq id) ps
    read-own p =
        found i e.1 (at_index n index i same long low is) (there ∙ (λ k. Some (eqb-true e.0 id (sym p) k, e.1)))

    pub read-other : false ≡ nat_eq e.0 id → None ≡ lookup (nat_eq id) ps
    read-other p = unfound (λ j q at of.
        let k : i ≡ j = same_Some i j (sym (at_index n index i same long low is) ∙ at) in
        let pair : e ≡ (id, q) = same_Some e (id, q) (sym there ∙ ap (slice_get ps) k ∙ of) in
        true≢false (sym (eq-eqb e.0 id (ap (λ x. x.0) pair)) ∙ sym p))
