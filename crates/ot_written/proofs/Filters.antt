-- Lemmas on filters, and on tests of some element.
use Rattle.std.proofs.Common.{◌≡◌, suc, ◌<◌, ◌≤◌, ◌⊎◌, inl, inr, Bool, true, false, cond, List}
use Rattle.std.proofs.Common.{[], ◌∷◌, length, refl, sym, ap, subst, ◌∙◌, true≢false, arith}
use Rattle.std.specs.Prelude.{◌||◌, ◌&&◌}
use Rattle.std.specs.List.{filter, list_any, flat_map}
use Rattle.ot_logic.specs.Lists.{IsMember, AreDistinct}
use Rattle.ot_logic.proofs.Members.{IsMember-cases, IsMember-left, IsMember-right}

pub bool_cases : (b : Bool) → (b ≡ true) ⊎ (b ≡ false)
bool_cases true = inl refl
bool_cases false = inr refl

pub or_cases : (a b : Bool) → (a || b) ≡ true → (a ≡ true) ⊎ (b ≡ true)
or_cases true b h = inl refl
or_cases false b h = inr h

pub or_left : (a b : Bool) → a ≡ true → (a || b) ≡ true
or_left true b h = refl
or_left false b h = absurd (cc)

pub or_right : (a b : Bool) → b ≡ true → (a || b) ≡ true
or_right true b h = refl
or_right false b h = h

pub and-left : (a b : Bool) → (a && b) ≡ true → a ≡ true
and-left true b h = refl
and-left false b h = h

pub and-right : (a b : Bool) → (a && b) ≡ true → b ≡ true
and-right true b h = h
and-right false b h = absurd (cc)

module _ {X : Type 0} where
  pub filter-to : (t : X → Bool) (x : X) (xs : List X) → IsMember x (filter t xs) → IsMember x xs × (t x ≡ true)
  filter-to t x [] m = elim m [ ]
  filter-to t x (y ∷ xs) m = go (t y) refl m (filter-to t x xs)
    where
      go : (b : Bool) → t y ≡ b → IsMember x (cond b (y ∷ filter t xs) (filter t xs))
          → (IsMember x (filter t xs) → IsMember x xs × (t x ≡ true)) → ((y ≡ x) ⊎ IsMember x xs) × (t x ≡ true)
      go true h (inl e) r = (inl e, subst (λ z. t z ≡ true) e h)
      go true h (inr m) r = (inr (r m).0, (r m).1)
      go false h m r = (inr (r m).0, (r m).1)

  pub filter-from : (t : X → Bool) (x : X) (xs : List X) → IsMember x xs → t x ≡ true → IsMember x (filter t xs)
  filter-from t x [] m h = elim m [ ]
  filter-from t x (y ∷ xs) m h = go (t y) refl m (λ n. filter-from t x xs n h)
    where
      go : (b : Bool) → t y ≡ b → (y ≡ x) ⊎ IsMember x xs → (IsMember x xs → IsMember x (filter t xs))
          → IsMember x (cond b (y ∷ filter t xs) (filter t xs))
      go true e (inl p) r = inl p
      go true e (inr p) r = inr (r p)
      go false e (inl p) r = absurd (true≢false (sym h ∙ ap t (sym p) ∙ e))
      go false e (inr p) r = r p

  pub filter-all : (t : X → Bool) (xs : List X) → ((x : X) → IsMember x xs → t x ≡ true) → filter t xs ≡ xs
  filter-all t [] h = refl
  filter-all t (x ∷ xs) h = let e : t x ≡ true = h x (inl refl) in
      rw e (ap (λ l. x ∷ l) (filter-all t xs (λ y m. h y (inr m))))

  pub filter-distinct : (t : X → Bool) (xs : List X) → AreDistinct xs → AreDistinct (filter t xs)
  filter-distinct t [] d = tt
  filter-distinct t (x ∷ xs) d = go (t x) (filter-distinct t xs d.1)
    where
      go : (b : Bool) → AreDistinct (filter t xs) → AreDistinct (cond b (x ∷ filter t xs) (filter t xs))
      go true r = (λ m. d.0 (filter-to t x xs m).0, r)
      go false r = r

  pub filter-length : (t : X → Bool) (xs : List X) → length (filter t xs) ≤ length xs
  filter-length t [] = omega arith
  filter-length t (x ∷ xs) = go (t x) (filter-length t xs)
    where
      go : (b : Bool) → length (filter t xs) ≤ length xs → length (cond b (x ∷ filter t xs) (filter t xs))
          ≤ suc (length xs)
      go true h = omega arith
      go false h = omega arith

  -- a weaker test keeps the same, or more
  pub filter-grows : (p q : X → Bool) (xs : List X) → ((x : X) → IsMember x xs → p x ≡ true → q x ≡ true)
      → (filter p xs ≡ filter q xs) ⊎ (length (filter p xs) < length (filter q xs))
  filter-grows p q [] h = inl refl
  filter-grows p q (x ∷ xs) h = go (p x) (q x) (h x (inl refl)) (filter-grows p q xs (λ y m. h y (inr m)))
    where
      go : (a b : Bool) → (a ≡ true → b ≡ true) → (filter p xs ≡ filter q xs)
          ⊎ (length (filter p xs) < length (filter q xs))
          → (cond a (x ∷ filter p xs) (filter p xs) ≡ cond b (x ∷ filter q xs) (filter q xs))
          ⊎ (length (cond a (x ∷ filter p xs) (filter p xs)) < length (cond b (x ∷ filter q xs) (filter q xs)))
      go true false f r = absurd (let e : false ≡ true = f refl in cc)
      go true true f (inl e) = inl (ap (λ l. x ∷ l) e)
      go true true f (inr e) = inr (omega arith)
      go false false f r = r
      go false true f (inl e) = inr (let k = ap length e in omega arith)
      go false true f (inr e) = inr (omega arith)

  pub any-to : (t : X → Bool) (xs : List X) → list_any t xs ≡ true → (x : X) × IsMember x xs × (t x ≡ true)
  any-to t [] h = absurd (cc)
  any-to t (x ∷ xs) h = elim (or_cases (t x) (list_any t xs) h)
      [ inl e ↦ (x, inl refl, e) | inr e ↦ (let r = any-to t xs e in (r.0, inr r.1, r.2)) ]

  pub any-from : (t : X → Bool) (x : X) (xs : List X) → IsMember x xs → t x ≡ true → list_any t xs ≡ true
  any-from t x [] m h = elim m [ ]
  any-from t x (y ∷ xs) (inl e) h = or_left (t y) (list_any t xs) (ap t e ∙ h)
  any-from t x (y ∷ xs) (inr m) h = or_right (t y) (list_any t xs) (any-from t x xs m h)

pub member-flat_map : {X A : Type 0} (a : A) (f : X → List A) (xs : List X) → IsMember a (flat_map f xs)
    → (x : X) × IsMember x xs × IsMember a (f x)
member-flat_map a f [] m = elim m [ ]
member-flat_map a f (x ∷ xs) m = elim (IsMember-cases a (f x) (flat_map f xs) m)
    [ inl p ↦ (x, inl refl, p) | inr p ↦ (let r = member-flat_map a f xs p in (r.0, inr r.1, r.2)) ]

pub flat_map-member : {X A : Type 0} (a : A) (x : X) (f : X → List A) (xs : List X) → IsMember x xs → IsMember a (f x)
    → IsMember a (flat_map f xs)
flat_map-member a x f [] m p = elim m [ ]
flat_map-member a x f (y ∷ xs) (inl e) p =
    IsMember-left a (f y) (flat_map f xs) (subst (λ z. IsMember a (f z)) (sym e) p)
flat_map-member a x f (y ∷ xs) (inr m) p = IsMember-right a (f y) (flat_map f xs) (flat_map-member a x f xs m p)

pub filter-filter : {X : Type 0} (p q : X → Bool) (xs : List X) → filter p (filter q xs) ≡ filter (λ x. p x && q x) xs
filter-filter p q [] = refl
filter-filter p q (x ∷ xs) = go (p x) (q x) refl (filter-filter p q xs)
  where
    go : (a b : Bool) → p x ≡ a → filter p (filter q xs) ≡ filter (λ x. p x && q x) xs
        → filter p (cond b (x ∷ filter q xs) (filter q xs)) ≡ cond (a && b) (x ∷ filter (λ x. p x && q x) xs)
        (filter (λ x. p x && q x) xs)
    go true true e h = rw e (ap (λ l. x ∷ l) h)
    go false true e h = rw e h
    go true false e h = h
    go false false e h = h

pub filter-same : {X : Type 0} (p q : X → Bool) (xs : List X) → ((x : X) → IsMember x xs → p x ≡ q x)
    → filter p xs ≡ filter q xs
filter-same p q [] h = refl
filter-same p q (x ∷ xs) h = let e = h x (inl refl) in let r = filter-same p q xs (λ y m. h y (inr m)) in
    λ i. cond (e i) (x ∷ r i) (r i)
