-- Lists with places.
use Rattle.std.specs.Prelude.{not}
use Rattle.std.specs.List.{filter}
use Rattle.std.proofs.Common.{◌≡◌, ℕ, zero, suc, ◌+◌, ◌<◌, Bool, List, [], ◌∷◌, ◌++◌, map, length}
use Rattle.std.proofs.Common.{take, drop, inl, inr, refl, sym, ap, subst, ◌∙◌, get_or, arith}
use Rattle.ot_logic.specs.Lists.{IsMember}
use Rattle.ot_logic.specs.Names.{Name}
use Rattle.ot_trace.specs.Origins.{Origin}
use Rattle.ot_written.specs.Needed.{firsts_by}
use Rattle.ot_written.proofs.Filters.{filter-to}
use Rattle.ot_written.proofs.Renaming.{filter-map}
use Rattle.std.proofs.lemmas.List.{length-map, get_or-map}
use Rattle.ot_uses.specs.Placing.{picked}
use Rattle.ot_uses.specs.Used.{beside_places, places_in, same}

abbrev pub Placed : Type 0 → Type 0
Placed X = ℕ × X

-- the same places, with other items
abbrev moved : {X Y : Type 0} → (X → Y) → Placed X → Placed Y
moved f p = (p.0, f p.1)

numbered-map : {X Y : Type 0} (f : X → Y) (k : ℕ) (xs : List X)
    → beside_places k (map f xs) ≡ map (moved f) (beside_places k xs)
numbered-map f k [] = refl
numbered-map f k (x ∷ xs) = ap (λ l. (k, f x) ∷ l) (numbered-map f (suc k) xs)

places-map : {X Y : Type 0} (f : X → Y) (ps : List (Placed X)) → places_in (map (moved f) ps) ≡ places_in ps
places-map f [] = refl
places-map f (p ∷ ps) = ap (λ l. p.0 ∷ l) (places-map f ps)

firsts-map : {X Y : Type 0} (g : X → Y) (of : Y → Origin Name) (xs : List X)
    → firsts_by same of (map g xs) ≡ map g (firsts_by same (λ x. of (g x)) xs)
firsts-map g of [] = refl
firsts-map g of (x ∷ xs) =
    ap (λ l. g x ∷ filter (λ y. not (same (of (g x)) (of y))) l) (firsts-map g of xs)
    ∙ ap (λ l. g x ∷ l) (filter-map g (λ y. not (same (of (g x)) (of y)))
    (λ y. not (same (of (g x)) (of (g y)))) (λ y. refl) (firsts_by same (λ y. of (g y)) xs))

-- the places of items are those of what they are mapped to
pub filter-places : {X Y : Type 0} (f : X → Y) (t : Y → Bool) (k : ℕ) (xs : List X)
    → places_in (filter (λ p. t (f p.1)) (beside_places k xs)) ≡ places_in (filter (λ p. t p.1) (beside_places k (map f xs)))
filter-places f t k xs =
    sym (ap (λ l. places_in (filter (λ p. t p.1) l)) (numbered-map f k xs) ∙ ap places_in
    (filter-map (moved f) (λ p. t p.1) (λ p. t (f p.1)) (λ p. refl) (beside_places k xs))
    ∙ places-map f (filter (λ p. t (f p.1)) (beside_places k xs)))

pub firsts-places : {X : Type 0} (f : X → Origin Name) (t : Origin Name → Bool) (k : ℕ) (xs : List X)
    → places_in (filter (λ p. t (f p.1)) (firsts_by same (λ p. f p.1) (beside_places k xs)))
    ≡ places_in (filter (λ p. t p.1) (firsts_by same (λ p. p.1) (beside_places k (map f xs))))
firsts-places f t k xs =
    sym (ap (λ l. places_in (filter (λ p. t p.1) (firsts_by same (λ p. p.1) l))) (numbered-map f k xs)
    ∙ ap (λ l. places_in (filter (λ p. t p.1) l)) (firsts-map (moved f) (λ p. p.1) (beside_places k xs))
    ∙ ap places_in
    (filter-map (moved f) (λ p. t p.1) (λ p. t (f p.1)) (λ p. refl) (firsts_by same (λ p. f p.1) (beside_places k xs)))
    ∙ places-map f (filter (λ p. t (f p.1)) (firsts_by same (λ p. f p.1) (beside_places k xs))))

-- ---- what stands at the places

-- without their places
abbrev pub items_in : {X : Type 0} → List (Placed X) → List X
items_in = map (λ p. p.1)

items-numbered : {X : Type 0} (k : ℕ) (xs : List X) → items_in (beside_places k xs) ≡ xs
items-numbered k [] = refl
items-numbered k (x ∷ xs) = ap (λ l. x ∷ l) (items-numbered (suc k) xs)

pub items-filter : {X : Type 0} (t : X → Bool) (k : ℕ) (xs : List X)
    → items_in (filter (λ p. t p.1) (beside_places k xs)) ≡ filter t xs
items-filter t k xs = sym (filter-map (λ p. p.1) t (λ p. t p.1) (λ p. refl) (beside_places k xs))
    ∙ ap (filter t) (items-numbered k xs)

pub items-firsts : {X : Type 0} (of : X → Origin Name) (t : X → Bool) (k : ℕ) (xs : List X)
    → items_in (filter (λ p. t p.1) (firsts_by same (λ p. of p.1) (beside_places k xs))) ≡ filter t (firsts_by same of xs)
items-firsts of t k xs =
    sym (filter-map (λ p. p.1) t (λ p. t p.1) (λ p. refl) (firsts_by same (λ p. of p.1) (beside_places k xs)))
    ∙ ap (filter t) (sym (firsts-map (λ p. p.1) of (beside_places k xs)) ∙ ap (firsts_by same of) (items-numbered k xs))

-- a member stands at its place
abbrev pub IsAt : {X : Type 0} → List X → ℕ → Placed X → Type 0
IsAt {X} xs k p = (i : ℕ) × (p.0 ≡ i + k) × (i < length xs) × ((d : X) → get_or xs i d ≡ p.1)

pub numbered-at : {X : Type 0} (k : ℕ) (xs : List X) (p : Placed X) → IsMember p (beside_places k xs) → IsAt xs k p
numbered-at k [] p m = absurd m
numbered-at k (x ∷ xs) p (inl e) = (
  0,
  sym (ap (λ q. q.0) e) ∙ (let z : k ≡ 0 + k = omega arith in z),
  omega arith,
  λ d. ap (λ q. q.1) e,
)
numbered-at k (x ∷ xs) p (inr m) =
    let (i, e, h, at) = numbered-at (suc k) xs p m in
    let lt : i < length xs = h in (suc i, e ∙ (let z : i + suc k ≡ suc i + k = omega arith in z), omega arith, at)

pub numbered-member : {X : Type 0} (k : ℕ) (xs : List X) (p : Placed X) → IsMember p (beside_places k xs) → IsMember p.1 xs
numbered-member k [] p m = absurd m
numbered-member k (x ∷ xs) p (inl e) = inl (ap (λ q. q.1) e)
numbered-member k (x ∷ xs) p (inr m) = inr (numbered-member (suc k) xs p m)

pub firsts-member : {X : Type 0} (of : X → Origin Name) (x : X) (xs : List X) → IsMember x (firsts_by same of xs)
    → IsMember x xs
firsts-member of x [] m = absurd m
firsts-member of x (y ∷ ys) (inl e) = inl e
firsts-member of x (y ∷ ys) (inr m) =
    inr (firsts-member of x ys (filter-to (λ z. not (same (of y) (of z))) x (firsts_by same of ys) m).0)

pub pick-one : {X : Type 0} (xs : List X) (i : ℕ) (d : X) → i < length xs → take 1 (drop i xs) ≡ get_or xs i d ∷ []
pick-one [] i d h = absurd (omega arith)
pick-one (x ∷ xs) zero d h = refl
pick-one (x ∷ xs) (suc i) d h = pick-one xs i d (omega arith)

-- of members of the numbered list, the places lead to the items
module _ {X : Type 0} (xs : List X) (ps : List (Placed X))
    (part : (p : Placed X) → IsMember p ps → IsMember p (beside_places 0 xs)) where
  at-place : (p : Placed X) → IsMember p ps → (p.0 < length xs) × ((d : X) → get_or xs p.0 d ≡ p.1)
  at-place p m =
      let (i, e, h, at) = numbered-at 0 xs p (part p m) in
      let lt : i < length xs = h in
      let z : p.0 ≡ i = e ∙ (let w : i + 0 ≡ i = omega arith in w) in
      (subst (λ n. n < length xs) (sym z) lt, λ d. ap (λ n. get_or xs n d) z ∙ at d)

  pub places-inside : (i : ℕ) → IsMember i (places_in ps) → i < length xs
  places-inside i m = go ps (λ p n. n) m
    where
      go : (qs : List (Placed X)) → ((p : Placed X) → IsMember p qs → IsMember p ps) → IsMember i (places_in qs)
          → i < length xs
      go [] h m = absurd m
      go (q ∷ qs) h (inl e) = subst (λ n. n < length xs) e (at-place q (h q (inl refl))).0
      go (q ∷ qs) h (inr m) = go qs (λ p n. h p (inr n)) m

  pub places-lead : {Y : Type 0} (f : X → Y) → picked (map f xs) (places_in ps) ≡ map f (items_in ps)
  places-lead {Y} f = go ps (λ p n. n)
    where
      go : (qs : List (Placed X)) → ((p : Placed X) → IsMember p qs → IsMember p ps)
          → picked (map f xs) (places_in qs) ≡ map f (items_in qs)
      go [] i = refl
      go (q ∷ qs) i =
          let a = at-place q (i q (inl refl)) in
          let long : length (map f xs) ≡ length xs = length-map xs f in
          let lt : q.0 < length xs = a.0 in
          let here : get_or (map f xs) q.0 (f q.1) ≡ f q.1 = get_or-map f xs q.0 q.1 (f q.1) lt ∙ ap f (a.1 q.1) in
          let one = pick-one (map f xs) q.0 (f q.1) (omega arith) in
          let r = go qs (λ p n. i p (inr n)) in
          λ z. (one ∙ ap (λ y. y ∷ []) here) z ++ r z
