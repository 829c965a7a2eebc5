-- Numbers in ascending order, each once: a set has one such list.
use Rattle.std.specs.BTreeSet.{insert_key}
use Rattle.std.specs.Ordering.{match_ordering, nat_cmp, MatchOrdering}
use Rattle.std.specs.declared.cmp.Ordering.{Ordering}
use Rattle.std.specs.declared.cmp.Ordering.TheVariants.{Less, Equal, Greater}
use Rattle.std.proofs.lemmas.Cmp.{ranked}
use Rattle.std.proofs.Common.{◌≡◌, ℕ, ◌<◌, List, [], ◌∷◌, ◌⊎◌, fold, refl, sym, ◌∙◌, subst, inl, inr, arith}
use Rattle.ot_logic.specs.Lists.{IsMember, IsPart, IsSameSet}
use Rattle.ot_log_rules.specs.Keeping.{ordered}

-- ---- members
member-put : (z x : ℕ) (ys : List ℕ) → IsMember z (insert_key nat_cmp ys x) → (x ≡ z) ⊎ IsMember z ys
member-put z x [] m = m
member-put z x (y ∷ ys) m = go (nat_cmp x y) (member-put z x ys) m
  where
    go : (o : Ordering) → (IsMember z (insert_key nat_cmp ys x) → (x ≡ z) ⊎ IsMember z ys)
        → IsMember z (match_ordering o (x ∷ y ∷ ys) (y ∷ ys) (y ∷ insert_key nat_cmp ys x))
        → (x ≡ z) ⊎ ((y ≡ z) ⊎ IsMember z ys)
    go Less f m = m
    go Equal f m = inr m
    go Greater f (inl p) = inr (inl p)
    go Greater f (inr n) = elim (f n) [ inl p ↦ inl p | inr q ↦ inr (inr q) ]

put-member : (z x : ℕ) (ys : List ℕ) → (x ≡ z) ⊎ IsMember z ys → IsMember z (insert_key nat_cmp ys x)
put-member z x [] m = m
put-member z x (y ∷ ys) m = go (nat_cmp x y) (ranked x y (nat_cmp x y) refl) (put-member z x ys) m
  where
    go : (o : Ordering) → MatchOrdering o (x < y) (x ≡ y) (y < x)
        → ((x ≡ z) ⊎ IsMember z ys → IsMember z (insert_key nat_cmp ys x)) → (x ≡ z) ⊎ ((y ≡ z) ⊎ IsMember z ys)
        → IsMember z (match_ordering o (x ∷ y ∷ ys) (y ∷ ys) (y ∷ insert_key nat_cmp ys x))
    go Less e f m = m
    go Equal e f (inl p) = inl (sym e ∙ p)
    go Equal e f (inr m) = m
    go Greater e f (inl p) = inr (f (inl p))
    go Greater e f (inr (inl p)) = inl p
    go Greater e f (inr (inr m)) = inr (f (inr m))

-- after those of a list that was there
member-all : (z : ℕ) (ks xs : List ℕ) → IsMember z (fold (insert_key nat_cmp) ks xs) → IsMember z ks ⊎ IsMember z xs
member-all z ks [] m = inl m
member-all z ks (x ∷ xs) m = elim (member-all z (insert_key nat_cmp ks x) xs m) [
  | inl n ↦ elim (member-put z x ks n) [ inl p ↦ inr (inl p) | inr q ↦ inl q ]
  | inr n ↦ inr (inr n)
]

all-member : (z : ℕ) (ks xs : List ℕ) → IsMember z ks ⊎ IsMember z xs → IsMember z (fold (insert_key nat_cmp) ks xs)
all-member z ks [] (inl m) = m
all-member z ks [] (inr m) = absurd m
all-member z ks (x ∷ xs) (inl m) = all-member z (insert_key nat_cmp ks x) xs (inl (put-member z x ks (inr m)))
all-member z ks (x ∷ xs) (inr (inl p)) = all-member z (insert_key nat_cmp ks x) xs (inl (put-member z x ks (inl p)))
all-member z ks (x ∷ xs) (inr (inr m)) = all-member z (insert_key nat_cmp ks x) xs (inr m)

pub member-ordered : (z : ℕ) (xs : List ℕ) → IsMember z (ordered xs) → IsMember z xs
member-ordered z xs m = elim (member-all z [] xs m) [ inl n ↦ absurd n | inr n ↦ n ]

pub ordered-member : (z : ℕ) (xs : List ℕ) → IsMember z xs → IsMember z (ordered xs)
ordered-member z xs m = all-member z [] xs (inr m)

-- ---- one list for a set
abbrev IsBelowAll : ℕ → List ℕ → Type 0
IsBelowAll x ys = (y : ℕ) → IsMember y ys → x < y

abbrev IsAscending : List ℕ → Type 0
IsAscending [] = Unit {0}
IsAscending (x ∷ xs) = IsBelowAll x xs × IsAscending xs

less-trans : (x y z : ℕ) → x < y → y < z → x < z
less-trans x y z a b = omega arith

put-ascending : (x : ℕ) (ys : List ℕ) → IsAscending ys → IsAscending (insert_key nat_cmp ys x)
put-ascending x [] a = (λ y m. absurd m, tt)
put-ascending x (y ∷ ys) a = go (nat_cmp x y) (ranked x y (nat_cmp x y) refl) (put-ascending x ys a.1)
  where
    go : (o : Ordering) → MatchOrdering o (x < y) (x ≡ y) (y < x) → IsAscending (insert_key nat_cmp ys x)
        → IsAscending (match_ordering o (x ∷ y ∷ ys) (y ∷ ys) (y ∷ insert_key nat_cmp ys x))
    go Less e b = (λ z m. elim m [ inl p ↦ subst (λ w. x < w) p e | inr n ↦ less-trans x y z e (a.0 z n) ], a)
    go Equal e b = a
    go Greater e b = (λ z m. elim (member-put z x ys m) [ inl p ↦ subst (λ w. y < w) p e | inr n ↦ a.0 z n ], b)

all-ascending : (ks xs : List ℕ) → IsAscending ks → IsAscending (fold (insert_key nat_cmp) ks xs)
all-ascending ks [] a = a
all-ascending ks (x ∷ xs) a = all-ascending (insert_key nat_cmp ks x) xs (put-ascending x ks a)

not-itself : (x : ℕ) → x < x → ⊥
not-itself x h = omega arith

-- the least members of one set are one
first-same : (x y : ℕ) (xs ys : List ℕ) → IsBelowAll x xs → IsBelowAll y ys → IsMember x (y ∷ ys)
    → IsMember y (x ∷ xs) → x ≡ y
first-same x y xs ys a b (inl p) n = sym p
first-same x y xs ys a b (inr m) (inl p) = p
first-same x y xs ys a b (inr m) (inr n) = absurd (not-itself x (less-trans x y x (a y n) (b x m)))

rest-part : (x y : ℕ) (xs ys : List ℕ) → IsBelowAll x xs → x ≡ y → IsPart (x ∷ xs) (y ∷ ys) → IsPart xs ys
rest-part x y xs ys a e p z m =
    elim (p z (inr m)) [ inl q ↦ absurd (not-itself x (subst (λ w. x < w) (sym q ∙ sym e) (a z m))) | inr n ↦ n ]

ascending-unique : (xs ys : List ℕ) → IsAscending xs → IsAscending ys → IsSameSet xs ys → xs ≡ ys
ascending-unique [] [] a b h = refl
ascending-unique [] (y ∷ ys) a b h = absurd (h.back y (inl refl))
ascending-unique (x ∷ xs) [] a b h = absurd (h.to x (inl refl))
ascending-unique (x ∷ xs) (y ∷ ys) a b h =
    let e = first-same x y xs ys a.0 b.0 (h.to x (inl refl)) (h.back y (inl refl)) in
    let rest : xs ≡ ys = ascending-unique xs ys a.1 b.1
    (record { to = rest-part x y xs ys a.0 e h.to; back = rest-part y x ys xs b.0 (sym e) h.back }) in
    λ i. e i ∷ rest i

pub ordered-same : (xs ys : List ℕ) → IsSameSet xs ys → ordered xs ≡ ordered ys
ordered-same xs ys h = ascending-unique (ordered xs) (ordered ys) (all-ascending [] xs tt) (all-ascending [] ys tt)
    (record {
      to = λ z m. ordered-member z ys (h.to z (member-ordered z xs m));
      back = λ z m. ordered-member z xs (h.back z (member-ordered z ys m));
    })

pub same-ordered : (xs ys : List ℕ) → ordered xs ≡ ordered ys → IsSameSet xs ys
same-ordered xs ys e = record {
  to = λ z m. member-ordered z ys (subst (IsMember z) e (ordered-member z xs m));
  back = λ z m. member-ordered z xs (subst (IsMember z) (sym e) (ordered-member z ys m));
}
