-- Ascending lists of texts: members, and that a set has one such list.
use Rattle.std.specs.Prelude.{◌≡◌, ℕ, List, [], ◌∷◌, ◌⊎◌}
use Rattle.std.specs.BTreeSet.{insert_key}
use Rattle.std.specs.Ordering.{is_eq, ordering_reverse, match_ordering}
use Rattle.std.specs.declared.cmp.Ordering.{Ordering}
use Rattle.std.specs.declared.cmp.Ordering.TheVariants.{Less, Equal, Greater}
use Rattle.std.proofs.lemmas.Cmp.{nat_list_cmp_total, tied_itself}
use Rattle.std.proofs.lemmas.Map.Text.{is_eq-slice_cmp}
use Rattle.std.proofs.lemmas.Slice.Eq.{bytes_eq-Decides}
use Rattle.std.proofs.Common.{refl, sym, ◌∙◌, ap, subst, inl, inr}
use Rattle.ot_logic.specs.Lists.{IsMember, IsPart, IsSameSet}
use Rattle.ot_text.specs.Texts.{order, ascending}

pub equal-is : (x y : List ℕ) → order x y ≡ Equal → x ≡ y
equal-is x y h = (bytes_eq-Decides x y).0 (sym (is_eq-slice_cmp x y) ∙ ap is_eq h)

pub order-self : (x : List ℕ) → order x x ≡ Equal
order-self = tied_itself nat_list_cmp_total

pub order-back : (x y : List ℕ) → order x y ≡ Greater → order y x ≡ Less
order-back x y h = nat_list_cmp_total.antisymm y x ∙ ap ordering_reverse h

pub order-trans : (x y z : List ℕ) → order x y ≡ Less → order y z ≡ Less → order x z ≡ Less
order-trans = nat_list_cmp_total.trans

-- ---- members
pub member-put : (z x : List ℕ) (ys : List (List ℕ)) → IsMember z (insert_key order ys x) → (x ≡ z) ⊎ IsMember z ys
member-put z x [] m = m
member-put z x (y ∷ ys) m = go (order x y) (member-put z x ys) m where
  go : (o : Ordering) → (IsMember z (insert_key order ys x) → (x ≡ z) ⊎ IsMember z ys)
      → IsMember z (match_ordering o (x ∷ y ∷ ys) (y ∷ ys) (y ∷ insert_key order ys x))
      → (x ≡ z) ⊎ ((y ≡ z) ⊎ IsMember z ys)
  go Less f m = m
  go Equal f m = inr m
  go Greater f (inl p) = inr (inl p)
  go Greater f (inr n) = elim (f n) [ inl p ↦ inl p | inr q ↦ inr (inr q) ]

pub put-member : (z x : List ℕ) (ys : List (List ℕ)) → (x ≡ z) ⊎ IsMember z ys → IsMember z (insert_key order ys x)
put-member z x [] m = m
put-member z x (y ∷ ys) m = go (order x y) refl (put-member z x ys) m where
  go : (o : Ordering) → order x y ≡ o → ((x ≡ z) ⊎ IsMember z ys → IsMember z (insert_key order ys x)) → (x ≡ z)
      ⊎ ((y ≡ z) ⊎ IsMember z ys) → IsMember z (match_ordering o (x ∷ y ∷ ys) (y ∷ ys) (y ∷ insert_key order ys x))
  go Less e f m = m
  go Equal e f (inl p) = inl (sym (equal-is x y e) ∙ p)
  go Equal e f (inr m) = m
  go Greater e f (inl p) = inr (f (inl p))
  go Greater e f (inr (inl p)) = inl p
  go Greater e f (inr (inr m)) = inr (f (inr m))

pub member-ascending : (z : List ℕ) (xs : List (List ℕ)) → IsMember z (ascending xs) → IsMember z xs
member-ascending z [] m = m
member-ascending z (x ∷ xs) m =
    elim (member-put z x (ascending xs) m) [ inl p ↦ inl p | inr n ↦ inr (member-ascending z xs n) ]

pub ascending-member : (z : List ℕ) (xs : List (List ℕ)) → IsMember z xs → IsMember z (ascending xs)
ascending-member z [] m = absurd m
ascending-member z (x ∷ xs) (inl p) = put-member z x (ascending xs) (inl p)
ascending-member z (x ∷ xs) (inr m) = put-member z x (ascending xs) (inr (ascending-member z xs m))

-- ---- one list for a set
abbrev pub IsBelowAll : List ℕ → List (List ℕ) → Type 0
IsBelowAll x ys = (y : List ℕ) → IsMember y ys → order x y ≡ Less

abbrev pub IsAscending : List (List ℕ) → Type 0
IsAscending [] = Unit {0}
IsAscending (x ∷ xs) = IsBelowAll x xs × IsAscending xs

put-ascending : (x : List ℕ) (ys : List (List ℕ)) → IsAscending ys → IsAscending (insert_key order ys x)
put-ascending x [] a = (λ y m. absurd m, tt)
put-ascending x (y ∷ ys) a = go (order x y) refl (put-ascending x ys a.1) where
  go : (o : Ordering) → order x y ≡ o → IsAscending (insert_key order ys x)
      → IsAscending (match_ordering o (x ∷ y ∷ ys) (y ∷ ys) (y ∷ insert_key order ys x))
  go Less e b =
      (λ z m. elim m [ inl p ↦ subst (λ w. order x w ≡ Less) p e | inr n ↦ order-trans x y z e (a.0 z n) ], a)
  go Equal e b = a
  go Greater e b = (
    λ z m. elim (member-put z x ys m) [
      | inl p ↦ subst (λ w. order y w ≡ Less) p (order-back x y e)
      | inr n ↦
          a.0 z n
    ],
    b,
  )

pub ascending-is : (xs : List (List ℕ)) → IsAscending (ascending xs)
ascending-is [] = tt
ascending-is (x ∷ xs) = put-ascending x (ascending xs) (ascending-is xs)

not-itself : (x : List ℕ) → order x x ≡ Less → ⊥
not-itself x h = let e = order-self x in cc

-- the least members of one set are one
first-same : (x y : List ℕ) (xs ys : List (List ℕ)) → IsBelowAll x xs → IsBelowAll y ys → IsMember x (y ∷ ys)
    → IsMember y (x ∷ xs) → x ≡ y
first-same x y xs ys a b (inl p) n = sym p
first-same x y xs ys a b (inr m) (inl p) = p
first-same x y xs ys a b (inr m) (inr n) = absurd (not-itself x (order-trans x y x (a y n) (b x m)))

rest-part : (x y : List ℕ) (xs ys : List (List ℕ)) → IsBelowAll x xs → x ≡ y → IsPart (x ∷ xs) (y ∷ ys) → IsPart xs ys
rest-part x y xs ys a e p z m =
    elim (p z (inr m))
    [ inl q ↦ absurd (not-itself x (subst (λ w. order x w ≡ Less) (sym q ∙ sym e) (a z m))) | inr n ↦ n ]

pub ascending-unique : (xs ys : List (List ℕ)) → IsAscending xs → IsAscending ys → IsSameSet xs ys → xs ≡ ys
ascending-unique [] [] a b h = refl
ascending-unique [] (y ∷ ys) a b h = absurd (h.back y (inl refl))
ascending-unique (x ∷ xs) [] a b h = absurd (h.to x (inl refl))
ascending-unique (x ∷ xs) (y ∷ ys) a b h =
    let e = first-same x y xs ys a.0 b.0 (h.to x (inl refl)) (h.back y (inl refl)) in
    let rest : xs ≡ ys = ascending-unique xs ys a.1 b.1
    (record { to = rest-part x y xs ys a.0 e h.to; back = rest-part y x ys xs b.0 (sym e) h.back }) in
    λ i. e i ∷ rest i

-- the texts of one set are one list
pub ascending-same : (xs ys : List (List ℕ)) → IsSameSet xs ys → ascending xs ≡ ascending ys
ascending-same xs ys h = ascending-unique (ascending xs) (ascending ys) (ascending-is xs) (ascending-is ys) (record {
  to = λ z m. ascending-member z ys (h.to z (member-ascending z xs m));
  back = λ z m. ascending-member z xs (h.back z (member-ascending z ys m));
})
