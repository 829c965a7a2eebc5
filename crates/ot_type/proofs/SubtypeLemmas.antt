-- Lemmas on the types inside a type.
use Rattle.std.proofs.Common.{◌≡◌, ℕ, suc, ◌+◌, ◌<◌, ◌≤◌, ◌⊎◌, inl, inr, Bool, true}
use Rattle.std.proofs.Common.{false, cond, nat_lt, nat_eq, List, [], ◌∷◌, ◌++◌, length, get_or}
use Rattle.std.proofs.Common.{take, max, refl, sym, ap, subst, ◌∙◌, arith, eqb-true, ltb-true}
use Rattle.std.specs.List.{All}
use Rattle.std.specs.Ordering.{nat_cmp, match_ordering}
use Rattle.std.specs.declared.cmp.Ordering.{Ordering}
use Rattle.std.specs.declared.cmp.Ordering.TheVariants.{Less, Equal, Greater}
use Rattle.std.specs.BTreeSet.{insert_key}
use Rattle.std.proofs.lemmas.List.{take_more}
use Rattle.ot_logic.specs.Lists.{IsMember, IsSameSet}
use Rattle.ot_logic.specs.Trees.{Ty, Tys, TyVar, TyOp, NoTys, MoreTys}
use Rattle.ot_type.specs.TypeTable.{type_at, types_at}
use Rattle.ot_type.specs.Subtypes.{IsSubtype, IsInside, IsFalling, AddsParts}
use Rattle.ot_logic.proofs.Members.{IsMember-cases, IsMember-last, IsMember-left, IsMember-right, IsMember-push}
use Rattle.ot_logic.proofs.Members.{IsMember-get_or, All-at_member}

-- ---- members
module _ {X : Type 0} where
  pub member_item : (xs : List X) (i : ℕ) (x : X) → i < length xs → x ≡ get_or xs i x → IsMember x xs
  member_item xs i x h item = subst (λ y. IsMember y xs) (sym item) (IsMember-get_or xs i x h)

-- ---- a set of numbers, in order
equal_is : (x y : ℕ) → nat_cmp x y ≡ Equal → x ≡ y
equal_is x y = by (nat_lt x y) (nat_eq x y) refl
  where
    by : (l e : Bool) → nat_eq x y ≡ e → cond l Less (cond e Equal Greater) ≡ Equal → x ≡ y
    by true e q p = cc
    by false true q p = eqb-true x y q
    by false false q p = cc

pub less_is : (x y : ℕ) → nat_cmp x y ≡ Less → x < y
less_is x y = by (nat_lt x y) (nat_eq x y) refl
  where
    by : (l e : Bool) → nat_lt x y ≡ l → cond l Less (cond e Equal Greater) ≡ Less → x < y
    by true e q p = ltb-true x y q
    by false true q p = cc
    by false false q p = cc

-- the numbers of a set with one more
module _ (k q : ℕ) where
  insert_to : (ks : List ℕ) → IsMember q (insert_key nat_cmp ks k) → IsMember q ks ⊎ (k ≡ q)
  insert_to [] h = elim h [ inl e ↦ inr e | inr never ↦ absurd never ]
  insert_to (x ∷ xs) h = by (insert_to xs) (nat_cmp k x) h
    where
      by : (IsMember q (insert_key nat_cmp xs k) → IsMember q xs ⊎ (k ≡ q)) → (o : Ordering)
          → IsMember q (match_ordering o (k ∷ x ∷ xs) (x ∷ xs) (x ∷ insert_key nat_cmp xs k))
          → IsMember q (x ∷ xs) ⊎ (k ≡ q)
      by rest Less h = elim h [ inl e ↦ inr e | inr m ↦ inl m ]
      by rest Equal h = inl h
      by rest Greater h =
          elim h [ inl e ↦ inl (inl e) | inr m ↦ elim (rest m) [ inl a ↦ inl (inr a) | inr e ↦ inr e ] ]

  insert_back : (ks : List ℕ) → IsMember q ks ⊎ (k ≡ q) → IsMember q (insert_key nat_cmp ks k)
  insert_back [] h = elim h [ inl never ↦ absurd never | inr e ↦ inl e ]
  insert_back (x ∷ xs) h = by (insert_back xs) (nat_cmp k x) refl h
    where
      by : (IsMember q xs ⊎ (k ≡ q) → IsMember q (insert_key nat_cmp xs k)) → (o : Ordering) → nat_cmp k x ≡ o
          → IsMember q (x ∷ xs) ⊎ (k ≡ q)
          → IsMember q (match_ordering o (k ∷ x ∷ xs) (x ∷ xs) (x ∷ insert_key nat_cmp xs k))
      by rest Less p (inl m) = inr m
      by rest Less p (inr e) = inl e
      by rest Equal p (inl m) = m
      by rest Equal p (inr e) = inl (sym (equal_is k x p) ∙ e)
      by rest Greater p (inl m) = elim m [ inl e ↦ inl e | inr a ↦ inr (rest (inl a)) ]
      by rest Greater p (inr e) = inr (rest (inr e))

-- the loop that adds numbers to a set
pub added_one : (ks olds ids : List ℕ) (i k : ℕ) (new : List ℕ) → i < length ids → k ≡ get_or ids i k
    → IsSameSet ks (olds ++ take i ids) → new ≡ insert_key nat_cmp ks k → IsSameSet new (olds ++ take (i + 1) ids)
added_one ks olds ids i k new within item same is = record { to = to; back = back }
  where
    more : take (i + 1) ids ≡ take i ids ++ k ∷ []
    more = take_more ids i k within ∙ ap (λ x. take i ids ++ x ∷ []) (sym item)

    to : (x : ℕ) → IsMember x new → IsMember x (olds ++ take (i + 1) ids)
    to x h = elim (insert_to k x ks (subst (IsMember x) is h)) [
      | inl m ↦ elim (IsMember-cases x olds (take i ids) (same.to x m)) [
        | inl a ↦ IsMember-left x olds (take (i + 1) ids) a
        | inr b ↦ IsMember-right x olds (take (i + 1) ids) (rw more (IsMember-left x (take i ids) (k ∷ []) b))
      ]
      | inr e ↦ IsMember-right x olds (take (i + 1) ids) (rw more (IsMember-right x (take i ids) (k ∷ []) (inl e)))
    ]

    back : (x : ℕ) → IsMember x (olds ++ take (i + 1) ids) → IsMember x new
    back x h = subst (IsMember x) (sym is) (insert_back k x ks (elim (IsMember-cases x olds (take (i + 1) ids) h) [
      | inl a ↦ inl (same.back x (IsMember-left x olds (take i ids) a))
      | inr b ↦ elim (IsMember-push x (take i ids) k (rw more at b)) [
        | inl c ↦ inl (same.back x (IsMember-right x olds (take i ids) c))
        | inr e ↦ inr e
      ]
    ]))

-- ---- subtypes
pub IsSubtype-refl : (t : Ty ℕ) → IsSubtype t t
IsSubtype-refl (TyVar n) = refl
IsSubtype-refl (TyOp n ts) = inl refl

mutual
  pub IsSubtype-trans : (u v t : Ty ℕ) → IsSubtype u v → IsSubtype v t → IsSubtype u t
  IsSubtype-trans u v (TyVar n) h e = subst (IsSubtype u) e h
  IsSubtype-trans u v (TyOp n ts) h (inl e) = subst (IsSubtype u) e h
  IsSubtype-trans u v (TyOp n ts) h (inr i) = inr (inside_trans u v ts h i)

  inside_trans : (u v : Ty ℕ) (ts : Tys ℕ) → IsSubtype u v → IsInside v ts → IsInside u ts
  inside_trans u v NoTys h i = absurd i
  inside_trans u v (MoreTys t ts) h (inl s) = inl (IsSubtype-trans u v t h s)
  inside_trans u v (MoreTys t ts) h (inr i) = inr (inside_trans u v ts h i)

-- of arguments by number
pub inside_at : (ts : List (Ty ℕ)) (y : ℕ) (is : List ℕ) → IsMember y is → IsInside (type_at ts y) (types_at ts is)
inside_at ts y [] h = absurd h
inside_at ts y (i ∷ is) (inl e) =
    inl (subst (λ k. IsSubtype (type_at ts y) (type_at ts k)) (sym e) (IsSubtype-refl (type_at ts y)))
inside_at ts y (i ∷ is) (inr h) = inr (inside_at ts y is h)

inside_from : (ts : List (Ty ℕ)) (u : Ty ℕ) (is : List ℕ) → IsInside u (types_at ts is) → (y : ℕ) × IsMember y is
    × IsSubtype u (type_at ts y)
inside_from ts u [] h = absurd h
inside_from ts u (i ∷ is) (inl h) = (i, inl refl, h)
inside_from ts u (i ∷ is) (inr h) = let rest = inside_from ts u is h in (rest.0, inr rest.1, rest.2)

-- what the arguments of a type add
pub parts_of_op : (ts : List (Ty ℕ)) (i n : ℕ) (args xs ys : List ℕ) → type_at ts i ≡ TyOp n (types_at ts args)
    → All (λ k. k < i) args → IsSameSet ys (xs ++ args) → AddsParts ts i xs ys
parts_of_op ts i n args xs ys root below same = record {
  kept = λ y m. same.back y (IsMember-left y xs args m);
  each = λ y m. elim (IsMember-cases y xs args (same.to y m)) [
    | inl a ↦ inl a
    | inr b ↦ inr (
      All-at_member (λ k. k < i) args y below b,
      subst (IsSubtype (type_at ts y)) (sym root)
          (inr (inside_at ts y args b)),
    )
  ];
  all = λ u h. elim (subst (IsSubtype u) root h) [
    | inl e ↦ inl (e ∙ sym root)
    | inr a ↦ let part = inside_from ts u args a in
        inr (part.0, same.back part.0 (IsMember-right part.0 xs args part.1), part.2)
  ];
}

-- ---- the search for the subtypes of a type

-- what it keeps: the numbers found are above those to come, and behind these stands each type that is not found yet
pub record IsSearch (ts : List (Ty ℕ)) (t : Ty ℕ) (found pending : List ℕ) : Type 0 where
  pub each_found : (x : ℕ) → IsMember x found → (x < length ts) × IsSubtype (type_at ts x) t
  pub each_pending : (y : ℕ) → IsMember y pending → (y < length ts) × IsSubtype (type_at ts y) t
  pub apart : (x y : ℕ) → IsMember x found → IsMember y pending → y < x
  pub falling : IsFalling found
  pub all : (u : Ty ℕ) → IsSubtype u t → ((x : ℕ) × IsMember x found × (type_at ts x ≡ u))
      ⊎ ((y : ℕ) × IsMember y pending × IsSubtype u (type_at ts y))

IsFalling-push : (xs : List ℕ) (y : ℕ) → IsFalling xs → ((x : ℕ) → IsMember x xs → y < x) → IsFalling (xs ++ y ∷ [])
IsFalling-push [] y f h = (λ z never. absurd never, tt)
IsFalling-push (x ∷ xs) y f h = (
  λ z m. elim (IsMember-push z xs y m) [ inl a ↦ f.0 z a | inr e ↦ subst (λ z. z < x) e (h x (inl refl)) ],
  IsFalling-push xs y f.1 (λ z m. h z (inr m)),
)

pub search_start : (ts : List (Ty ℕ)) (i : ℕ) → i < length ts → IsSearch ts (type_at ts i) [] (i ∷ [])
search_start ts i h = record {
  each_found = λ x never. absurd never;
  each_pending =
      λ y m. elim m [
        | inl e ↦ subst (λ y. (y < length ts) × IsSubtype (type_at ts y) (type_at ts i)) e
            (h, IsSubtype-refl (type_at ts i))
        | inr never ↦ absurd never
      ];
  apart = λ x y never m. absurd never;
  falling = tt;
  all = λ u s. inr (i, inl refl, s);
}

module _ (ts : List (Ty ℕ)) (t : Ty ℕ) (found ps : List ℕ) (k : ℕ) (qs : List ℕ)
    (s : IsSearch ts t found (ps ++ k ∷ [])) (least : All (λ q. nat_cmp q k ≡ Less) ps)
    (adds : AddsParts ts k ps qs) where
  -- what is pending now is below the number that is found
  pub all_below : (y : ℕ) → IsMember y qs → y < k
  all_below y m =
      elim (adds.each y m) [
        | inl a ↦ less_is y k (All-at_member (λ q. nat_cmp q k ≡ Less) ps y least a)
        | inr b ↦
            b.0
      ]

  pub search_step : IsSearch ts t (found ++ k ∷ []) qs
  search_step = record {
    each_found = λ x m. elim (IsMember-push x found k m) [
      | inl a ↦ s.each_found x a
      | inr e ↦ subst (λ x. (x < length ts) × IsSubtype (type_at ts x) t) e (s.each_pending k (IsMember-last k ps))
    ];
    each_pending = λ y m. elim (adds.each y m) [
      | inl a ↦ s.each_pending y (IsMember-left y ps (k ∷ []) a)
      | inr b ↦ let top = s.each_pending k (IsMember-last k ps) in
          (omega (arith, b.0, top.0), IsSubtype-trans (type_at ts y) (type_at ts k) t b.1 top.1)
    ];
    apart = λ x y m n. let low = all_below y n in elim (IsMember-push x found k m) [
      | inl a ↦ omega (arith, low, s.apart x k a (IsMember-last k ps))
      | inr e ↦ subst (λ x. y < x) e low
    ];
    falling = IsFalling-push found k s.falling (λ x m. s.apart x k m (IsMember-last k ps));
    all = λ u h. elim (s.all u h) [
      | inl a ↦ inl (a.0, IsMember-left a.0 found (k ∷ []) a.1, a.2)
      | inr b ↦ elim (IsMember-push b.0 ps k b.1) [
        | inl m ↦ inr (b.0, adds.kept b.0 m, b.2)
        | inr e ↦ elim (adds.all u (subst (λ y. IsSubtype u (type_at ts y)) (sym e) b.2)) [
          | inl same ↦ inl (k, IsMember-last k found, sym same)
          | inr rest ↦ inr rest
        ]
      ]
    ];
  }

-- one more than the greatest number, or 0
abbrev pub above : List ℕ → ℕ
above [] = 0
above (x ∷ xs) = max (suc x) (above xs)

pub above-le : (xs : List ℕ) (k : ℕ) → ((x : ℕ) → IsMember x xs → x < k) → above xs ≤ k
above-le [] k h = omega arith
above-le (x ∷ xs) k h = omega (arith, h x (inl refl), above-le xs k (λ y m. h y (inr m)))

pub above-member : (xs : List ℕ) (k : ℕ) → IsMember k xs → k < above xs
above-member [] k m = absurd m
above-member (x ∷ xs) k (inl e) = omega (arith, e)
above-member (x ∷ xs) k (inr m) = omega (arith, above-member xs k m)

pub above-last : (xs : List ℕ) (k : ℕ) → k < above (xs ++ k ∷ [])
above-last [] k = omega arith
above-last (x ∷ xs) k = omega (arith, above-last xs k)
