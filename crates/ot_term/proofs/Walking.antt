-- How the trees inside a tree are found.
use Rattle.std.proofs.Common.{◌≡◌, ℕ, ◌<◌, ◌⊎◌, inl, inr, true, false, List, []}
use Rattle.std.proofs.Common.{◌∷◌, ◌++◌, length, fold, refl, sym, subst, arith}
use Rattle.std.proofs.lemmas.Bool.{false≢true}
use Rattle.std.specs.List.{All}
use Rattle.std.specs.Ordering.{nat_cmp}
use Rattle.std.specs.declared.cmp.Ordering.TheVariants.{Less}
use Rattle.std.specs.BTreeSet.{insert_key}
use Rattle.ot_logic.specs.Lists.{IsMember, IsSameSet}
use Rattle.ot_type.specs.Subtypes.{IsFalling}
use Rattle.ot_type.proofs.SubtypeLemmas.{less_is, added_one}
use Rattle.ot_term.specs.Walk.{AreFound, AddsParts, IsInsideSome}
use Rattle.ot_logic.proofs.Members.{IsMember-cases, IsMember-last, IsMember-left, IsMember-right, IsMember-push}
use Rattle.ot_logic.proofs.Members.{All-at_member}

-- a set of numbers with one more
nothing_more : (ks : List ℕ) → IsSameSet ks (ks ++ [])
nothing_more ks =
    record {
      to = λ x h. IsMember-left x ks [] h;
      back = λ x h. elim (IsMember-cases x ks [] h) [ inl a ↦ a | inr never ↦ absurd never ];
    }

pub set_one : (ks : List ℕ) (i : ℕ) → IsSameSet (insert_key nat_cmp ks i) (ks ++ i ∷ [])
set_one ks i = added_one ks ks (i ∷ []) 0 i (insert_key nat_cmp ks i) (omega arith) refl (nothing_more ks) refl

-- and with the numbers of a list
pub set_with : (ks ids : List ℕ) → IsSameSet (fold (insert_key nat_cmp) ks ids) (ks ++ ids)
set_with ks [] = nothing_more ks
set_with ks (i ∷ ids) =
    let rest = set_with (insert_key nat_cmp ks i) ids in
    let one = set_one ks i in
    record {
      to = λ x h. elim (IsMember-cases x (insert_key nat_cmp ks i) ids (rest.to x h)) [
        | inl a ↦ elim (IsMember-push x ks i (one.to x a))
            [ inl k ↦ IsMember-left x ks (i ∷ ids) k | inr e ↦ IsMember-right x ks (i ∷ ids) (inl e) ]
        | inr b ↦ IsMember-right x ks (i ∷ ids) (inr b)
      ];
      back = λ x h. rest.back x (elim (IsMember-cases x ks (i ∷ ids) h) [
        | inl a ↦ IsMember-left x (insert_key nat_cmp ks i) ids (one.back x (IsMember-left x ks (i ∷ []) a))
        | inr b ↦
            elim b [
              | inl e ↦ IsMember-left x (insert_key nat_cmp ks i) ids
                  (one.back x (IsMember-right x ks (i ∷ []) (inl e)))
              | inr m ↦ IsMember-right x (insert_key nat_cmp ks i)
                  ids m
            ]
      ]);
    }

module _ {T : Type 0} (tree : ℕ → T) (Inside : T → T → Type 0) (len : ℕ) (IsAsked : T → Type 0) where
  -- what the search keeps: the numbers found are above those to come, and inside the trees of these stands each tree
  -- that is not found yet
  pub record IsSearch (found pending : List ℕ) : Type 0 where
    pub each_found : (x : ℕ) → IsMember x found → (x < len) × IsAsked (tree x)
    pub each_pending : (y : ℕ) → IsMember y pending → (y < len) × IsAsked (tree y)
    pub apart : (x y : ℕ) → IsMember x found → IsMember y pending → y < x
    pub falling : IsFalling found
    pub all : (u : T) → IsAsked u → ((x : ℕ) × IsMember x found × (tree x ≡ u)) ⊎ IsInsideSome tree Inside pending u

  pub search_start : (ks : List ℕ) → ((k : ℕ) → IsMember k ks → (k < len) × IsAsked (tree k))
      → ((u : T) → IsAsked u → IsInsideSome tree Inside ks u) → IsSearch [] ks
  search_start ks each all = record {
    each_found = λ x never. absurd never;
    each_pending = each;
    apart = λ x y never m. absurd never;
    falling = tt;
    all = λ u h. inr (all u h);
  }

  falling-push : (xs : List ℕ) (y : ℕ) → IsFalling xs → ((x : ℕ) → IsMember x xs → y < x) → IsFalling (xs ++ y ∷ [])
  falling-push [] y f h = (λ z never. absurd never, tt)
  falling-push (x ∷ xs) y f h = (
    λ z m. elim (IsMember-push z xs y m) [ inl a ↦ f.0 z a | inr e ↦ subst (λ z. z < x) e (h x (inl refl)) ],
    falling-push xs y f.1 (λ z m. h z (inr m)),
  )

  module _ (found ps : List ℕ) (k : ℕ) (qs : List ℕ) (s : IsSearch found (ps ++ k ∷ []))
      (least : All (λ q. nat_cmp q k ≡ Less) ps) (adds : AddsParts tree Inside k ps qs) where
    -- what is pending now is below the number that is found
    pub all_below : (y : ℕ) → IsMember y qs → y < k
    all_below y m =
        elim (adds.each y m) [
          | inl a ↦ less_is y k (All-at_member (λ q. nat_cmp q k ≡ Less) ps y least a)
          | inr b ↦
              b.0
        ]

    pub search_step : ((u v : T) → Inside u v → IsAsked v → IsAsked u) → IsSearch (found ++ k ∷ []) qs
    search_step closed =
        let top = s.each_pending k (IsMember-last k ps) in
        record {
          each_found = λ x m. elim (IsMember-push x found k m) [
            | inl a ↦ s.each_found x a
            | inr e ↦ subst (λ x. (x < len) × IsAsked (tree x)) e top
          ];
          each_pending = λ y m. elim (adds.each y m) [
            | inl a ↦ s.each_pending y (IsMember-left y ps (k ∷ []) a)
            | inr b ↦ (omega (arith, b.0, top.0), closed (tree y) (tree k) b.1 top.1)
          ];
          apart = λ x y m n. let low = all_below y n in elim (IsMember-push x found k m) [
            | inl a ↦ omega (arith, low, s.apart x k a (IsMember-last k ps))
            | inr e ↦ subst (λ x. y < x) e low
          ];
          falling = falling-push found k s.falling (λ x m. s.apart x k m (IsMember-last k ps));
          all = λ u h. elim (s.all u h) [
            | inl a ↦ inl (a.0, IsMember-left a.0 found (k ∷ []) a.1, a.2)
            | inr b ↦ elim (IsMember-push b.0 ps k b.1) [
              | inl m ↦ inr (b.0, adds.kept b.0 m, b.2)
              | inr e ↦ elim (adds.all u (subst (λ y. Inside u (tree y)) (sym e) b.2)) [
                | inl same ↦ inl (k, IsMember-last k found, sym same)
                | inr rest ↦ inr rest
              ]
            ]
          ];
        }

  -- nothing is pending
  pub search_end : (found : List ℕ) → IsSearch found [] → AreFound tree len IsAsked found
  search_end found s = record {
    each = s.each_found;
    all = λ u h. elim (s.all u h) [ inl a ↦ a | inr b ↦ absurd b.1 ];
    falling = s.falling;
  }

-- a set that gives no greatest number has none
pub no_more : (ks : List ℕ) → (0 < length ks → false ≡ true) → ks ≡ []
no_more [] h = refl
no_more (k ∷ ks) h = absurd (false≢true (h (omega arith)))
