-- What is needed is what is reached.
use Rattle.std.proofs.Common.{◌≡◌, ℕ, zero, suc, ◌<◌, ◌≤◌, ◌⊎◌, inl, inr, Bool, true, not, List}
use Rattle.std.proofs.Common.{[], ◌∷◌, ◌++◌, length, refl, sym, ap, subst, ◌∙◌, true≢false, arith}
use Rattle.std.specs.Prelude.{◌||◌}
use Rattle.std.specs.Bool.{Decides}
use Rattle.std.specs.List.{filter, list_any, flat_map}
use Rattle.ot_logic.specs.Lists.{IsMember, AreDistinct, IsPart}
use Rattle.ot_trace.specs.Origins.{Origin, Origins, Number, Named, Make, Define, Outcome}
use Rattle.ot_trace.specs.Origins.{NoOrigins, MoreOrigins, listed, parts, parts_all, symbols}
use Rattle.ot_written.specs.Needed as n
use Rattle.ot_trace.specs.Reach.{IsReached, Root, Operand, OfTheorem, OfSymbol}
use Rattle.ot_written.specs.Needed.{firsts}
use Rattle.ot_written.proofs.Filters.{bool_cases, or_cases, or_left, or_right, filter-to, filter-from}
use Rattle.ot_written.proofs.Filters.{filter-all, filter-distinct, filter-length, filter-grows}
use Rattle.ot_written.proofs.Filters.{any-to, any-from, member-flat_map, flat_map-member}
use Rattle.ot_written.proofs.Parts.{part-self, part-operand, part-theorem}
use Rattle.ot_logic.proofs.Members.{IsMember-cases, IsMember-left, IsMember-right}

module _ {N : Type 0} (same : Origin N → Origin N → Bool)
    (same-is : (a b : Origin N) → Decides (same a b) (a ≡ b)) where
  pub firsts-to : (x : Origin N) (xs : List (Origin N)) → IsMember x (firsts same xs) → IsMember x xs
  firsts-to x [] m = elim m [ ]
  firsts-to x (y ∷ xs) (inl e) = inl e
  firsts-to x (y ∷ xs) (inr m) = inr (firsts-to x xs (filter-to (λ e. not (same y e)) x (firsts same xs) m).0)

  pub firsts-from : (x : Origin N) (xs : List (Origin N)) → IsMember x xs → IsMember x (firsts same xs)
  firsts-from x [] m = elim m [ ]
  firsts-from x (y ∷ xs) (inl e) = inl e
  firsts-from x (y ∷ xs) (inr m) = elim (bool_cases (same y x)) [
    | inl e ↦ inl ((same-is y x).0 e)
    | inr e ↦ inr (filter-from (λ e. not (same y e)) x (firsts same xs) (firsts-from x xs m) (ap not e))
  ]

  pub firsts-distinct : (xs : List (Origin N)) → AreDistinct (firsts same xs)
  firsts-distinct [] = tt
  firsts-distinct (y ∷ xs) = (
    λ m. let e = (filter-to (λ e. not (same y e)) y (firsts same xs) m).1 in
        true≢false (sym e ∙ ap not ((same-is y y).1 refl)),
    filter-distinct (λ e. not (same y e)) (firsts same xs) (firsts-distinct xs),
  )

  -- a list in which each stands once is its own
  pub firsts-once : (xs : List (Origin N)) → AreDistinct xs → firsts same xs ≡ xs
  firsts-once [] d = refl
  firsts-once (y ∷ xs) d = ap (λ l. y ∷ filter (λ e. not (same y e)) l) (firsts-once xs d.1)
      ∙ ap (λ l. y ∷ l) (filter-all (λ e. not (same y e)) xs others)
    where
      others : (x : Origin N) → IsMember x xs → not (same y x) ≡ true
      others x m =
          elim (bool_cases (same y x))
          [ inl e ↦ absurd (d.0 (subst (λ z. IsMember z xs) (sym ((same-is y x).0 e)) m)) | inr e ↦ ap not e ]

  abbrev Touches : Origin N → Origin N → Type 0
  Touches d r = IsMember d (parts r) ⊎ ((p : Origin N) × IsMember p (parts r) × IsMember p (symbols d))

  touches-to : (d r : Origin N) → n.touches same d r ≡ true → Touches d r
  touches-to d r h =
      let x = any-to (λ p. same p d || list_any (same p) (symbols d)) (parts r) h in
      elim (or_cases (same x.0 d) (list_any (same x.0) (symbols d)) x.2) [
        | inl e ↦ inl (subst (λ z. IsMember z (parts r)) ((same-is x.0 d).0 e) x.1)
        | inr e ↦ (let y = any-to (same x.0) (symbols d) e in
            inr (x.0, x.1, subst (λ z. IsMember z (symbols d)) (sym ((same-is x.0 y.0).0 y.2)) y.1))
      ]

  touches-from : (d r : Origin N) → Touches d r → n.touches same d r ≡ true
  touches-from d r (inl m) = any-from (λ p. same p d || list_any (same p) (symbols d)) d (parts r) m
      (or_left (same d d) (list_any (same d) (symbols d)) ((same-is d d).1 refl))
  touches-from d r (inr x) = any-from (λ p. same p d || list_any (same p) (symbols d)) x.0 (parts r) x.1
      (or_right (same x.0 d) (list_any (same x.0) (symbols d))
      (any-from (same x.0) x.0 (symbols d) x.2 ((same-is x.0 x.0).1 refl)))

  module _ (roots ds : List (Origin N)) where
    abbrev touched : List (Origin N) → Origin N → Bool
    touched found d = list_any (n.touches same d) (roots ++ found)

    abbrev after : ℕ → List (Origin N)
    after k = n.rounds same k roots ds

    touched-mono : (xs ys : List (Origin N)) → IsPart xs ys → (d : Origin N) → touched xs d ≡ true
        → touched ys d ≡ true
    touched-mono xs ys h d e =
        let x = any-to (n.touches same d) (roots ++ xs) e in
        any-from (n.touches same d) x.0 (roots ++ ys)
        (elim (IsMember-cases x.0 roots xs x.1)
        [ inl a ↦ IsMember-left x.0 roots ys a | inr b ↦ IsMember-right x.0 roots ys (h x.0 b) ]) x.2

    rounds-part : (k : ℕ) → IsPart (after k) (after (suc k))
    rounds-part zero x m = elim m [ ]
    rounds-part (suc k) x m =
        let a = filter-to (touched (after k)) x ds m in
        filter-from (touched (after (suc k))) x ds a.0 (touched-mono (after k) (after (suc k)) (rounds-part k) x a.1)

    -- each round adds one, or none does any more
    rounds-grow : (k : ℕ) → (after (suc k) ≡ after k) ⊎ (k < length (after (suc k)))
    rounds-grow zero = go (after 1) refl
      where
        go : (l : List (Origin N)) → after 1 ≡ l → (l ≡ []) ⊎ (0 < length l)
        go [] e = inl refl
        go (x ∷ l) e = inr (omega arith)
    rounds-grow (suc k) = elim (rounds-grow k) [
      | inl e ↦ inl (ap (λ l. filter (touched l) ds) e)
      | inr h ↦
          elim (filter-grows (touched (after k)) (touched (after (suc k))) ds
          (λ x m. touched-mono (after k) (after (suc k)) (rounds-part k) x)) [
            | inl e ↦ inl (sym e)
            | inr g ↦ inr (let a : k < length (after (suc k)) = h in
                let b : length (after (suc k)) < length (after (suc (suc k))) = g in omega arith)
          ]
    ]

    pub rounds-end : (k : ℕ) → length ds ≤ k → after (suc k) ≡ after k
    rounds-end k h = elim (rounds-grow k) [
      | inl e ↦ e
      | inr g ↦ absurd (let a : k < length (after (suc k)) = g in
          let b : length (after (suc k)) ≤ length ds = filter-length (touched (after k)) ds in omega arith)
    ]

  -- a part of what is reached is reached
  module _ (roots ds : List (Origin N)) where
    abbrev Reached : Origin N → Type 0
    Reached = IsReached roots ds

    mutual
      pub reached-part : (r p : Origin N) → Reached r → IsMember p (parts r) → Reached p
      reached-part (Number k) p h (inl e) = subst Reached e h
      reached-part (Number k) p h (inr m) = elim m [ ]
      reached-part (Named k) p h (inl e) = subst Reached e h
      reached-part (Named k) p h (inr m) = elim m [ ]
      reached-part (Make c os) p h (inl e) = subst Reached e h
      reached-part (Make c os) p h (inr m) = reached-parts os p (λ q i. Operand (Make c os) q h i) m
      reached-part (Define c os) p h (inl e) = subst Reached e h
      reached-part (Define c os) p h (inr m) = reached-parts os p (λ q i. Operand (Define c os) q h i) m
      reached-part (Outcome j d) p h (inl e) = subst Reached e h
      reached-part (Outcome j d) p h (inr m) = reached-part d p (OfTheorem j d h) m

      pub reached-parts : (os : Origins N) (p : Origin N) → ((q : Origin N) → IsMember q (listed os) → Reached q)
          → IsMember p (parts_all os) → Reached p
      reached-parts NoOrigins p h m = elim m [ ]
      reached-parts (MoreOrigins o os) p h m = elim (IsMember-cases p (parts o) (parts_all os) m) [
        | inl a ↦ reached-part o p (h o (inl refl)) a
        | inr b ↦ reached-parts os p (λ q i. h q (inr i)) b
      ]

    rounds-reached : (k : ℕ) (d : Origin N) → IsMember d (n.rounds same k roots ds) → IsMember d ds × Reached d
    rounds-reached zero d m = elim m [ ]
    rounds-reached (suc k) d m =
        let a = filter-to (touched roots ds (n.rounds same k roots ds)) d ds m in
        let x = any-to (n.touches same d) (roots ++ n.rounds same k roots ds) a.1 in
        let here : Reached x.0 = elim (IsMember-cases x.0 roots (n.rounds same k roots ds) x.1)
        [ inl r ↦ Root x.0 r | inr f ↦ (rounds-reached k x.0 f).1 ] in (
          a.0,
          elim (touches-to d x.0 x.2)
              [ inl p ↦ reached-part x.0 d here p | inr q ↦ OfSymbol q.0 d (reached-part x.0 q.0 here q.1) a.0 q.2 ],
        )

    -- what is reached is a part of a root or of a definition found, once nothing is added any more
    reached-found : (k : ℕ) → length ds ≤ k → (o : Origin N) → Reached o
        → (r : Origin N) × IsMember r (n.rounds same k roots ds ++ roots) × IsMember o (parts r)
    reached-found k h o (Root _ m) = (o, IsMember-right o (n.rounds same k roots ds) roots m, part-self o)
    reached-found k h p (Operand o _ a m) = let x = reached-found k h o a in (x.0, x.1, part-operand x.0 o p x.2 m)
    reached-found k h d (OfTheorem j _ a) = let x = reached-found k h (Outcome j d) a in
        (x.0, x.1, part-theorem x.0 d j x.2)
    reached-found k h d (OfSymbol o _ a m s) =
        let found : List (Origin N) = n.rounds same k roots ds in
        let x = reached-found k h o a in
        let there : IsMember x.0 (roots ++ found) = elim (IsMember-cases x.0 found roots x.1)
        [ inl f ↦ IsMember-right x.0 roots found f | inr r ↦ IsMember-left x.0 roots found r ] in
        let yes : touched roots ds found d ≡ true =
        any-from (n.touches same d) x.0 (roots ++ found) there (touches-from d x.0 (inr (o, x.2, s))) in
        let next : IsMember d (n.rounds same (suc k) roots ds) = filter-from (touched roots ds found) d ds m yes in
        (d, IsMember-left d found roots (subst (λ l. IsMember d l) (rounds-end roots ds k h) next), part-self d)

    -- the rounds give no more than a closed set has
    rounds-least : (S : Origin N → Type 0) → ((d r : Origin N) → IsMember d ds → IsMember r roots ⊎ S r → Touches d r
        → S d) → (k : ℕ) (d : Origin N) → IsMember d (n.rounds same k roots ds) → S d
    rounds-least S h zero d m = elim m [ ]
    rounds-least S h (suc k) d m =
        let a = filter-to (touched roots ds (n.rounds same k roots ds)) d ds m in
        let x = any-to (n.touches same d) (roots ++ n.rounds same k roots ds) a.1 in
        h d x.0 a.0
        (elim (IsMember-cases x.0 roots (n.rounds same k roots ds) x.1)
        [ inl r ↦ inl r | inr f ↦ inr (rounds-least S h k x.0 f) ]) (touches-to d x.0 x.2)

    rounds-distinct : (k : ℕ) → AreDistinct ds → AreDistinct (n.rounds same k roots ds)
    rounds-distinct zero d = tt
    rounds-distinct (suc k) d = filter-distinct (touched roots ds (n.rounds same k roots ds)) ds d

    -- a definition that is reached is found
    rounds-found : (k : ℕ) → length ds ≤ k → (d : Origin N) → IsMember d ds → Reached d
        → IsMember d (n.rounds same k roots ds)
    rounds-found k h d m a =
        let found : List (Origin N) = n.rounds same k roots ds in
        let x = reached-found k h d a in
        let there : IsMember x.0 (roots ++ found) = elim (IsMember-cases x.0 found roots x.1)
        [ inl f ↦ IsMember-right x.0 roots found f | inr r ↦ IsMember-left x.0 roots found r ] in
        let yes : touched roots ds found d ≡ true =
        any-from (n.touches same d) x.0 (roots ++ found) there (touches-from d x.0 (inl x.2)) in
        subst (λ l. IsMember d l) (rounds-end roots ds k h) (filter-from (touched roots ds found) d ds m yes)

  -- what is reached depends on the definitions that are reached alone
  pub reached-among : (roots ds es : List (Origin N))
      → ((d : Origin N) → IsMember d ds → IsReached roots ds d → IsMember d es) → (o : Origin N)
      → IsReached roots ds o → IsReached roots es o
  reached-among roots ds es h o (Root _ m) = Root o m
  reached-among roots ds es h p (Operand o _ a m) = Operand o p (reached-among roots ds es h o a) m
  reached-among roots ds es h d (OfTheorem j _ a) = OfTheorem j d (reached-among roots ds es h (Outcome j d) a)
  reached-among roots ds es h d (OfSymbol o _ a m s) =
      OfSymbol o d (reached-among roots ds es h o a) (h d m (OfSymbol o d a m s)) s

  module _ (roots ds : List (Origin N)) where
    abbrev found : List (Origin N)
    found = n.needed_definitions same roots ds

    enough : length (firsts same ds) ≤ length ds
    enough = firsts-length ds
      where
        firsts-length : (xs : List (Origin N)) → length (firsts same xs) ≤ length xs
        firsts-length [] = omega arith
        firsts-length (y ∷ xs) = let a = filter-length (λ e. not (same y e)) (firsts same xs) in
            let b = firsts-length xs in omega arith

    to-firsts : (o : Origin N) → IsReached roots ds o → IsReached roots (firsts same ds) o
    to-firsts o a = reached-among roots ds (firsts same ds) (λ d m x. firsts-from d ds m) o a

    from-firsts : (o : Origin N) → IsReached roots (firsts same ds) o → IsReached roots ds o
    from-firsts o a = reached-among roots (firsts same ds) ds (λ d m x. firsts-to d ds m) o a

    -- the needed definitions are those that are reached
    pub needed-reached : (d : Origin N) → IsMember d found → IsMember d ds × IsReached roots ds d
    needed-reached d m = let a = rounds-reached roots (firsts same ds) (length ds) d m in
        (firsts-to d ds a.0, from-firsts d a.1)

    pub reached-needed : (d : Origin N) → IsMember d ds → IsReached roots ds d → IsMember d found
    reached-needed d m a = rounds-found roots (firsts same ds) (length ds) enough d (firsts-from d ds m)
        (to-firsts d a)

    pub needed-distinct : AreDistinct found
    needed-distinct = rounds-distinct roots (firsts same ds) (length ds) (firsts-distinct ds)

    -- in the order of the definitions, by a test
    pub needed-filter : found ≡ filter (λ d. list_any (n.touches same d) (roots ++ found)) (firsts same ds)
    needed-filter = sym (rounds-end roots (firsts same ds) (length ds) enough)

    pub needed-least : (S : Origin N → Type 0) → ((d r : Origin N) → IsMember d ds → IsMember r roots ⊎ S r
        → Touches d r → S d) → (d : Origin N) → IsMember d found → S d
    needed-least S h d m = rounds-least roots (firsts same ds) S (λ e r i j t. h e r (firsts-to e ds i) j t)
        (length ds) d m

    pub needed-closed : (d r : Origin N) → IsMember d ds → IsMember r roots ⊎ IsMember r found → Touches d r
        → IsMember d found
    needed-closed d r m from t =
        reached-needed d m
        (elim t [
          | inl p ↦ reached-part roots ds r d here p
          | inr q ↦
              OfSymbol q.0 d (reached-part roots ds r q.0 here q.1) m q.2
        ])
      where
        here : IsReached roots ds r
        here = elim from [ inl a ↦ Root r a | inr b ↦ (needed-reached r b).1 ]

    -- the needed origins are those that are reached
    pub origin-reached : (o : Origin N) → IsMember o (n.needed_origins same roots ds) → IsReached roots ds o
    origin-reached o m =
        let x = member-flat_map o parts (found ++ roots) (firsts-to o (flat_map parts (found ++ roots)) m) in
        reached-part roots ds x.0 o
        (elim (IsMember-cases x.0 found roots x.1) [ inl f ↦ (needed-reached x.0 f).1 | inr r ↦ Root x.0 r ]) x.2

    pub reached-origin : (o : Origin N) → IsReached roots ds o → IsMember o (n.needed_origins same roots ds)
    reached-origin o a =
        let x = reached-found roots (firsts same ds) (length ds) enough o (to-firsts o a) in
        firsts-from o (flat_map parts (found ++ roots)) (flat_map-member o x.0 parts (found ++ roots) x.1 x.2)

  -- among the needed definitions all are needed
  module _ (roots ds : List (Origin N)) where
    abbrev kept : List (Origin N)
    kept = n.needed_definitions same roots ds

    all-needed : (d : Origin N) → IsMember d kept → IsMember d (n.needed_definitions same roots kept)
    all-needed d m = reached-needed roots kept d m
        (reached-among roots ds kept (reached-needed roots ds) d (needed-reached roots ds d m).1)

    pub needed-again : n.needed_definitions same roots kept ≡ kept
    needed-again = ap (n.rounds same (length kept) roots) (firsts-once kept (needed-distinct roots ds))
        ∙ go (length kept) refl
      where
        inside : (d : Origin N) → IsMember d kept → IsMember d (n.rounds same (length kept) roots kept)
        inside d m = subst (λ l. IsMember d (n.rounds same (length kept) roots l))
            (firsts-once kept (needed-distinct roots ds)) (all-needed d m)

        none : (l : List (Origin N)) → length l ≡ 0 → [] ≡ l
        none [] e = refl
        none (x ∷ l) e = absurd (omega arith)

        go : (k : ℕ) → length kept ≡ k → n.rounds same k roots kept ≡ kept
        go zero e = none kept e
        go (suc k) e = filter-all (touched roots kept (n.rounds same k roots kept)) kept
            (λ d m. (filter-to (touched roots kept (n.rounds same k roots kept)) d kept
            (subst (λ j. IsMember d (n.rounds same j roots kept)) e (inside d m))).1)
