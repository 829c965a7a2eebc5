-- A sequence joined with the pieces of another one.
use Rattle.std.specs.List.{filter}
use Rattle.std.specs.Option.{is_none, option_map}
use Rattle.std.proofs.Common.{◌≡◌, ℕ, suc, ◌+◌, ◌<◌, ◌⊎◌, inl, inr, Bool, true, false, cond, nat_eq, eq-eqb, true≢false}
use Rattle.std.proofs.Common.{List, [], ◌∷◌, ◌++◌, map, length, replicate, take, drop, get_or, slice_get, Option, None, Some}
use Rattle.std.proofs.Common.{refl, sym, ap, subst, ◌∙◌, append_assoc, length-append, arith}
use Rattle.std.proofs.lemmas.List.{append-nil, nil_from_length, map-append, take-append-drop, take_more}
use Rattle.std.proofs.lemmas.List.{length-take, length-drop}
use Rattle.std.proofs.lemmas.List.Elements.{filter-append}
use Rattle.std.proofs.lemmas.Option.{get_or_from_slice_get}
use Rattle.ot_logic.specs.Lists.{IsMember, AreDistinct}
use Rattle.ot_logic.specs.Table.{Extends, IsInjective}
use Rattle.ot_logic.proofs.Members.{IsMember-left, IsMember-right}
use Rattle.ot_logic.proofs.TableLemmas.{Extends-refl, Extends-trans, get_or-Extends}
use Rattle.ot_laws.proofs.Sets.{distinct-append}
use Rattle.ot_shape.proofs.Frees.{filter-from, filter-distinct}
use Rattle.ot_lists.specs.SequenceTable.{SequenceTable, sequence_at, IsUnder, Grows, IsSequenceTable}
use Rattle.ot_lists.specs.Maps.{map_at}
use Rattle.ot_lists.specs.Places.{place_in}
use Rattle.ot_lists.specs.Pieces.{joined_in, whole, piece_of, added, holes, IsPiece, ArePieces, IsKnown}
use Rattle.ot_lists.specs.declared.list.Key.{Key}
use Rattle.ot_lists.specs.declared.sequence.pieces.Piece.{Piece}
use Rattle.ot_lists.specs.declared.sequence.pieces.Piece.TheVariants.{NewTree, NewOne, Same}
use Rattle.ot_lists.proofs.Snoc.{front-distinct}
use Rattle.ot_lists.proofs.Sublists.{place-absent, place-middle, middle-before}
use Rattle.ot_lists.proofs.FrameLemmas.{grows-trans}
use Rattle.ot_lists.proofs.Runs.{fresh, kept}
use Rattle.ot_lists.proofs.PieceLemmas.{whole-append, whole-push}

-- a number without a place is none of a sequence
pub place-lacking : (fs : List ℕ) (y : ℕ) → place_in fs y ≡ None → ¬ (IsMember y fs)
place-lacking [] y e m = m
place-lacking (z ∷ fs) y e m = by (place-lacking fs y) (nat_eq y z) refl (place_in fs y) refl e m
  where
    by : (place_in fs y ≡ None → ¬ (IsMember y fs)) → (b : Bool) → nat_eq y z ≡ b → (o : Option ℕ) → place_in fs y ≡ o
        → cond b (Some 0) (option_map suc o) ≡ None → (z ≡ y) ⊎ IsMember y fs → ⊥
    by rest true s o p q m = cc
    by rest false s (Some j) p q m = cc
    by rest false s None p q (inl r) = true≢false (sym (eq-eqb y z (sym r)) ∙ s)
    by rest false s None p q (inr n) = rest p n

none-is : (o : Option ℕ) → is_none o ≡ true → o ≡ None
none-is None p = refl
none-is (Some k) p = absurd (true≢false (sym p))

module _ (fs : List ℕ) where
  abbrev is-new : ℕ → Bool
  is-new x = is_none (place_in fs x)

  pub joined-distinct : (xs : List ℕ) → AreDistinct fs → AreDistinct xs → AreDistinct (joined_in fs xs)
  joined-distinct xs d e =
      distinct-append fs (filter is-new xs) d (filter-distinct is-new xs e)
      (λ y m n. place-lacking fs y (none-is (place_in fs y) (filter-from is-new y xs n).1) m)

  joined-more : (xs ys : List ℕ) → joined_in fs (xs ++ ys) ≡ joined_in fs xs ++ filter is-new ys
  joined-more xs ys = ap (λ l. fs ++ l) (filter-append is-new xs ys)
      ∙ sym (append_assoc fs (filter is-new xs) (filter is-new ys))

  -- numbers that the function lacks
  lacking-filter : (ys : List ℕ) → ((y : ℕ) → IsMember y ys → ¬ (IsMember y fs)) → filter is-new ys ≡ ys
  lacking-filter [] h = refl
  lacking-filter (y ∷ ys) h =
      ap (λ o. cond (is_none o) (y ∷ filter is-new ys) (filter is-new ys)) (place-absent fs y (h y (inl refl)))
      ∙ ap (λ l. y ∷ l) (lacking-filter ys (λ z m. h z (inr m)))

  lacking-places : (ys : List ℕ) → ((y : ℕ) → IsMember y ys → ¬ (IsMember y fs))
      → map (place_in fs) ys ≡ replicate (length ys) None
  lacking-places [] h = refl
  lacking-places (y ∷ ys) h =
      let first = place-absent fs y (h y (inl refl)) in
      let rest = lacking-places ys (λ z m. h z (inr m)) in
      λ i. first i ∷ rest i

  -- numbers that it has, one behind the other
  module _ (once : AreDistinct fs) where
    had-first : (front rest : List ℕ) (y : ℕ) → front ++ y ∷ rest ≡ fs → place_in fs y ≡ Some (length front)
    had-first front rest y e =
        ap (λ l. place_in l y) (sym e)
        ∙ place-middle front rest y (middle-before front rest y (subst AreDistinct (sym e) once))

    had-filter : (front part back : List ℕ) → front ++ (part ++ back) ≡ fs → filter is-new part ≡ []
    had-filter front [] back e = refl
    had-filter front (y ∷ part) back e =
        ap (λ o. cond (is_none o) (y ∷ filter is-new part) (filter is-new part)) (had-first front (part ++ back) y e)
        ∙ had-filter (front ++ y ∷ []) part back (append_assoc front (y ∷ []) (part ++ back) ∙ e)

    had-places : (front part back : List ℕ) (k : ℕ) → front ++ (part ++ back) ≡ fs → k ≡ length front
        → map (place_in fs) part ≡ kept k (length part)
    had-places front [] back k e n = refl
    had-places front (y ∷ part) back k e n =
        let first = had-first front (part ++ back) y e ∙ ap Some (sym n) in
        let m = length-append front (y ∷ []) in
        let rest = had-places (front ++ y ∷ []) part back (k + 1) (append_assoc front (y ∷ []) (part ++ back) ∙ e)
        (omega (arith, m, n)) in
        λ i. first i ∷ rest i

    -- a piece more
    module _ (t : SequenceTable) (done : List ℕ) where
      only : (x : ℕ) → ¬ (IsMember x fs) → (y : ℕ) → IsMember y (x ∷ []) → ¬ (IsMember y fs)
      only x h y (inl e) = subst (λ z. ¬ (IsMember z fs)) e h
      only x h y (inr m) = absurd m

      filter-piece : (p : Piece) → IsPiece t fs p → filter is-new (piece_of t fs p) ≡ added t p
      filter-piece (NewTree i) h = lacking-filter (sequence_at t i) h.1
      filter-piece (NewOne x) h = lacking-filter (x ∷ []) (only x h)
      filter-piece (Same k n) h =
          had-filter (take k fs) (take n (drop k fs)) (drop n (drop k fs))
          (ap (λ l. take k fs ++ l) (take-append-drop n (drop k fs)) ∙ take-append-drop k fs)

      places-piece : (p : Piece) → IsPiece t fs p → map (place_in fs) (piece_of t fs p) ≡ holes t p
      places-piece (NewTree i) h = lacking-places (sequence_at t i) h.1
      places-piece (NewOne x) h = lacking-places (x ∷ []) (only x h)
      places-piece (Same k n) h =
          let a = length-take k fs in
          let b = length-take n (drop k fs) in
          let c = length-drop k fs in
          let count : length (take n (drop k fs)) ≡ n = omega (arith, a, b, c, h) in
          had-places (take k fs) (take n (drop k fs)) (drop n (drop k fs)) k
          (ap (λ l. take k fs ++ l) (take-append-drop n (drop k fs)) ∙ take-append-drop k fs) (omega (arith, a, h))
          ∙ ap (kept k) count

      pub joined-piece : (p : Piece) → IsPiece t fs p
          → joined_in fs (done ++ piece_of t fs p) ≡ joined_in fs done ++ added t p
      joined-piece p h = joined-more done (piece_of t fs p) ∙ ap (λ l. joined_in fs done ++ l) (filter-piece p h)

      pub holes-piece : (p : Piece) → IsPiece t fs p
          → map (place_in fs) (done ++ piece_of t fs p) ≡ map (place_in fs) done ++ holes t p
      holes-piece p h =
          map-append (place_in fs) done (piece_of t fs p)
          ∙ ap (λ l. map (place_in fs) done ++ l) (places-piece p h)

-- ---- pieces of a table that grows
module _ (old now : SequenceTable) (grows : Grows old now) where
  pub added-stays : (fs : List ℕ) (p : Piece) → IsPiece old fs p → added now p ≡ added old p
  added-stays fs (NewTree i) h = get_or-Extends old.lists now.lists grows.lists i [] h.0
  added-stays fs (NewOne x) h = refl
  added-stays fs (Same k n) h = refl

  pub holes-stay : (fs : List ℕ) (p : Piece) → IsPiece old fs p → holes now p ≡ holes old p
  holes-stay fs (NewTree i) h =
      ap (λ l. replicate (length l) None) (get_or-Extends old.lists now.lists grows.lists i [] h.0)
  holes-stay fs (NewOne x) h = refl
  holes-stay fs (Same k n) h = refl

  pub known-stays : (fs : List ℕ) (p : Piece) → IsPiece old fs p → IsUnder (length old.keys) (piece_of old fs p)
      → IsKnown now p
  known-stays fs (NewTree i) h under = omega (arith, h.0, grows.lists.longer)
  known-stays fs (NewOne x) h under = subst (λ (ks : List Key). x < length ks) (sym grows.keys) (under x (inl refl))
  known-stays fs (Same k n) h under = tt

-- one more of a list
module _ {X : Type 0} (xs : List X) (i : ℕ) (x : X) (h : i < length xs) (e : x ≡ get_or xs i x) where
  pub one-more : take (i + 1) xs ≡ take i xs ++ x ∷ []
  one-more = take_more xs i x h ∙ ap (λ y. take i xs ++ y ∷ []) (sym e)

  pub one-split : (take i xs ++ x ∷ []) ++ drop (i + 1) xs ≡ xs
  one-split = ap (λ l. l ++ drop (i + 1) xs) (sym one-more) ∙ take-append-drop (i + 1) xs

-- the tables after some pieces were joined
pub record IsJoined (old now : SequenceTable) (olds nows : List (List (Option ℕ))) (fs : List ℕ) (ps : List Piece)
    (list m : ℕ) : Type 0 where
  pub list_is : slice_get now.lists list ≡ Some (joined_in fs (whole old fs ps))
  pub map_is : slice_get nows m ≡ Some (map (place_in fs) (whole old fs ps))
  pub grows : Grows old now
  pub table : IsSequenceTable now
  pub maps : Extends olds nows
  pub once : IsInjective nows

pub joined-none : (old : SequenceTable) (olds : List (List (Option ℕ))) (f m : ℕ)
    → slice_get old.lists f ≡ Some (sequence_at old f) → slice_get olds m ≡ Some []
    → IsSequenceTable old → IsInjective olds → IsJoined old old olds olds (sequence_at old f) [] f m
joined-none old olds f m at empty table once = record {
  list_is = at ∙ ap Some (sym (append-nil (sequence_at old f)));
  map_is = empty;
  grows = record { keys = refl; lists = Extends-refl old.lists };
  table = table;
  maps = Extends-refl olds;
  once = once;
}

module _ (old now : SequenceTable) (olds nows : List (List (Option ℕ))) (fs : List ℕ) (all ps rest : List Piece)
    (p : Piece) (list m : ℕ) (split : (ps ++ p ∷ []) ++ rest ≡ all) (h : IsJoined old now olds nows fs ps list m)
    (pieces : ArePieces old fs all) where
  -- the piece is one of them
  is-piece : IsPiece old fs p
  is-piece =
      pieces p (subst (IsMember p) split (IsMember-left p (ps ++ p ∷ []) rest (IsMember-right p ps (p ∷ []) (inl refl))))

  -- what is joined then
  next : whole old fs (ps ++ p ∷ []) ≡ whole old fs ps ++ piece_of old fs p
  next = whole-push old fs ps p

  front : whole old fs (ps ++ p ∷ []) ++ whole old fs rest ≡ whole old fs all
  front = sym (whole-append old fs (ps ++ p ∷ []) rest) ∙ ap (whole old fs) split

  pub next-known : IsUnder (length old.keys) (whole old fs all) → IsKnown now p
  next-known under =
      known-stays old now h.grows fs p is-piece
      (λ x i. under x (subst (IsMember x) front
      (IsMember-left x (whole old fs (ps ++ p ∷ [])) (whole old fs rest)
      (subst (IsMember x) (sym next) (IsMember-right x (whole old fs ps) (piece_of old fs p) i)))))

  put : AreDistinct fs → sequence_at now list ++ added now p ≡ joined_in fs (whole old fs (ps ++ p ∷ []))
  put once =
      (λ i. get_or_from_slice_get now.lists list _ [] h.list_is i ++ added-stays old now h.grows fs p is-piece i)
      ∙ sym (joined-piece fs once old (whole old fs ps) p is-piece) ∙ ap (joined_in fs) (sym next)

  pub next-distinct : AreDistinct fs → AreDistinct (whole old fs all)
      → AreDistinct (sequence_at now list ++ added now p)
  next-distinct once d =
      subst AreDistinct (sym (put once))
      (joined-distinct fs (whole old fs (ps ++ p ∷ [])) once
      (front-distinct (whole old fs (ps ++ p ∷ [])) (whole old fs rest) (subst AreDistinct (sym front) d)))

  pub joined-next : AreDistinct fs → (after : SequenceTable) (afters : List (List (Option ℕ))) (l n : ℕ)
      → slice_get after.lists l ≡ Some (sequence_at now list ++ added now p)
      → slice_get afters n ≡ Some (map_at nows m ++ holes now p) → Grows now after → IsSequenceTable after
      → Extends nows afters → IsInjective afters → IsJoined old after olds afters fs (ps ++ p ∷ []) l n
  joined-next once after afters l n put_is holes_are grows table maps each = record {
    list_is = put_is ∙ ap Some (put once);
    map_is = holes_are
        ∙ (λ i. Some (get_or_from_slice_get nows m _ [] h.map_is i ++ holes-stay old now h.grows fs p is-piece i))
        ∙ ap Some (sym (holes-piece fs once old (whole old fs ps) p is-piece) ∙ ap (map (place_in fs)) (sym next));
    grows = grows-trans h.grows grows;
    table = table;
    maps = Extends-trans h.maps maps;
    once = each;
  }

-- ---- what is joined at once
-- a run behind the map of no holes
pub after-none : (ms : List (List (Option ℕ))) (none : ℕ) (l : List (Option ℕ)) → slice_get ms none ≡ Some []
    → Some (map_at ms none ++ l) ≡ Some l
after-none ms none l e = ap (λ m. Some (m ++ l)) (get_or_from_slice_get ms none [] [] e)

module _ (fs xs : List ℕ) where
  pub joined-nil : length xs ≡ 0 → joined_in fs xs ≡ fs
  joined-nil e = ap (joined_in fs) (nil_from_length xs e) ∙ append-nil fs

  pub places-nil : length xs ≡ 0 → map (place_in fs) xs ≡ []
  places-nil e = ap (map (place_in fs)) (nil_from_length xs e)

  pub joined-new : length fs ≡ 0 → joined_in fs xs ≡ xs
  joined-new e = ap (λ l. joined_in l xs) (nil_from_length fs e) ∙ lacking-filter [] xs (λ y m n. n)

  pub places-new : length fs ≡ 0 → map (place_in fs) xs ≡ fresh (length xs)
  places-new e = ap (λ l. map (place_in l) xs) (nil_from_length fs e) ∙ lacking-places [] xs (λ y m n. n)

module _ (fs : List ℕ) (once : AreDistinct fs) where
  pub joined-same : joined_in fs fs ≡ fs
  joined-same = ap (λ l. fs ++ l) (had-filter fs once [] fs [] (append-nil fs)) ∙ append-nil fs

  pub places-same : map (place_in fs) fs ≡ kept 0 (length fs)
  places-same = had-places fs once [] fs [] 0 (append-nil fs) refl
