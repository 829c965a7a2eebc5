-- Texts gathered in order: what an insertion does, and how many bytes there are.
use Rattle.std.specs.Prelude.{◌≡◌, ℕ, suc, ◌+◌, ◌<◌, ◌≤◌, true, false, ◌||◌}
use Rattle.std.specs.Prelude.{List, [], ◌∷◌, ◌++◌, map, length, take, codes}
use Rattle.std.specs.BTreeMap.{is_at}
use Rattle.std.specs.BTreeSet.{insert_key}
use Rattle.std.specs.Global.{Vec}
use Rattle.std.specs.List.{list_any}
use Rattle.std.specs.Ordering.{match_ordering}
use Rattle.std.specs.declared.cmp.Ordering.{Ordering}
use Rattle.std.specs.declared.cmp.Ordering.TheVariants.{Less, Equal, Greater}
use Rattle.std.proofs.Common.{refl, sym, ◌∙◌, ap, inl, inr, arith, get_or, drop, length-append}
use Rattle.std.proofs.Math.Seq.{take-suc}
use Rattle.std.proofs.lemmas.List.{take-append-drop, length-map, get_or-map}
use Rattle.std.proofs.lemmas.Simd.{map-map}
use Rattle.ot_logic.specs.Lists.{IsMember}
use Rattle.ot_logic.specs.Names.{Name}
use Rattle.ot_logic.specs.Trees.{Sequent}
use Rattle.ot_laws.proofs.Sets.{same_set-swap}
use Rattle.ot_text.specs.Texts.{tm_text, order, ascending, further_hyps, hyps_text, sequent_text}
use Rattle.ot_text.specs.Gathered.{bytes_in}
use Rattle.ot_text.proofs.Ascending.{ascending-same, ascending-member}
use Rattle.ot_logic.proofs.Members.{IsMember-get_or}

-- ---- an insertion into a set of vectors is one into the list of their bytes
abbrev by_bytes : Vec ℕ → Vec ℕ → Ordering
by_bytes v w = order v.items w.items

abbrev bytes_of : Vec ℕ → List ℕ
bytes_of v = v.items

pub texts-insert : (ks : List (Vec ℕ)) (k : Vec ℕ) → map bytes_of (insert_key by_bytes ks k)
    ≡ insert_key order (map bytes_of ks) k.items
texts-insert [] k = refl
texts-insert (x ∷ xs) k = go (texts-insert xs k) (by_bytes k x)
  where
    go : map bytes_of (insert_key by_bytes xs k) ≡ insert_key order (map bytes_of xs) k.items → (o : Ordering)
        → map bytes_of (match_ordering o (k ∷ x ∷ xs) (x ∷ xs) (x ∷ insert_key by_bytes xs k))
        ≡ match_ordering o (k.items ∷ x.items ∷ map bytes_of xs) (x.items ∷ map bytes_of xs)
        (x.items ∷ insert_key order (map bytes_of xs) k.items)
    go more Less = refl
    go more Equal = refl
    go more Greater = ap (λ ys. x.items ∷ ys) more

-- a new text adds its bytes
pub bytes-new : (ks : List (Vec ℕ)) (k : Vec ℕ) → list_any (is_at (by_bytes k)) ks ≡ false
    → bytes_in (insert_key order (map bytes_of ks) k.items) ≡ bytes_in (map bytes_of ks) + length k.items
bytes-new [] k h = omega arith
bytes-new (x ∷ xs) k h = go (bytes-new xs k) (by_bytes k x) refl
  where
    go : (list_any (is_at (by_bytes k)) xs ≡ false → bytes_in (insert_key order (map bytes_of xs) k.items)
        ≡ bytes_in (map bytes_of xs) + length k.items) → (o : Ordering) → by_bytes k x ≡ o
        → bytes_in (match_ordering o (k.items ∷ x.items ∷ map bytes_of xs) (x.items ∷ map bytes_of xs)
        (x.items ∷ insert_key order (map bytes_of xs) k.items)) ≡ length x.items + bytes_in (map bytes_of xs)
        + length k.items
    go more Less e = omega arith
    go more Equal e = let other : (true || list_any (is_at (by_bytes k)) xs) ≡ false = rw e at h in cc
    go more Greater e =
        let other : list_any (is_at (by_bytes k)) xs ≡ false = rw e at h in
        let one = more other in
        omega arith

-- ---- the texts of what stands for others
pub texts-through : {X Y : Type 0} (f : Y → List ℕ) (g : X → Y) (xs : List X) (ys : List Y) → map g xs ≡ ys
    → map (λ x. f (g x)) xs ≡ map f ys
texts-through f g xs ys p = sym (map-map f g xs) ∙ ap (map f) p

-- ---- how many bytes there are
-- an insertion takes none away
bytes-insert : (xs : List (List ℕ)) (x : List ℕ) → bytes_in xs ≤ bytes_in (insert_key order xs x)
bytes-insert [] x = omega arith
bytes-insert (y ∷ ys) x = go (bytes-insert ys x) (order x y)
  where
    go : bytes_in ys ≤ bytes_in (insert_key order ys x) → (o : Ordering) → length y + bytes_in ys
        ≤ bytes_in (match_ordering o (x ∷ y ∷ ys) (y ∷ ys) (y ∷ insert_key order ys x))
    go more Less = omega arith
    go more Equal = omega arith
    go more Greater = omega arith

bytes-more : (xs ys : List (List ℕ)) → bytes_in (ascending ys) ≤ bytes_in (ascending (xs ++ ys))
bytes-more [] ys = omega arith
bytes-more (x ∷ xs) ys = omega (arith, bytes-more xs ys, bytes-insert (ascending (xs ++ ys)) x)

-- the first texts have at most the bytes of all
bytes-first : (xs : List (List ℕ)) (i : ℕ) → bytes_in (ascending (take i xs)) ≤ bytes_in (ascending xs)
bytes-first xs i =
    let whole : ascending (drop i xs ++ take i xs) ≡ ascending xs =
    ascending-same _ _ (same_set-swap (take i xs) (drop i xs)) ∙ ap ascending (take-append-drop i xs) in
    let more = bytes-more (drop i xs) (take i xs) in
    let e = ap bytes_in whole in
    omega arith

member-bytes : (x : List ℕ) (xs : List (List ℕ)) → IsMember x xs → length x ≤ bytes_in xs
member-bytes x [] m = absurd m
member-bytes x (y ∷ ys) (inl p) = let e = ap length p in omega arith
member-bytes x (y ∷ ys) (inr m) = omega (arith, member-bytes x ys m)

further-bytes : (xs : List (List ℕ)) → bytes_in xs ≤ length (further_hyps xs)
further-bytes [] = omega arith
further-bytes (x ∷ xs) =
    let more = further-bytes xs in
    let n : length (codes ", " ++ x ++ further_hyps xs) ≡ suc (suc (length x + length (further_hyps xs))) =
    ap (λ k. suc (suc k)) (length-append x (further_hyps xs)) in
    omega arith

hyps-bytes : (xs : List (List ℕ)) → bytes_in xs ≤ length (hyps_text xs)
hyps-bytes [] = omega arith
hyps-bytes (x ∷ xs) = let more = further-bytes xs in let n = length-append x (further_hyps xs) in omega arith

pub hyps-room : (room : ℕ) (xs : List (List ℕ)) → room < bytes_in xs → room < length (hyps_text xs)
hyps-room room xs h = let more = hyps-bytes xs in omega arith

-- a sequent has at least the bytes of its hypotheses
pub sequent-bytes : (room : ℕ) (q : Sequent Name) → room < bytes_in (ascending (map tm_text q.hyps))
    → room < length (sequent_text q)
sequent-bytes room q h =
    let a = hyps-bytes (ascending (map tm_text q.hyps)) in
    let n = length-append (hyps_text (ascending (map tm_text q.hyps))) (tm_text q.concl) in
    omega arith

ascending-step : (xs : List (List ℕ)) (i : ℕ) (d : List ℕ) → i < length xs → ascending (take (i + 1) xs)
    ≡ insert_key order (ascending (take i xs)) (get_or xs i d)
ascending-step xs i d h =
    let n : i + 1 ≡ suc i = omega arith in
    ap (λ k. ascending (take k xs)) n
    ∙ ap ascending (take-suc xs i d h)
    ∙ ascending-same _ _ (same_set-swap (get_or xs i d ∷ []) (take i xs))

-- ---- the texts of items
module _ {X : Type 0} (f : X → List ℕ) (items : List X) (i : ℕ) (x : X) (within : i < length items)
    (at : x ≡ get_or items i x) where
  abbrev texts : List (List ℕ)
  texts = map f items

  text_inside : i < length texts
  text_inside = omega (arith, within, length-map items f)

  text_is : get_or texts i [] ≡ f x
  text_is = get_or-map f items i x [] within ∙ ap f (sym at)

  one-step : ascending (take (i + 1) texts) ≡ insert_key order (ascending (take i texts)) (f x)
  one-step = ascending-step texts i [] text_inside ∙ ap (insert_key order (ascending (take i texts))) text_is

  -- one text alone is too large
  pub one-too_large : (max : ℕ) → max < length (f x) → max < bytes_in (ascending texts)
  one-too_large max g =
      let a = member-bytes (get_or texts i []) (ascending texts)
      (ascending-member _ texts (IsMember-get_or texts i [] text_inside)) in
      let b = ap length text_is in
      omega arith

  module _ (text : List ℕ) (sofar more : List (List ℕ)) (max room left : ℕ) (is : sofar ≡ ascending (take i texts))
      (has : room + bytes_in (ascending (take i texts)) ≡ max) (text_of : text ≡ f x) where
    abbrev next_is : insert_key order sofar text ≡ ascending (take (i + 1) texts)
    next_is = (λ j. insert_key order (is j) (text_of j)) ∙ sym one-step

    pub one-kept : more ≡ insert_key order sofar text → left + bytes_in (insert_key order sofar text) ≡ room
        + bytes_in sofar → (more ≡ ascending (take (i + 1) texts))
        × (left + bytes_in (ascending (take (i + 1) texts)) ≡ max)
    one-kept p q =
        let a = ap bytes_in is in
        let b = ap bytes_in next_is in
        (p ∙ next_is, omega arith)

    -- the first texts together are too large
    pub together-too_large : room + bytes_in sofar < bytes_in (insert_key order sofar text)
        → max < bytes_in (ascending texts)
    together-too_large p =
        let a = ap bytes_in is in
        let b = ap bytes_in next_is in
        let more = bytes-first texts (i + 1) in
        omega arith
