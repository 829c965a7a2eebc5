-- What stands at places, one place more.
use Rattle.std.specs.Prelude.{codes}
use Rattle.std.proofs.Common.{◌≡◌, ℕ, zero, suc, ◌+◌, ◌<◌, ◌≤◌, List, [], ◌∷◌, ◌++◌, map, length, take, drop}
use Rattle.std.proofs.Common.{length-drop, get_or, refl, sym, ap, ◌∙◌, append_assoc, arith}
use Rattle.std.specs.List.{All}
use Rattle.std.proofs.lemmas.List.{map-append, drop-map, take_all}
use Rattle.ot_text.specs.Pages.{Printed, IsPut}
use Rattle.ot_text.proofs.Gathering.{texts-through}
use Rattle.ot_text.proofs.Putting.{Puts, puts-more, same-text}
use Rattle.ot_text.specs.Sections.{indented_text}
use Rattle.ot_uses.specs.Placing.{picked}
use Rattle.ot_uses.proofs.Numbering.{pick-one}

-- of what is mapped
pub picked-map : {X Y : Type 0} (f : X → Y) (xs : List X) (places : List ℕ) → map f (picked xs places)
    ≡ picked (map f xs) places
picked-map f xs [] = refl
picked-map f xs (i ∷ is) =
    map-append f (take 1 (drop i xs)) (picked xs is)
    ∙ (λ z. (first (drop i xs) ∙ ap (take 1) (sym (drop-map f i xs))) z ++ picked-map f xs is z)
  where
    first : (ys : List _) → map f (take 1 ys) ≡ take 1 (map f ys)
    first [] = refl
    first (y ∷ ys) = refl

-- what is picked is of the list
pub picked-all : {X : Type 0} (P : X → Type 0) (xs : List X) (places : List ℕ) → All P xs → All P (picked xs places)
picked-all P xs [] h k d l = absurd (omega arith)
picked-all P xs (i ∷ is) h k d l =
    all-append (take 1 (drop i xs)) (picked xs is) (all-first (drop i xs) (all-drop i xs h)) (picked-all P xs is h) k
    d l
  where
    all-append : (ys zs : List _) → All P ys → All P zs → All P (ys ++ zs)
    all-append [] zs a b k d l = b k d l
    all-append (y ∷ ys) zs a b zero d l = a zero d (omega arith)
    all-append (y ∷ ys) zs a b (suc k) d l = all-append ys zs (λ j e m. a (suc j) e (omega arith)) b k d (omega arith)

    all-first : (ys : List _) → All P ys → All P (take 1 ys)
    all-first [] a k d l = a k d l
    all-first (y ∷ ys) a zero d l = a zero d (omega arith)
    all-first (y ∷ ys) a (suc k) d l = absurd (omega arith)

    all-drop : (k : ℕ) (ys : List _) → All P ys → All P (drop k ys)
    all-drop zero ys a = a
    all-drop (suc k) [] a = a
    all-drop (suc k) (y ∷ ys) a = all-drop k ys (λ j e m. a (suc j) e (omega arith))

-- as many as there are places
pub picked-long : {X : Type 0} (xs : List X) (places : List ℕ) → All (λ i. i < length xs) places
    → length (picked xs places) ≡ length places
picked-long xs [] h = refl
picked-long {X} xs (i ∷ is) h =
    one (drop i xs) (let lt : i < length xs = h 0 i (omega arith) in let n = length-drop i xs in omega arith)
    (picked xs is)
    ∙ ap suc (picked-long xs is (λ k d l. h (suc k) d (omega arith)))
  where
    one : (ys : List X) → 0 < length ys → (zs : List X) → length (take 1 ys ++ zs) ≡ suc (length zs)
    one [] h zs = absurd (omega arith)
    one (y ∷ ys) h zs = refl

-- the texts of what was picked by number are those of what stands at the places
pub picked-texts : {X Y : Type 0} (text : Y → List ℕ) (f : X → Y)
    (xs : List X) (ys : List Y) (places : List ℕ) (n : ℕ) (used : List X)
    → used ≡ picked xs (take n places) → length places ≤ n → map f xs ≡ ys
    → map (λ x. text (f x)) used ≡ map text (picked ys places)
picked-texts text f xs ys places n used is h maps =
    texts-through text f used (picked ys places)
    (ap (map f) (is ∙ ap (picked xs) (take_all n places h)) ∙ picked-map f xs places ∙ ap (λ l. picked l places) maps)

-- ---- the lines of what is picked

indented-append : (xs ys : List (List ℕ)) → indented_text (xs ++ ys) ≡ indented_text xs ++ indented_text ys
indented-append [] ys = refl
indented-append (x ∷ xs) ys =
    ap (λ l. codes "    " ++ x ++ 10 ∷ l) (indented-append xs ys)
    ∙ sym (append_assoc (codes "    " ++ x) (10 ∷ indented_text xs) (indented_text ys))

module _ {X : Type 0} (text : X → List ℕ) (items : List X) where
  -- of the items at these places
  abbrev pub lines_at : List ℕ → List ℕ
  lines_at places = indented_text (map text (picked items places))

  pub lines-more : (places : List ℕ) (i : ℕ) (x : X) (s0 s t : Printed) → i < length places
      → get_or places i 0 < length items
      → x ≡ get_or items (get_or places i 0) x
      → Puts lines_at places i s0 s → IsPut (codes "    " ++ text x ++ codes "\n") s t
      → Puts lines_at places (i + 1) s0 t
  lines-more places i x s0 s t h lt is before put =
      puts-more lines_at (λ j. indented_text (map text (take 1 (drop j items)))) step places i 0 s0 s t h before
      (same-text
      (ap (λ l. indented_text (map text l))
      (sym (pick-one items (get_or places i 0) x lt ∙ ap (λ y. y ∷ []) (sym is)))) put)
    where
      step : (j : ℕ) (js : List ℕ) → lines_at (j ∷ js) ≡ indented_text (map text (take 1 (drop j items)))
          ++ lines_at js
      step j js =
          ap indented_text (map-append text (take 1 (drop j items)) (picked items js))
          ∙ indented-append (map text (take 1 (drop j items))) (map text (picked items js))
