-- The sections of a summary and indented lines, piece by piece.
use Rattle.std.specs.Prelude.{◌≡◌, ℕ, suc, ◌+◌, ◌<◌, ◌≤◌, Bool, true, false, List, [], ◌∷◌, ◌++◌, map, length, codes}
use Rattle.std.proofs.Common.{refl, sym, ◌∙◌, ap, append_assoc, arith, length-append, get_or}
use Rattle.ot_text.specs.Texts.{number_text}
use Rattle.ot_text.specs.Sections.{items_text, section_text, indented_text}
use Rattle.ot_text.specs.Gathered.{bytes_in}
use Rattle.ot_text.specs.Pages.{Printed, IsPut}
use Rattle.ot_text.proofs.Putting.{Puts, puts-more, same-text}

-- a section has at least the bytes of its items
pub items-bytes : (xs : List (List ℕ)) → bytes_in xs ≤ length (items_text xs)
items-bytes [] = omega arith
items-bytes (x ∷ xs) =
    let more = items-bytes xs in
    let n : length (codes "  " ++ x ++ 10 ∷ items_text xs) ≡ suc (suc (length x + suc (length (items_text xs)))) =
    ap (λ k. suc (suc k)) (length-append x (10 ∷ items_text xs)) in
    omega arith

-- an item's line, followed by those of the others
pub items-first : (x y : List ℕ) (xs : List (List ℕ)) → y ≡ x → items_text (x ∷ xs) ≡ codes "  " ++ y ++ codes "\n"
    ++ items_text xs
items-first x y xs p =
    ap (λ z. codes "  " ++ z ++ 10 ∷ items_text xs) (sym p)
    ∙ sym (append_assoc (codes "  " ++ y) (10 ∷ []) (items_text xs))

pub items-more : {X : Type 0} (f : X → List ℕ) (xs : List X) (i : ℕ) (x : X) (s0 s t : Printed) → i < length xs
    → x ≡ get_or xs i x
    → Puts (λ ys. items_text (map f ys)) xs i s0 s → IsPut (codes "  " ++ f x ++ codes "\n") s t
    → Puts (λ ys. items_text (map f ys)) xs (i + 1) s0 t
items-more f xs i x s0 s t h p before put =
    puts-more (λ ys. items_text (map f ys)) (λ y. codes "  " ++ f y ++ codes "\n")
    (λ y ys. items-first (f y) (f y) (map f ys) refl) xs i x s0 s t h before
    (same-text (ap (λ y. codes "  " ++ f y ++ codes "\n") p) put)

-- a section that is asked for: its title, how many items it has, and their lines
pub section-pieces : (b : Bool) (title : List ℕ) (n : ℕ) (xs : List (List ℕ)) → b ≡ true → n ≡ length xs
    → (title ++ codes ": " ++ number_text n ++ 10 ∷ []) ++ items_text xs ≡ section_text b title xs
section-pieces true title n xs p q =
    append_assoc (title ++ codes ": " ++ number_text n) (10 ∷ []) (items_text xs)
    ∙ ap (λ k. title ++ codes ": " ++ number_text k ++ 10 ∷ items_text xs) q
section-pieces false title n xs p q = cc

-- a section has at least the bytes of its items
pub section-bytes : (room : ℕ) (b : Bool) (title : List ℕ) (xs : List (List ℕ)) → b ≡ true → room < bytes_in xs
    → room < length (section_text b title xs)
section-bytes room true title xs p h =
    let items = items-bytes xs in
    let n = length-append (title ++ codes ": " ++ number_text (length xs)) (10 ∷ items_text xs) in
    omega arith
section-bytes room false title xs p h = cc

-- ---- lines behind four spaces

-- they have at least the bytes of the texts
pub indented-bytes : (xs : List (List ℕ)) → bytes_in xs ≤ length (indented_text xs)
indented-bytes [] = omega arith
indented-bytes (x ∷ xs) =
    let more = indented-bytes xs in
    let n : length (codes "    " ++ x ++ 10 ∷ indented_text xs)
    ≡ suc (suc (suc (suc (length x + suc (length (indented_text xs)))))) =
    ap (λ k. suc (suc (suc (suc k)))) (length-append x (10 ∷ indented_text xs)) in
    omega arith

pub indented-room : (room : ℕ) (xs : List (List ℕ)) → room < bytes_in xs → room < length (indented_text xs)
indented-room room xs h = let more = indented-bytes xs in omega arith

-- a line, followed by those of the others
pub indented-first : (x y : List ℕ) (xs : List (List ℕ)) → y ≡ x
    → indented_text (x ∷ xs) ≡ codes "    " ++ y ++ codes "\n" ++ indented_text xs
indented-first x y xs p =
    ap (λ z. codes "    " ++ z ++ 10 ∷ indented_text xs) (sym p)
    ∙ sym (append_assoc (codes "    " ++ y) (10 ∷ []) (indented_text xs))
