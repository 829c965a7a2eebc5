-- The lines of what theorems rest on, piece by piece.
use Rattle.std.specs.Prelude.{◌≡◌, ℕ, ◌+◌, ◌<◌, List, [], ◌∷◌, ◌++◌, length, codes}
use Rattle.std.proofs.Common.{◌∙◌, ap, append_assoc, arith, length-append}
use Rattle.ot_text.specs.Texts.{number_text}
use Rattle.ot_text.specs.Gathered.{bytes_in}
use Rattle.ot_text.specs.Sections.{indented_text}
use Rattle.ot_text.proofs.SectionPieces.{indented-bytes}
use Rattle.ot_uses.specs.Texts.{counted_text}

-- the line with the count, and the lines
pub counted-pieces : (title : List ℕ) (n : ℕ) (xs : List (List ℕ)) → n ≡ length xs
    → (codes "  " ++ title ++ codes ": " ++ number_text n ++ 10 ∷ []) ++ indented_text xs ≡ counted_text title xs
counted-pieces title n xs q =
    append_assoc (codes "  " ++ title ++ codes ": " ++ number_text n) (10 ∷ []) (indented_text xs)
    ∙ ap (λ k. codes "  " ++ title ++ codes ": " ++ number_text k ++ 10 ∷ indented_text xs) q

-- they have at least the bytes of the texts
pub counted-bytes : (room : ℕ) (title : List ℕ) (xs : List (List ℕ)) → room < bytes_in xs
    → room < length (counted_text title xs)
counted-bytes room title xs h =
    let items = indented-bytes xs in
    let n = length-append (codes "  " ++ title ++ codes ": " ++ number_text (length xs)) (10 ∷ indented_text xs) in
    omega arith
