-- The first piece of what is left of a text.
use Rattle.std.proofs.Common.{◌≡◌, ◌<◌, ℕ, List, [], ◌∷◌, length, take, drop, refl, sym, ap, ◌∙◌, append-nil}
use Rattle.ot_lines.specs.Pieces.{pieces, EndsAt, IsOpenTo}
use Rattle.ot_lines.proofs.Pieces.{first-ends, first-all}

-- it ends at the first newline
pub first_whole : (len : ℕ) (rest : List ℕ) → EndsAt len rest → pieces rest ≡ take len rest ∷ pieces (drop len rest)
first_whole len rest ends =
    ap pieces (sym (append-nil rest)) ∙ first-ends len rest [] ends
    ∙ ap (λ z. take len rest ∷ pieces z) (append-nil (drop len rest))

-- it is all the rest, without a newline
pub first_open : (rest : List ℕ) → 0 < length rest → IsOpenTo (length rest) rest
    → pieces rest ≡ take (length rest) rest ∷ pieces (drop (length rest) rest)
first_open rest some none =
    ap pieces (sym (append-nil rest)) ∙ first-all (length rest) rest some refl none
    ∙ ap (λ z. take (length rest) rest ∷ pieces z) (append-nil (drop (length rest) rest))
