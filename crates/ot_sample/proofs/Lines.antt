-- The loops over words, and over the doubled terms.
use Rattle.std.specs.Prelude.{◌≡◌, ℕ, ◌+◌, ◌*◌, List, ◌++◌}
use Rattle.std.proofs.Common.{◌∙◌, ap, append_assoc}
use Rattle.ot_sample.specs.Sample.{opening, doubled, doublings, redex, equality, exported, sample}

pub sample-whole : (n k : ℕ) (text beta equal whole old new : List ℕ) → k ≡ n → text ≡ opening ++ doublings k
    → beta ≡ text ++ redex (6 + 2 * n) (8 + 2 * n) → equal ≡ beta ++ equality
    → whole ≡ equal ++ exported (8 + 2 * n) (7 + 2 * n) → new ≡ old ++ whole → new ≡ old ++ sample n
sample-whole n k text beta equal whole old new h e b q x g =
    g
    ∙ ap (λ z. old ++ z)
    (x ∙ ap (λ z. z ++ exported (8 + 2 * n) (7 + 2 * n))
    (q ∙ ap (λ z. z ++ equality)
    (b ∙ ap (λ z. z ++ redex (6 + 2 * n) (8 + 2 * n)) (e ∙ ap (λ z. opening ++ doublings z) h))))

-- one text more behind
pub onto : (old mid new x y : List ℕ) → mid ≡ old ++ x → new ≡ mid ++ y → new ≡ old ++ (x ++ y)
onto old mid new x y e f = f ∙ ap (λ z. z ++ y) e ∙ append_assoc old x y
