-- Parts of a text with a separator between two.
use Rattle.std.specs.Prelude.{ℕ, Bool, true, false, List, [], ◌∷◌, ◌++◌}
use Rattle.ot_text.specs.Texts.{hyps_text, further_hyps}

-- what stands before a part, the first or a further one
abbrev pub separator : Bool → List ℕ → List ℕ
separator true s = []
separator false s = s

-- the further parts, the separator before each
abbrev pub further : List ℕ → List (List ℕ) → List ℕ
further s [] = []
further s (x ∷ xs) = s ++ x ++ further s xs

-- all parts
abbrev pub separated : List ℕ → List (List ℕ) → List ℕ
separated s [] = []
separated s (x ∷ xs) = x ++ further s xs

-- the parts from the first or from a further one on
abbrev pub separated_from : Bool → List ℕ → List (List ℕ) → List ℕ
separated_from true s xs = separated s xs
separated_from false s xs = further s xs

-- the hypotheses from the first or from a further one on, and the turnstile
abbrev pub hyps_from : Bool → List (List ℕ) → List ℕ
hyps_from true xs = hyps_text xs
hyps_from false xs = further_hyps xs
