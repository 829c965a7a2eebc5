-- The texts of sequents, so far as they are written.
use Rattle.std.specs.Prelude.{◌≡◌, ◌<◌, ◌≤◌, ℕ, ◌+◌, List, [], ◌∷◌, ◌++◌, map, length, take, flat_map, get_or}
use Rattle.std.proofs.Common.{sym, ◌∙◌, ap, subst, arith, length-append}
use Rattle.std.proofs.lemmas.List.Folds.{flat_map-map, length-flat_map-take}
use Rattle.ot_text.specs.Texts.{sequent_text}
use Rattle.ot_parse.specs.declared.readable.Readable.{Readable}
use Rattle.ot_parse.specs.Plain.{sequent_of}
use Rattle.ot_read.specs.Lines.{sequent_lines}

-- the line of a sequent that was read
abbrev pub line_of : Readable → List ℕ
line_of r = sequent_text (sequent_of r) ++ 10 ∷ []

-- the lines of the first of them
abbrev pub lines_to : ℕ → List Readable → List ℕ
lines_to n rs = flat_map line_of (take n rs)

pub lines_are : (rs : List Readable) → flat_map line_of rs ≡ sequent_lines (map sequent_of rs)
lines_are rs = sym (flat_map-map (λ q. sequent_text q ++ 10 ∷ []) sequent_of rs)

module _ (rs : List Readable) (i : ℕ) (r : Readable) (within : i < length rs) (is : r ≡ get_or rs i r) where
  -- all are at least as long
  whole : length (lines_to i rs) + length (line_of r) ≤ length (flat_map line_of rs)
  whole = subst (λ x. length (lines_to i rs) + length (line_of x) ≤ length (flat_map line_of rs)) (sym is)
      (length-flat_map-take line_of rs i r within)

  long : length (line_of r) ≡ length (sequent_text (sequent_of r)) + 1
  long = length-append (sequent_text (sequent_of r)) (10 ∷ [])

  -- a text that doesn't fit
  pub past : (old : List ℕ) (max room : ℕ) → old ≡ lines_to i rs → length old + room ≡ max
      → room < length (sequent_text (sequent_of r)) → max < length (sequent_lines (map sequent_of rs))
  past old max room before left over =
      let a = ap length before in
      let w = whole in
      let l = long in
      let e = ap length (lines_are rs) in
      omega arith

  -- or its newline
  pub past-end : (old text : List ℕ) (max : ℕ) → old ≡ lines_to i rs → text ≡ old ++ sequent_text (sequent_of r)
      → length text ≡ max → max < length (sequent_lines (map sequent_of rs))
  past-end old text max before put full =
      let a = ap length before in
      let b = ap length put ∙ length-append old (sequent_text (sequent_of r)) in
      let w = whole in
      let l = long in
      let e = ap length (lines_are rs) in
      omega arith
