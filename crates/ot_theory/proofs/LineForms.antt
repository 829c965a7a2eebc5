-- The lines of a text hold no newline, and the parts of a line's form stand in it.
use Rattle.std.proofs.Common.{◌≡◌, ◌+◌, ℕ, List, [], ◌∷◌, ◌++◌, take, drop, Bool, true, false}
use Rattle.std.proofs.Common.{refl, sym, ap, ◌∙◌, subst, arith, inl, inr, append_assoc}
use Rattle.std.specs.Prelude.{◌⊎◌, codes, if◌then◌else◌}
use Rattle.std.specs.List.{AllByRecursion}
use Rattle.std.specs.Str.{bytes_eq}
use Rattle.std.proofs.lemmas.Bool.Decides.{eqb_tells}
use Rattle.std.proofs.lemmas.List.{take-append-drop}
use Rattle.ot_lines.specs.Pieces.{pieces, IsWhole, IsOpen, AreWhole, text_of, is_skipped, trim_front}
use Rattle.ot_lines.proofs.Pieces.{one_cut-from}
use Rattle.ot_logic.specs.Lists.{IsMember}
use Rattle.ot_theory.specs.Lines.{LineText, numbered_lines, lines_of}
use Rattle.ot_theory.specs.Forms.{LineForm, Statement, Opening, Closing, NoForm, form, form_after, identifier_len}
use Rattle.ot_theory.specs.Places.{newlines}
use Rattle.ot_theory.proofs.Trims.{newlines-append, newline_free, end_kept, text_in}

-- ---- lines

-- it holds no newline
pub record IsPlainLine (line : LineText) : Type 0 where
  pub plain : newlines line.text ≡ 0

first_plain : (before : ℕ) (p : List ℕ) (ps : List (List ℕ)) → (IsWhole p) ⊎ (IsOpen p)
    → AllByRecursion IsPlainLine (numbered_lines (before + 1) ps)
    → AllByRecursion IsPlainLine (numbered_lines before (p ∷ ps))
first_plain before p ps w others = by_skip (is_skipped (text_of p)) refl where
  by_skip : (b : Bool) → is_skipped (text_of p) ≡ b → AllByRecursion IsPlainLine (numbered_lines before (p ∷ ps))
  by_skip true skips = rw skips others
  by_skip false skips = rw skips (record { plain = (text_in p w).text_plain }, others)

plain_from : (before : ℕ) (ps : List (List ℕ)) → AreWhole ps → AllByRecursion IsPlainLine (numbered_lines before ps)
plain_from before [] w = tt
plain_from before (p ∷ []) w = first_plain before p [] w tt
plain_from before (p ∷ q ∷ qs) w = first_plain before p (q ∷ qs) (inl w.0) (plain_from (before + 1) (q ∷ qs) w.1)

pub plain_lines : (text : List ℕ) → AllByRecursion IsPlainLine (lines_of text)
plain_lines text = plain_from 0 (pieces text) (one_cut-from text (pieces text) refl).whole

-- ---- forms

-- a key begins the text and a value ends it; a name begins it
abbrev pub FormIn : LineForm → List ℕ → Type 0
FormIn (Statement key value) text = (gap : List ℕ) × (text ≡ key ++ (gap ++ value))
FormIn (Opening name) text = (rest : List ℕ) × (text ≡ name ++ rest)
FormIn Closing text = Unit {0}
FormIn NoForm text = Unit {0}

after_in : (text word gap rest : List ℕ) → text ≡ word ++ (gap ++ rest) → FormIn (form_after word rest) text
after_in text [] gap rest e = by_closing (bytes_eq rest (codes "}")) refl where
  by_closing : (b : Bool) → bytes_eq rest (codes "}") ≡ b → FormIn (form_after [] rest) text
  by_closing true is = rw is tt
  by_closing false is = rw is tt
after_in text (w ∷ ws) gap [] e = tt
after_in text (w ∷ ws) gap (b ∷ bs) e = elim (eqb_tells b 58) [
  | inl q ↦ let h = end_kept bs in
      rw q.0 (gap ++ b ∷ h.0, e ∙ ap (λ z. (w ∷ ws) ++ (gap ++ b ∷ z)) h.1 ∙ simp append_assoc)
  | inr q ↦ rw q.0 (by_opening (bytes_eq (b ∷ bs) (codes "{")) refl)
] where
  by_opening : (t : Bool) → bytes_eq (b ∷ bs)
      (codes "{") ≡ t → FormIn (if bytes_eq (b ∷ bs) (codes "{") then Opening (w ∷ ws) else NoForm) text
  by_opening true is = rw is (gap ++ b ∷ bs, e)
  by_opening false is = rw is tt

pub form_in : (text : List ℕ) → FormIn (form text) text
form_in text =
    let h = end_kept (drop (identifier_len text) text) in
    after_in text (take (identifier_len text) text) h.0 (trim_front (drop (identifier_len text) text))
    (sym (take-append-drop (identifier_len text) text) ∙ ap (λ z. take (identifier_len text) text ++ z) h.1)

-- so the value of a line holds no newline
pub value_plain : (line : LineText) (key value : List ℕ) → IsPlainLine line → form line.text ≡ Statement key value
    → ¬ (IsMember 10 value)
value_plain line key value p is =
    let h : FormIn (Statement key value) line.text =
    subst (λ (f : LineForm). FormIn f line.text) is (form_in line.text) in
    let total : newlines line.text ≡ newlines key + (newlines h.0 + newlines value) =
    ap newlines h.1 ∙ newlines-append key (h.0 ++ value) ∙ ap (λ n. newlines key + n) (newlines-append h.0 value) in
    newline_free value (omega (arith, total, p.plain))
