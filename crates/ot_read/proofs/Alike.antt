-- What lines are read as depends on the set of the hidden symbols alone.
use Rattle.std.specs.Prelude.{◌≡◌, ℕ, List, [], ◌∷◌, Result, Ok, Err}
use Rattle.std.proofs.Common.{refl, sym}
use Rattle.ot_logic.specs.Answers.{◌>>=◌}
use Rattle.ot_logic.specs.Names.{Name}
use Rattle.ot_logic.specs.Trees.{Symbol}
use Rattle.ot_theory.specs.Lines.{LineText}
use Rattle.ot_forms.specs.declared.fault.TextFault.{TextFault}
use Rattle.ot_forms.specs.Meaning.{Refusal}
use Rattle.ot_forms.specs.Words.{IsNotation}
use Rattle.ot_forms.specs.Refusals.{ReadsAs, IsRefused, ReadsAsTerm, IsTermRefused}
use Rattle.ot_forms.proofs.SameSymbols.{AreAlike}
use Rattle.ot_forms.proofs.SameReading.{same-reads-as, same-refused, same-reads-as-term, same-term-refused}
use Rattle.ot_read.specs.Lines.{line_read, term_read, at_line, lines_read}
use Rattle.ot_read.specs.Laws.{IsByForms, LinesReadByForms, TermsReadByForms}

-- two readings by forms that say the same
agree : {A : Type 0} (S T : A → Type 0) (R Q : ℕ → TextFault → Type 0) (x y : Result A Refusal) → IsByForms S R x
    → IsByForms T Q y
    → ((a : A) → S a → T a) → ((k : ℕ) (f : TextFault) → R k f → Q k f) → x ≡ y
agree S T R Q (Ok a) y left right stands refused = sym ((right.stands a).1 (stands a ((left.stands a).0 refl)))
agree S T R Q (Err (k, f)) y left right stands refused =
    sym ((right.refused k f).1 (refused k f ((left.refused k f).0 refl)))

module _ (hs gs : List (Symbol Name)) (same : AreAlike hs gs) (here : IsNotation hs) (there : IsNotation gs) where
  line-alike : LinesReadByForms → (line : List ℕ) → line_read hs line ≡ line_read gs line
  line-alike forms line = agree (ReadsAs hs line) (ReadsAs gs line) (IsRefused hs line) (IsRefused gs line)
      (line_read hs line) (line_read gs line)
      (forms hs here line) (forms gs there line) (same-reads-as hs gs same here line)
      (same-refused hs gs same here line)

  pub term-alike : TermsReadByForms → (text : List ℕ) → term_read hs text ≡ term_read gs text
  term-alike forms text = agree (ReadsAsTerm hs text) (ReadsAsTerm gs text) (IsTermRefused hs text)
      (IsTermRefused gs text) (term_read hs text) (term_read gs text)
      (forms hs here text) (forms gs there text) (same-reads-as-term hs gs same here text)
      (same-term-refused hs gs same here text)

  pub lines-alike : LinesReadByForms → (ls : List LineText) → lines_read hs ls ≡ lines_read gs ls
  lines-alike forms [] = refl
  lines-alike forms (l ∷ ls) =
      let first = line-alike forms l.text in
      let others = lines-alike forms ls in
      λ i. at_line l.number (first i) >>= λ q. others i >>= λ qs. Ok (q ∷ qs)
