-- A text is read as what it stands for, and is refused where the forms refuse it.
use Rattle.std.specs.Prelude.{◌≡◌, ℕ, ◌+◌, ◌-◌, List, [], ◌∷◌, length, Result, Ok, Err}
use Rattle.std.proofs.Common.{refl, ap, subst, arith}
use Rattle.ot_logic.specs.Names.{Name}
use Rattle.ot_logic.specs.Trees.{Tm, Sequent, Symbol}
use Rattle.ot_forms.specs.declared.fault.TextFault.{TextFault}
use Rattle.ot_forms.specs.declared.fault.TextFault.TheVariants.{Syntax, TooManyOpen}
use Rattle.ot_forms.specs.Words.{IsNotation}
use Rattle.ot_forms.specs.Forms.{Written, WrittenSequent}
use Rattle.ot_forms.specs.Meaning.{Refusal, line_meaning, term_meaning}
use Rattle.ot_forms.specs.Refusals.{ReadsAs, IsRefused, ReadsAsTerm, IsTermRefused}
use Rattle.ot_forms.specs.Reading.{Reading, Got, Halted, NoForm, OneTooMany, line_at}
use Rattle.ot_parse.specs.ReadLines.{terms}
use Rattle.ot_parse.specs.Refused.{IsRefusal, IsTermRefusal}
use Rattle.ot_parse.specs.declared.refusal.ReadRefusal.TheVariants as refusals
use Rattle.ot_parse.proofs.Causes.{line-halts, line-trails, line-opens, line-reads, line-wrong}
use Rattle.ot_parse.proofs.Causes.{term-halts, term-trails, term-opens, term-reads, term-wrong}
use Rattle.ot_read.specs.Lines.{meant, line_read, term_read}
use Rattle.ot_read.specs.Laws.{IsByForms}

-- what was read is right
abbrev Tells : {A : Type 0} → (A → Type 0) → (ℕ → TextFault → Type 0) → Result A Refusal → Type 0
Tells Stands Refuses (Ok a) = Stands a
Tells Stands Refuses (Err (k, f)) = Refuses k f

-- and it is then the only answer that the forms give
told : {A : Type 0} (Stands : A → Type 0) (Refuses : ℕ → TextFault → Type 0) (read : Result A Refusal)
    → ((a b : A) → Stands a → Stands b → a ≡ b) → ((a : A) (k : ℕ) (f : TextFault) → Stands a → Refuses k f → ⊥)
    → ((k j : ℕ) (f g : TextFault) → Refuses k f → Refuses j g → (k ≡ j) × (f ≡ g))
    → Tells Stands Refuses read → IsByForms Stands Refuses read
told {A} Stands Refuses (Ok a) one apart same tells = record {
  stands = λ b. (λ e. let p : a ≡ b = cc in subst Stands p tells, λ h. ap Ok (one a b tells h));
  refused = λ k f. (λ e. absurd cc, λ h. absurd (apart a k f tells h));
}
told {A} Stands Refuses (Err (k, f)) one apart same tells = record {
  stands = λ b. (λ e. absurd cc, λ h. absurd (apart b k f h tells));
  refused = λ j g. (
    λ e. let p : ◌≡◌ {A = Refusal} (k, f) (j, g) = cc in subst (λ (r : Refusal). Refuses r.0 r.1) p tells,
    λ h. let p = same k j f g tells h in λ i. Err (p.0 i, p.1 i),
  );
}

one-less : (k : ℕ) → k + 1 - 1 ≡ k
one-less k = omega arith

module _ (hidden : List (Symbol Name)) (nt : IsNotation hidden) where
  -- ---- a line
  refused-at : (line : List ℕ) (k : ℕ) (f : TextFault) → IsRefusal hidden line (refusals.At (k + 1) f)
      → IsRefused hidden line k f
  refused-at line k f h = subst (λ j. IsRefused hidden line j f) (one-less k) h.1

  line-tells : (line : List ℕ) (o : Reading WrittenSequent) → line_at (terms hidden) line ≡ o
      → Tells (ReadsAs hidden line) (IsRefused hidden line) (meant (line_meaning hidden) line o)
  line-tells line (Got q []) e = go (line_meaning hidden q) refl where
    go : (m : Result (Sequent Name) Refusal) → line_meaning hidden q ≡ m
        → Tells (ReadsAs hidden line) (IsRefused hidden line) m
    go (Ok s) h = line-reads hidden nt line q s e h
    go (Err (k, f)) h = refused-at line k f (line-wrong hidden nt line q k f e h)
  line-tells line (Got q (b ∷ t)) e =
      refused-at line (length line - length (b ∷ t)) Syntax (line-trails hidden nt line q b t e)
  line-tells line (Halted NoForm r) e =
      refused-at line (length line - length r) Syntax (line-halts hidden nt line r e)
  line-tells line (Halted OneTooMany r) e =
      refused-at line (length line - length r) TooManyOpen (line-opens hidden nt line r e)

  line-read-tells : (line : List ℕ) → Tells (ReadsAs hidden line) (IsRefused hidden line) (line_read hidden line)
  unfolding line_read
  line-read-tells line = line-tells line (line_at (terms hidden) line) refl

  pub line-by-forms : (line : List ℕ) → ((s t : Sequent Name) → ReadsAs hidden line s → ReadsAs hidden line t → s ≡ t)
      → ((s : Sequent Name) (k : ℕ) (f : TextFault) → ReadsAs hidden line s → IsRefused hidden line k f → ⊥)
      → ((k j : ℕ) (f g : TextFault) → IsRefused hidden line k f → IsRefused hidden line j g → (k ≡ j) × (f ≡ g))
      → IsByForms (ReadsAs hidden line) (IsRefused hidden line) (line_read hidden line)
  line-by-forms line one apart same = told (ReadsAs hidden line) (IsRefused hidden line) (line_read hidden line) one
      apart same (line-read-tells line)

  -- ---- a text of one term
  term-refused-at : (text : List ℕ) (k : ℕ) (f : TextFault) → IsTermRefusal hidden text (refusals.At (k + 1) f)
      → IsTermRefused hidden text k f
  term-refused-at text k f h = subst (λ j. IsTermRefused hidden text j f) (one-less k) h.1

  term-tells : (text : List ℕ) (o : Reading Written) → terms hidden text ≡ o
      → Tells (ReadsAsTerm hidden text) (IsTermRefused hidden text) (meant (term_meaning hidden) text o)
  term-tells text (Got w []) e = go (term_meaning hidden w) refl where
    go : (m : Result (Tm Name) Refusal) → term_meaning hidden w ≡ m
        → Tells (ReadsAsTerm hidden text) (IsTermRefused hidden text) m
    go (Ok t) h = term-reads hidden nt text w t e h
    go (Err (k, f)) h = term-refused-at text k f (term-wrong hidden nt text w k f e h)
  term-tells text (Got w (b ∷ t)) e =
      term-refused-at text (length text - length (b ∷ t)) Syntax (term-trails hidden nt text w b t e)
  term-tells text (Halted NoForm r) e =
      term-refused-at text (length text - length r) Syntax (term-halts hidden nt text r e)
  term-tells text (Halted OneTooMany r) e =
      term-refused-at text (length text - length r) TooManyOpen (term-opens hidden nt text r e)

  term-read-tells : (text : List ℕ) → Tells (ReadsAsTerm hidden text) (IsTermRefused hidden text)
      (term_read hidden text)
  unfolding term_read
  term-read-tells text = term-tells text (terms hidden text) refl

  pub term-by-forms : (text : List ℕ)
      → ((s t : Tm Name) → ReadsAsTerm hidden text s → ReadsAsTerm hidden text t → s ≡ t)
      → ((s : Tm Name) (k : ℕ) (f : TextFault) → ReadsAsTerm hidden text s → IsTermRefused hidden text k f → ⊥)
      → ((k j : ℕ) (f g : TextFault) → IsTermRefused hidden text k f → IsTermRefused hidden text j g
      → (k ≡ j) × (f ≡ g))
      → IsByForms (ReadsAsTerm hidden text) (IsTermRefused hidden text) (term_read hidden text)
  term-by-forms text one apart same = told (ReadsAsTerm hidden text) (IsTermRefused hidden text)
      (term_read hidden text) one apart same (term-read-tells text)
