-- How many bytes are read.
use Rattle.std.specs.Prelude.{◌≡◌, ℕ, suc, ◌+◌, ◌==◌, Bool, true, false}
use Rattle.std.specs.Prelude.{cond, List, [], ◌∷◌, length, codes}
use Rattle.std.proofs.Common.{refl, sym, ◌∙◌, ap, subst, arith, length-append}
use Rattle.ot_logic.specs.Names.{Name}
use Rattle.ot_logic.specs.Trees.{Ty, Symbol}
use Rattle.ot_forms.specs.Words.{IsNotation, is_letter, is_inner, is_sign}
use Rattle.ot_forms.specs.Forms.{Written, type_text, term_text}
use Rattle.ot_forms.specs.Reading.{Reading, Got, Halted, NoForm, mapped, literal_at, part_at}
use Rattle.ot_forms.specs.Reading.{part_on, signs_at, signs_on, constant_at, type_at, term_at}
use Rattle.ot_forms.proofs.Readers.{IsRead, Follows}
use Rattle.ot_forms.proofs.Types.{SaysType}
use Rattle.ot_forms.proofs.Terms.{SaysTerm}
use Rattle.ot_forms.proofs.TypeLaw.{reads}
use Rattle.ot_forms.proofs.TermLaw.{term_reads}

pub got-value : {A : Type 0} {x y : A} {s t : List ℕ} → Got x s ≡ Got y t → x ≡ y
got-value e = cc

pub got-rest : {A : Type 0} {x y : A} {s t : List ℕ} → Got x s ≡ Got y t → s ≡ t
got-rest e = cc

pub literal-length : {u : Unit {0}} (w s r : List ℕ) → literal_at w s ≡ Got u r → length s ≡ length w + length r
literal-length [] s r e = let p = ap length (got-rest e) in omega (arith, p)
literal-length (c ∷ w) [] r e = cc
literal-length {u} (c ∷ w) (b ∷ s) r e = go (literal-length w s r) (b == c) e where
  go : (literal_at w s ≡ Got u r → length s ≡ length w + length r) → (t : Bool)
      → cond t (literal_at w s) (Halted NoForm (b ∷ s)) ≡ Got u r → length (b ∷ s) ≡ length (c ∷ w) + length r
  go ih true k = let p = ih k in omega (arith, p)
  go ih false k = cc

pub space-length : {u : Unit {0}} (s r : List ℕ) → literal_at (codes " ") s ≡ Got u r → length s ≡ suc (length r)
space-length s r e = let p : length s ≡ 1 + length r = literal-length (codes " ") s r e in omega (arith, p)

pub colon-length : {u : Unit {0}} (s r : List ℕ) → literal_at (codes " : ") s ≡ Got u r → length s ≡ 3 + length r
colon-length s r e = literal-length (codes " : ") s r e

pub point-length : {u : Unit {0}} (s r : List ℕ) → literal_at (codes " . ") s ≡ Got u r → length s ≡ 3 + length r
point-length s r e = literal-length (codes " . ") s r e

module _ (test : ℕ → Bool) (on : List ℕ → Reading (List ℕ)) (nil : on [] ≡ Got [] [])
    (step : (b : ℕ) (s : List ℕ) → on (b ∷ s) ≡ cond (test b) (mapped (λ x. b ∷ x) (on s)) (Got [] (b ∷ s))) where
  abbrev HasLength : List ℕ → Type 0
  HasLength s = (x r : List ℕ) → on s ≡ Got x r → length s ≡ length x + length r

  on-length : (s : List ℕ) → HasLength s
  on-length [] x r e = let k = sym nil ∙ e in let p = ap length (got-value k) in let q = ap length (got-rest k) in
      omega (arith, p, q)
  on-length (b ∷ s) x r e = go (on-length s) (test b) (on s) refl (sym (step b s) ∙ e) where
    go : HasLength s → (t : Bool) (o : Reading (List ℕ)) → on s ≡ o → cond t (mapped (λ x. b ∷ x) o) (Got [] (b ∷ s))
        ≡ Got x r → length (b ∷ s) ≡ length x + length r
    go ih true (Got y q) p k = let a = ih y q p in let v = ap length (got-value k) in
        let w = ap length (got-rest k) in omega (arith, a, v, w)
    go ih true (Halted j q) p k = cc
    go ih false o p k = let v = ap length (got-value k) in let w = ap length (got-rest k) in omega (arith, v, w)

  first-length : (first : ℕ → Bool) (b : ℕ) (s x r : List ℕ) → cond (first b) (mapped (λ x. b ∷ x) (on s))
      (Halted NoForm (b ∷ s)) ≡ Got x r → length (b ∷ s) ≡ length x + length r
  first-length first b s x r e = go (first b) (on s) refl e where
    go : (t : Bool) (o : Reading (List ℕ)) → on s ≡ o → cond t (mapped (λ x. b ∷ x) o) (Halted NoForm (b ∷ s))
        ≡ Got x r → length (b ∷ s) ≡ length x + length r
    go true (Got y q) p k = let a = on-length s y q p in let v = ap length (got-value k) in
        let w = ap length (got-rest k) in omega (arith, a, v, w)
    go true (Halted j q) p k = cc
    go false o p k = cc

pub part-length : (s x r : List ℕ) → part_at s ≡ Got x r → length s ≡ length x + length r
part-length [] x r e = cc
part-length (b ∷ s) x r e = first-length is_inner part_on refl (λ b s. refl) is_letter b s x r e

pub signs-length : (s x r : List ℕ) → signs_at s ≡ Got x r → length s ≡ length x + length r
signs-length [] x r e = cc
signs-length (b ∷ s) x r e = first-length is_sign signs_on refl (λ b s. refl) is_sign b s x r e

module _ (hidden : List (Symbol Name)) (nt : IsNotation hidden) where
  pub type-length : (m : ℕ) (s : List ℕ) (t : Ty Name) (r : List ℕ) → type_at hidden m s ≡ Got t r
      → length s ≡ length (type_text hidden t) + length r
  type-length m s t r e =
      let h : IsRead (SaysType hidden m) (type_at hidden m) s t r =
      subst (Follows (SaysType hidden m) (type_at hidden m) s) e ((reads hidden nt m).follows s) in
      ap length h.is ∙ length-append h.text r ∙ ap (λ z. length z + length r) h.says.text

  pub term-length : (m : ℕ) (s : List ℕ) (a : Written) (r : List ℕ) → term_at hidden (constant_at hidden) m s
      ≡ Got a r → length s ≡ length (term_text hidden a) + length r
  term-length m s a r e =
      let h : IsRead (SaysTerm hidden m) (term_at hidden (constant_at hidden) m) s a r =
      subst (Follows (SaysTerm hidden m) (term_at hidden (constant_at hidden) m) s) e
      ((term_reads hidden nt m).follows s) in
      ap length h.is ∙ length-append h.text r ∙ ap (λ z. length z + length r) h.says.text
