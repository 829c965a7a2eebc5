-- The readable text of a term is read back as the term.
use Rattle.std.specs.Prelude.{◌≡◌, ℕ, ◌||◌, Bool, true, false, cond, List, [], ◌∷◌, Some}
use Rattle.std.proofs.Common.{refl, sym, ◌∙◌, ap}
use Rattle.std.proofs.lemmas.Slice.Eq.{bytes_eq-Decides}
use Rattle.ot_logic.specs.Names.{Name, same_name, same_name-Decides}
use Rattle.ot_logic.specs.Trees.{Ty, Tm, Symbol, ConSymbol, OpSymbol}
use Rattle.ot_forms.specs.Words.{same_text, base, is_hidden}
use Rattle.ot_forms.specs.Forms.{HaveTermNames}
use Rattle.ot_forms.specs.Meaning.{constant_of}
use Rattle.ot_forms.specs.Reading.{constant_at}
use Rattle.ot_forms.proofs.Types.{IsEnd}
use Rattle.ot_forms.specs.Words.{IsNotation}
use Rattle.ot_forms.proofs.ConstantWords.{constant-reads}
use Rattle.ot_forms.proofs.RoundTrip.{HasConstants, IsFine}
use Rattle.ot_forms.proofs.Printed.{ReadsBack, reads-back}

or-right : (p : Bool) → (p || true) ≡ true
or-right true = refl
or-right false = refl

pub constant_of-some : (h : List (Symbol Name)) (o : List ℕ) (m : Name) → constant_of h o ≡ Some m
    → (is_hidden h (ConSymbol m) ≡ true) × (base m ≡ o)
constant_of-some [] o m e = cc
constant_of-some (OpSymbol n ∷ h) o m e = constant_of-some h o m e
constant_of-some (ConSymbol n ∷ h) o m e = go (constant_of-some h o m) (same_text (base n) o) refl e where
  go : (constant_of h o ≡ Some m → (is_hidden h (ConSymbol m) ≡ true) × (base m ≡ o)) → (t : Bool)
      → same_text (base n) o ≡ t → cond t (Some n) (constant_of h o) ≡ Some m
      → (is_hidden (ConSymbol n ∷ h) (ConSymbol m) ≡ true) × (base m ≡ o)
  go ih true q e = let v : n ≡ m = cc in (
    (λ i. (same_name-Decides m n).1 (sym v) i || is_hidden h (ConSymbol m)),
    ap base (sym v)
        ∙ (bytes_eq-Decides (base n) o).0 q,
  )
  go ih false q e = let w = ih e in (ap (λ t. same_name m n || t) w.0 ∙ or-right (same_name m n), w.1)

pub constant_of-has : (h : List (Symbol Name)) (n : Name) → is_hidden h (ConSymbol n) ≡ true
    → (m : Name) × (constant_of h (base n) ≡ Some m)
constant_of-has [] n e = cc
constant_of-has (OpSymbol k ∷ h) n e = constant_of-has h n e
constant_of-has (ConSymbol k ∷ h) n e = go (constant_of-has h n) (same_text (base k) (base n)) refl e where
  go : (is_hidden h (ConSymbol n) ≡ true → (m : Name) × (constant_of h (base n) ≡ Some m)) → (t : Bool)
      → same_text (base k) (base n) ≡ t → (same_name n k || is_hidden h (ConSymbol n)) ≡ true
      → (m : Name) × (cond t (Some k) (constant_of h (base n)) ≡ Some m)
  go ih true q e = (k, refl)
  go ih false q e = ih (other (same_name n k) refl e)
    where
      other : (t : Bool) → same_name n k ≡ t → (t || is_hidden h (ConSymbol n)) ≡ true → is_hidden h (ConSymbol n)
          ≡ true
      other true p e = let v = (same_name-Decides n k).0 p in let z : same_text (base k) (base n) ≡ true =
          (bytes_eq-Decides (base k) (base n)).1 (ap base (sym v)) in cc
      other false p e = e

pub has-constants : (hidden : List (Symbol Name)) → IsNotation hidden → HasConstants hidden
has-constants hidden nt n h =
    let w = constant_of-has hidden n h in
    let p = constant_of-some hidden (base n) w.0 w.1 in
    w.1 ∙ ap Some (nt.alone (ConSymbol w.0) (ConSymbol n) p.0 h refl p.1)

-- a well typed term within the nesting limit: its readable text, followed by an end, is read as a written term that
-- stands for it
pub term-reads-back : (hidden : List (Symbol Name)) (nt : IsNotation hidden) (t : Tm Name) (ty : Ty Name)
    → HaveTermNames t → IsFine [] t ty → (r : List ℕ) → IsEnd r
    → ReadsBack hidden nt (has-constants hidden nt) (constant_at hidden) (constant-reads hidden nt) t r
term-reads-back hidden nt t ty hn h r e = reads-back hidden nt (has-constants hidden nt) (constant_at hidden)
    (constant-reads hidden nt) t ty hn h r e
