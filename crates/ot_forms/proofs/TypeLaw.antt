-- Where reading a type halts.
use Rattle.std.specs.Prelude.{ℕ, zero, suc, ◌==◌, not, Bool}
use Rattle.std.specs.Prelude.{true, false, cond, List, [], ◌∷◌, codes}
use Rattle.std.proofs.Common.{refl, arith}
use Rattle.ot_logic.specs.Names.{Name}
use Rattle.ot_logic.specs.Trees.{Ty, TyVar, TyOp, NoTys, Symbol, OpSymbol}
use Rattle.ot_forms.specs.Words.{is_letter, is_inner, is_bare, is_hidden}
use Rattle.ot_forms.specs.Reading.{NoForm, OneTooMany, Reading, Got, Halted, mapped, kept, before}
use Rattle.ot_forms.specs.Reading.{is_special, literal_at, bare_at, bare_on, spelled_at, escaped_at, quoted_at}
use Rattle.ot_forms.specs.Reading.{settled, is_spelled, variable_at, operator_at, closed_type_at, type_by, type_at}
use Rattle.ot_forms.proofs.Readers.{Reads}
use Rattle.ot_forms.proofs.Types.{SaysType, IsEnd, closed-reads}
use Rattle.ot_forms.proofs.TypeDepths.{type-reads}
use Rattle.ot_forms.proofs.Spellings.{variable-reads}
use Rattle.ot_forms.proofs.OperatorWords.{operator-reads, word-starts}
use Rattle.ot_forms.specs.Words.{IsNotation}
use Rattle.ot_forms.proofs.Growing.{Grows, Shrinks, reads-shrinks, IsPlain, plain-grows, literal-plain}
use Rattle.ot_forms.proofs.Growing.{mapped-plain, kept-plain, next-plain, cond-grows, closed-grows}

pub cond-plain : {A : Type 0} (t : Bool) (o p : Reading A) → IsPlain o → IsPlain p → IsPlain (cond t o p)
cond-plain true o p h k = h
cond-plain false o p h k = k

mutual
  pub bare-plain : (s : List ℕ) → IsPlain (bare_at s)
  bare-plain [] = tt
  bare-plain (b ∷ s) = cond-plain (is_letter b) (mapped (before b) (bare_on s)) (Halted NoForm (b ∷ s))
      (mapped-plain (before b) (bare_on s) (on-plain s)) tt

  on-plain : (s : List ℕ) → IsPlain (bare_on s)
  on-plain [] = tt
  on-plain (b ∷ s) =
      cond-plain (is_inner b) (mapped (before b) (bare_on s))
      (cond (b == 46) (mapped (λ n. [] ∷ n) (bare_at s)) (Got ([] ∷ []) (b ∷ s)))
      (mapped-plain (before b) (bare_on s) (on-plain s))
      (cond-plain (b == 46) (mapped (λ n. [] ∷ n) (bare_at s)) (Got ([] ∷ []) (b ∷ s))
      (mapped-plain (λ n. [] ∷ n) (bare_at s) (bare-plain s)) tt)

mutual
  spelled-plain : (s : List ℕ) → IsPlain (spelled_at s)
  spelled-plain [] = tt
  spelled-plain (b ∷ s) =
      cond-plain (b == 34) _ _ tt
      (cond-plain (b == 92) _ _ (escaped-plain s)
      (cond-plain (b == 46) _ _ (mapped-plain (λ n. [] ∷ n) (spelled_at s) (spelled-plain s))
      (mapped-plain (before b) (spelled_at s) (spelled-plain s))))

  escaped-plain : (s : List ℕ) → IsPlain (escaped_at s)
  escaped-plain [] = tt
  escaped-plain (b ∷ s) = cond-plain (is_special b) _ _ (mapped-plain (before b) (spelled_at s) (spelled-plain s)) tt

pub quoted-plain : (good : Name → Bool) (s : List ℕ) → IsPlain (quoted_at good s)
quoted-plain good s = next-plain (kept good (spelled_at s)) (λ n r. mapped (λ _. n) (literal_at (codes "\"") r))
    (kept-plain good (spelled_at s) (spelled-plain s))
    (λ n r. mapped-plain (λ _. n) (literal_at (codes "\"") r) (literal-plain (codes "\"") r))

pub variable-plain : (s : List ℕ) → IsPlain (variable_at s)
variable-plain [] = tt
variable-plain (b ∷ s) = cond-plain (b == 34) _ _ (quoted-plain (λ n. not (is_bare n)) s) (bare-plain (b ∷ s))

operator-plain : (hidden : List (Symbol Name)) (s : List ℕ) → IsPlain (operator_at hidden s)
operator-plain hidden [] = tt
operator-plain hidden (b ∷ s) = cond-plain (b == 34) _ _ (quoted-plain (λ n. is_spelled hidden (OpSymbol n)) s)
    (mapped-plain (settled hidden OpSymbol) (kept (λ n. not (is_hidden hidden (OpSymbol n))) (bare_at (b ∷ s)))
    (kept-plain (λ n. not (is_hidden hidden (OpSymbol n))) (bare_at (b ∷ s)) (bare-plain (b ∷ s))))

module _ (hidden : List (Symbol Name)) (nt : IsNotation hidden) where
  -- the reader of types reads each type's text with at most n open, and halts where none goes on
  pub reads : (n : ℕ) → Reads (SaysType hidden n) IsEnd (type_at hidden n)
  reads = type-reads hidden variable-reads (operator-reads hidden nt) (word-starts hidden nt)

  pub shrinks : (n : ℕ) → Shrinks (type_at hidden n)
  shrinks n = reads-shrinks (SaysType hidden n) IsEnd (type_at hidden n) (reads n)

  closed-shrinks : (n : ℕ) → Shrinks (closed_type_at hidden (type_at hidden n))
  closed-shrinks n = let h = closed-reads hidden n (type_at hidden n) (reads n) (operator-reads hidden nt)
      (word-starts hidden nt) in reads-shrinks _ _ (closed_type_at hidden (type_at hidden n)) h

  operator-shrinks : Shrinks (operator_at hidden)
  operator-shrinks = reads-shrinks _ _ (operator_at hidden) (operator-reads hidden nt)

  by-grows : (f g : List ℕ → Reading (Ty Name)) → ((s : List ℕ) → Grows (f s) (g s)) → (s : List ℕ)
      → Grows (type_by hidden f s) (type_by hidden g s)
  by-grows f g h [] = refl
  by-grows f g h (b ∷ s) = cond-grows (b == 39) _ _ _ _
      (plain-grows (mapped TyVar (variable_at s)) (mapped-plain TyVar (variable_at s) (variable-plain s)))
      (cond-grows (b == 40) _ _ _ _ (h s) (plain-grows (mapped (λ n. TyOp n NoTys) (operator_at hidden (b ∷ s)))
      (mapped-plain (λ n. TyOp n NoTys) (operator_at hidden (b ∷ s)) (operator-plain hidden (b ∷ s)))))

  pub grows : (n : ℕ) (s : List ℕ) → Grows (type_at hidden n s) (type_at hidden (suc n) s)
  grows zero s = by-grows (λ s. Halted OneTooMany (40 ∷ s)) (closed_type_at hidden (type_at hidden zero))
      (λ s. let w = closed-shrinks zero s in omega (arith, w)) s
  grows (suc n) s =
      by-grows (closed_type_at hidden (type_at hidden n)) (closed_type_at hidden (type_at hidden (suc n)))
      (closed-grows hidden (type_at hidden n) (type_at hidden (suc n)) (grows n) (shrinks (suc n))
      (operator-plain hidden) operator-shrinks) s
