-- Where reading a term halts.
use Rattle.std.specs.Prelude.{◌≡◌, ◌≤◌, ℕ, zero, suc, ◌+◌, ◌-◌, ◌==◌, ◌||◌, not, Bool, true}
use Rattle.std.specs.Prelude.{false, cond, List, [], ◌∷◌, length, codes, Option, Some, None}
use Rattle.std.proofs.Common.{refl, sym, subst, arith}
use Rattle.ot_logic.specs.Names.{Name}
use Rattle.ot_logic.specs.Trees.{Ty, Symbol, ConSymbol}
use Rattle.ot_forms.specs.Words.{is_letter, is_inner, is_sign, is_hidden}
use Rattle.ot_forms.specs.Forms.{Written, Place, FreeAs, ConAs, Applied, Binding, NoMore, More}
use Rattle.ot_forms.specs.Reading.{NoForm, OneTooMany, Reading, Got, Halted, next, mapped, kept, literal_at, bare_at}
use Rattle.ot_forms.specs.Reading.{part_at, part_on, signs_at, signs_on, variable_at, constant_at, Candidate}
use Rattle.ot_forms.specs.Reading.{narrowed, ended, ended_at, sign_word_at, operators, settled, is_spelled}
use Rattle.ot_forms.specs.Reading.{is_single, first_part, joined_by, free_at, further_terms_at, application_at}
use Rattle.ot_forms.specs.Reading.{operation_at, behind_term_at, behind_bare_at, spaced_at, named_at}
use Rattle.ot_forms.specs.Reading.{quoted_variable_at, headed_at, binding_at, plain_inside_at, unquoted_inside_at}
use Rattle.ot_forms.specs.Reading.{inside_term_at, closed_term_at, braced_at, term_by, term_at, type_at}
use Rattle.ot_forms.proofs.Readers.{Reads}
use Rattle.ot_forms.proofs.Types.{IsEnd}
use Rattle.ot_forms.proofs.BareWords.{bare-reads}
use Rattle.ot_forms.proofs.Spellings.{variable-reads}
use Rattle.ot_forms.proofs.Marks.{part-reads, signs-reads}
use Rattle.ot_forms.specs.Words.{IsNotation}
use Rattle.ot_forms.proofs.ConstantWords.{constant-reads}
use Rattle.ot_forms.proofs.Terms.{SaysTerm}
use Rattle.ot_forms.proofs.TermTexts.{opened-reads, brace-reads}
use Rattle.ot_forms.proofs.WholeTerms.{term-reads}
use Rattle.ot_forms.proofs.Growing.{left, Grows, Shrinks, reads-shrinks, IsPlain, plain-grows}
use Rattle.ot_forms.proofs.Growing.{literal-plain, literal-shrinks, mapped-plain, kept-plain, next-grows}
use Rattle.ot_forms.proofs.Growing.{mapped-grows, mapped-shrinks, next-shrinks, cond-grows, mapped-left}
use Rattle.ot_forms.proofs.TypeLaw.{cond-plain, bare-plain, variable-plain, quoted-plain, reads, grows, shrinks}

-- with more room the reader grows, and never leaves more than there was
pub record IsGrown {A : Type 0} (f g : List ℕ → Reading A) : Type 0 where
  pub grows : (s : List ℕ) → Grows (f s) (g s)
  pub shrinks : Shrinks g

pub grown-next : {A B : Type 0} (f g : List ℕ → Reading A) (p q : A → List ℕ → Reading B) → IsGrown f g
    → ((a : A) → IsGrown (p a) (q a)) → IsGrown (λ s. next (f s) p) (λ s. next (g s) q)
grown-next f g p q h k =
    record {
      grows = λ s. next-grows (f s) (g s) p q (h.grows s) (λ a r. (k a).grows r) (λ a. (k a).shrinks);
      shrinks = next-shrinks g q h.shrinks (λ a. (k a).shrinks);
    }

pub grown-mapped : {A B : Type 0} (v : A → B) (f g : List ℕ → Reading A) → IsGrown f g
    → IsGrown (λ s. mapped v (f s)) (λ s. mapped v (g s))
grown-mapped v f g h =
    record { grows = λ s. mapped-grows v (f s) (g s) (h.grows s); shrinks = mapped-shrinks v g h.shrinks }

pub grown-plain : {A : Type 0} (f : List ℕ → Reading A) → ((s : List ℕ) → IsPlain (f s)) → Shrinks f → IsGrown f f
grown-plain f h k = record { grows = λ s. plain-grows (f s) (h s); shrinks = k }

pub grown-literal : (w : List ℕ) → IsGrown (literal_at w) (literal_at w)
grown-literal w = grown-plain (literal_at w) (literal-plain w) (literal-shrinks w)

-- by the first byte
pub grown-pick : {A : Type 0} (test : ℕ → Bool) (f g p q f' g' : List ℕ → Reading A) → IsGrown f g → IsGrown p q
    → f' [] ≡ Halted NoForm [] → g' [] ≡ Halted NoForm []
    → ((b : ℕ) (s : List ℕ) → f' (b ∷ s) ≡ cond (test b) (f (b ∷ s)) (p (b ∷ s)))
    → ((b : ℕ) (s : List ℕ) → g' (b ∷ s) ≡ cond (test b) (g (b ∷ s)) (q (b ∷ s))) → IsGrown f' g'
grown-pick test f g p q f' g' h k fn gn fc gc = record { grows = grow; shrinks = shrink } where
  grow : (s : List ℕ) → Grows (f' s) (g' s)
  grow [] = subst (λ o. Grows o (g' [])) (sym fn) (sym gn)
  grow (b ∷ s) =
      subst (λ o. Grows o (g' (b ∷ s))) (sym (fc b s))
      (subst (λ o. Grows (cond (test b) (f (b ∷ s)) (p (b ∷ s))) o) (sym (gc b s))
      (cond-grows (test b) (f (b ∷ s)) (p (b ∷ s)) (g (b ∷ s)) (q (b ∷ s)) (h.grows (b ∷ s)) (k.grows (b ∷ s))))

  shrink : Shrinks g'
  shrink [] = subst (λ o. length (left o) ≤ 0) (sym gn) (omega arith)
  shrink (b ∷ s) = subst (λ o. length (left o) ≤ length (b ∷ s)) (sym (gc b s)) (go (test b)) where
    go : (t : Bool) → length (left (cond t (g (b ∷ s)) (q (b ∷ s)))) ≤ length (b ∷ s)
    go true = h.shrinks (b ∷ s)
    go false = k.shrinks (b ∷ s)

on-plain : (s : List ℕ) → IsPlain (part_on s)
on-plain [] = tt
on-plain (b ∷ s) = cond-plain (is_inner b) _ _ (mapped-plain (λ x. b ∷ x) (part_on s) (on-plain s)) tt

part-plain : (s : List ℕ) → IsPlain (part_at s)
part-plain [] = tt
part-plain (b ∷ s) = cond-plain (is_letter b) _ _ (mapped-plain (λ x. b ∷ x) (part_on s) (on-plain s)) tt

signs_on-plain : (s : List ℕ) → IsPlain (signs_on s)
signs_on-plain [] = tt
signs_on-plain (b ∷ s) = cond-plain (is_sign b) _ _ (mapped-plain (λ x. b ∷ x) (signs_on s) (signs_on-plain s)) tt

signs-plain : (s : List ℕ) → IsPlain (signs_at s)
signs-plain [] = tt
signs-plain (b ∷ s) = cond-plain (is_sign b) _ _ (mapped-plain (λ x. b ∷ x) (signs_on s) (signs_on-plain s)) tt

ended-plain : (o : Option Name) (s : List ℕ) → IsPlain (ended_at o s)
ended-plain None s = tt
ended-plain (Some n) s = tt

sign_word-plain : (s : List ℕ) (cs : List Candidate) → IsPlain (sign_word_at cs s)
sign_word-plain [] cs = ended-plain (ended cs) []
sign_word-plain (b ∷ s) cs = go (λ es. sign_word-plain s es) (narrowed b cs) where
  go : ((es : List Candidate) → IsPlain (sign_word_at es s)) → (es : List Candidate)
      → IsPlain (elim es as (λ _. Reading Name)
      [ [] ↦ ended_at (ended cs) (b ∷ s) | d ∷ ds ↦ sign_word_at (d ∷ ds) s ])
  go ih [] = ended-plain (ended cs) (b ∷ s)
  go ih (d ∷ ds) = ih (d ∷ ds)

constant-plain : (hidden : List (Symbol Name)) (s : List ℕ) → IsPlain (constant_at hidden s)
constant-plain hidden [] = tt
constant-plain hidden (b ∷ s) = cond-plain (b == 34) _ _ (quoted-plain (λ n. is_spelled hidden (ConSymbol n)) s)
    (cond-plain (is_sign b) _ _ (sign_word-plain (b ∷ s) (operators hidden))
    (mapped-plain (settled hidden ConSymbol) (kept (λ n. not (is_hidden hidden (ConSymbol n))) (bare_at (b ∷ s)))
    (kept-plain (λ n. not (is_hidden hidden (ConSymbol n))) (bare_at (b ∷ s)) (bare-plain (b ∷ s)))))

module _ (word : List ℕ → Reading Name) (wg : IsGrown word word) (y z : List ℕ → Reading (Ty Name)) (yg : IsGrown y z)
    (t u : List ℕ → Reading Written) (tg : IsGrown t u) where
  free-grown : (n : Name) → IsGrown (free_at word y t n) (free_at word z u n)
  free-grown n = grown-next (literal_at (codes ": ")) (literal_at (codes ": ")) (λ _ r. mapped (FreeAs n) (y r))
      (λ _ r. mapped (FreeAs n) (z r)) (grown-literal (codes ": ")) (λ _. grown-mapped (FreeAs n) y z yg)

  further-left : (s : List ℕ) (k : ℕ) → length (left (further_terms_at word z u k s)) ≤ length s - k
  further-left [] k = omega arith
  further-left (b ∷ s) (suc k) = let w = further-left s k in omega (arith, w)
  further-left (b ∷ s) zero = go (further-left s) (b == 32) where
    one : ((k : ℕ) → length (left (further_terms_at word z u k s)) ≤ length s - k) → (o : Reading Written)
        → length (left o) ≤ length s
        → length (left (next o (λ a r. mapped (More a) (further_terms_at word z u (length s - length r) s))))
        ≤ length s
    one ih (Got a r) h = let w = ih (length s - length r) in
        let v = mapped-left (More a) (further_terms_at word z u (length s - length r) s) in omega (arith, w, v)
    one ih (Halted k r) h = h

    go : ((k : ℕ) → length (left (further_terms_at word z u k s)) ≤ length s - k) → (c : Bool)
        → length (left
        (cond c (next (u s) (λ a r. mapped (More a) (further_terms_at word z u (length s - length r) s)))
        (Got NoMore (b ∷ s)))) ≤ length (b ∷ s) - zero
    go ih true = let w = one ih (u s) (tg.shrinks s) in omega (arith, w)
    go ih false = omega arith

  further-grows : (s : List ℕ) (k : ℕ) → Grows (further_terms_at word y t k s) (further_terms_at word z u k s)
  further-grows [] k = refl
  further-grows (b ∷ s) (suc k) = further-grows s k
  further-grows (b ∷ s) zero =
      cond-grows (b == 32) (next (t s) (λ a r. mapped (More a) (further_terms_at word y t (length s - length r) s)))
      (Got NoMore (b ∷ s)) (next (u s) (λ a r. mapped (More a) (further_terms_at word z u (length s - length r) s)))
      (Got NoMore (b ∷ s))
      (next-grows (t s) (u s) (λ a r. mapped (More a) (further_terms_at word y t (length s - length r) s))
      (λ a r. mapped (More a) (further_terms_at word z u (length s - length r) s)) (tg.grows s)
      (λ a r. mapped-grows (More a) (further_terms_at word y t (length s - length r) s)
      (further_terms_at word z u (length s - length r) s) (further-grows s (length s - length r)))
      (λ a r. let w = further-left s (length s - length r) in
      let v = mapped-left (More a) (further_terms_at word z u (length s - length r) s) in omega (arith, w, v)))
      refl

  further-grown : IsGrown (further_terms_at word y t 0) (further_terms_at word z u 0)
  further-grown =
      record { grows = λ s. further-grows s 0; shrinks = λ s. let w = further-left s 0 in omega (arith, w) }

  application-grown : (a : Written) → IsGrown (application_at word y t a) (application_at word z u a)
  application-grown a = grown-next t u (λ x r. mapped (Applied a x) (further_terms_at word y t 0 r))
      (λ x r. mapped (Applied a x) (further_terms_at word z u 0 r)) tg
      (λ x. grown-mapped (Applied a x) (further_terms_at word y t 0) (further_terms_at word z u 0) further-grown)

  spaced-grown : (f g : List ℕ → Reading Written) → IsGrown f g
      → IsGrown (λ s. next (literal_at (codes " ") s) (λ _ r. f r))
      (λ s. next (literal_at (codes " ") s) (λ _ r. g r))
  spaced-grown f g h = grown-next (literal_at (codes " ")) (literal_at (codes " ")) (λ _ r. f r) (λ _ r. g r)
      (grown-literal (codes " ")) (λ _. h)

  signs-grown : IsGrown signs_at signs_at
  signs-grown = grown-plain signs_at signs-plain (reads-shrinks _ _ signs_at signs-reads)

  operation-grown : (a : Written) → IsGrown (operation_at word y t a) (operation_at word z u a)
  operation-grown a =
      grown-next signs_at signs_at (λ o r. next (literal_at (codes " ") r) (λ _ q. mapped (joined_by a o) (t q)))
      (λ o r. next (literal_at (codes " ") r) (λ _ q. mapped (joined_by a o) (u q))) signs-grown
      (λ o. spaced-grown (λ q. mapped (joined_by a o) (t q)) (λ q. mapped (joined_by a o) (u q))
      (grown-mapped (joined_by a o) t u tg))

  behind-grown : (a : Written) → IsGrown (behind_term_at word y t a) (behind_term_at word z u a)
  behind-grown a = grown-pick is_sign (operation_at word y t a) (operation_at word z u a) (application_at word y t a)
      (application_at word z u a) (behind_term_at word y t a) (behind_term_at word z u a) (operation-grown a)
      (application-grown a) refl refl (λ b s. refl) (λ b s. refl)

  behind_bare-grown : (n : Name) → IsGrown (behind_bare_at word y t n) (behind_bare_at word z u n)
  behind_bare-grown n = grown-pick (λ b. (b == 58) || not (is_single n)) (free_at word y t n) (free_at word z u n)
      (behind_term_at word y t (Place (first_part n))) (behind_term_at word z u (Place (first_part n)))
      (behind_bare_at word y t n) (behind_bare_at word z u n) (free-grown n) (behind-grown (Place (first_part n)))
      refl refl (λ b s. refl) (λ b s. refl)

  named-grown : IsGrown (named_at word y t) (named_at word z u)
  named-grown = grown-next bare_at bare_at (λ n r. spaced_at word y t (behind_bare_at word y t n) r)
      (λ n r. spaced_at word z u (behind_bare_at word z u n) r)
      (grown-plain bare_at bare-plain (reads-shrinks _ _ bare_at bare-reads))
      (λ n. spaced-grown (behind_bare_at word y t n) (behind_bare_at word z u n) (behind_bare-grown n))

  quoted-grown : IsGrown (quoted_variable_at word y t) (quoted_variable_at word z u)
  quoted-grown = grown-next variable_at variable_at (λ n r. spaced_at word y t (free_at word y t n) r)
      (λ n r. spaced_at word z u (free_at word z u n) r)
      (grown-plain variable_at variable-plain (reads-shrinks _ _ variable_at variable-reads))
      (λ n. spaced-grown (free_at word y t n) (free_at word z u n) (free-grown n))

  headed-grown : IsGrown (headed_at word y t) (headed_at word z u)
  headed-grown = grown-next t u (λ a r. spaced_at word y t (behind_term_at word y t a) r)
      (λ a r. spaced_at word z u (behind_term_at word z u a) r) tg
      (λ a. spaced-grown (behind_term_at word y t a) (behind_term_at word z u a) (behind-grown a))

  after-grown : (w : List ℕ) (f g : List ℕ → Reading Written) → IsGrown f g
      → IsGrown (λ s. next (literal_at w s) (λ _ r. f r)) (λ s. next (literal_at w s) (λ _ r. g r))
  after-grown w f g h = grown-next (literal_at w) (literal_at w) (λ _ r. f r) (λ _ r. g r) (grown-literal w) (λ _. h)

  body-grown : (x : List ℕ)
      → IsGrown (λ q. next (y q) (λ c v. next (literal_at (codes " . ") v) (λ _ r. mapped (Binding x c) (t r))))
      (λ q. next (z q) (λ c v. next (literal_at (codes " . ") v) (λ _ r. mapped (Binding x c) (u r))))
  body-grown x = grown-next y z (λ c v. next (literal_at (codes " . ") v) (λ _ r. mapped (Binding x c) (t r)))
      (λ c v. next (literal_at (codes " . ") v) (λ _ r. mapped (Binding x c) (u r))) yg
      (λ c. after-grown (codes " . ") (λ r. mapped (Binding x c) (t r)) (λ r. mapped (Binding x c) (u r))
      (grown-mapped (Binding x c) t u tg))

  binding-grown : IsGrown (binding_at word y t) (binding_at word z u)
  binding-grown =
      after-grown (codes
      "\\") _ _ (grown-next part_at part_at _ _ (grown-plain part_at part-plain (reads-shrinks _ _ part_at part-reads)) (λ x. after-grown (codes " : ") _ _ (body-grown x)))

  plain-grown : IsGrown (plain_inside_at word y t) (plain_inside_at word z u)
  plain-grown = grown-pick (λ b. (b == 40) || (b == 123)) (headed_at word y t) (headed_at word z u)
      (named_at word y t) (named_at word z u) (plain_inside_at word y t) (plain_inside_at word z u) headed-grown
      named-grown refl refl (λ b s. refl) (λ b s. refl)

  unquoted-grown : IsGrown (unquoted_inside_at word y t) (unquoted_inside_at word z u)
  unquoted-grown = grown-pick (λ b. b == 34) (quoted_variable_at word y t) (quoted_variable_at word z u)
      (plain_inside_at word y t) (plain_inside_at word z u) (unquoted_inside_at word y t)
      (unquoted_inside_at word z u) quoted-grown plain-grown refl refl (λ b s. refl) (λ b s. refl)

  inside-grown : IsGrown (inside_term_at word y t) (inside_term_at word z u)
  inside-grown = grown-pick (λ b. b == 92) (binding_at word y t) (binding_at word z u) (unquoted_inside_at word y t)
      (unquoted_inside_at word z u) (inside_term_at word y t) (inside_term_at word z u) binding-grown unquoted-grown
      refl refl (λ b s. refl) (λ b s. refl)

  closed-grown : IsGrown (closed_term_at word y t) (closed_term_at word z u)
  closed-grown =
      grown-next (inside_term_at word y t) (inside_term_at word z u)
      (λ a r. mapped (λ _. a) (literal_at (codes ")") r)) (λ a r. mapped (λ _. a) (literal_at (codes ")") r))
      inside-grown
      (λ a. grown-mapped (λ _. a) (literal_at (codes ")")) (literal_at (codes ")")) (grown-literal (codes ")")))

  braced-grown : IsGrown (braced_at word y t) (braced_at word z u)
  braced-grown =
      grown-next word word _ _ wg
      (λ n. after-grown (codes " : ") _ _ (grown-next y z (λ c v. mapped (λ _. ConAs n c) (literal_at (codes "}") v))
      (λ c v. mapped (λ _. ConAs n c) (literal_at (codes "}") v)) yg
      (λ c. grown-mapped (λ _. ConAs n c) (literal_at (codes "}")) (literal_at (codes "}"))
      (grown-literal (codes "}")))))

module _ (hidden : List (Symbol Name)) (nt : IsNotation hidden) where
  abbrev pub term_from : ℕ → List ℕ → Reading Written
  term_from n = term_at hidden (constant_at hidden) n

  -- the reader of terms reads each written term's text with at most n open, and halts where none goes on
  pub term_reads : (n : ℕ) → Reads (SaysTerm hidden n) IsEnd (term_from n)
  term_reads = term-reads hidden (constant_at hidden) (constant-reads hidden nt) (reads hidden nt)

  word-grown : IsGrown (constant_at hidden) (constant_at hidden)
  word-grown = grown-plain (constant_at hidden) (constant-plain hidden)
      (reads-shrinks _ _ (constant_at hidden) (constant-reads hidden nt))

  types-grown : (n : ℕ) → IsGrown (type_at hidden n) (type_at hidden (suc n))
  types-grown n = record { grows = grows hidden nt n; shrinks = shrinks hidden nt (suc n) }

  by-grows : (f g p q : List ℕ → Reading Written) → ((s : List ℕ) → Grows (f s) (g s))
      → ((s : List ℕ) → Grows (p s) (q s)) → (s : List ℕ) → Grows (term_by f p s) (term_by g q s)
  by-grows f g p q h k [] = refl
  by-grows f g p q h k (b ∷ s) =
      cond-grows (b == 40) _ _ _ _ (h s)
      (cond-grows (b == 123) _ _ _ _ (k s)
      (plain-grows (mapped Place (part_at (b ∷ s))) (mapped-plain Place (part_at (b ∷ s)) (part-plain (b ∷ s)))))

  pub term-grows : (n : ℕ) (s : List ℕ) → Grows (term_from n s) (term_from (suc n) s)
  term-grows zero s =
      by-grows (λ s. Halted OneTooMany (40 ∷ s))
      (closed_term_at (constant_at hidden) (type_at hidden zero) (term_from zero)) (λ s. Halted OneTooMany (123 ∷ s))
      (braced_at (constant_at hidden) (type_at hidden zero) (term_from zero))
      (λ s. let w = closed-left s in omega (arith, w)) (λ s. let w = braced-left s in omega (arith, w)) s
    where
      closed-left : Shrinks (closed_term_at (constant_at hidden) (type_at hidden zero) (term_from zero))
      closed-left = reads-shrinks _ _ (closed_term_at (constant_at hidden) (type_at hidden zero) (term_from zero))
          (opened-reads hidden zero (constant_at hidden) (type_at hidden zero) (term_from zero)
          (constant-reads hidden nt) (reads hidden nt zero) (term_reads zero))

      braced-left : Shrinks (braced_at (constant_at hidden) (type_at hidden zero) (term_from zero))
      braced-left = reads-shrinks _ _ (braced_at (constant_at hidden) (type_at hidden zero) (term_from zero))
          (brace-reads hidden zero (constant_at hidden) (type_at hidden zero) (term_from zero)
          (constant-reads hidden nt) (reads hidden nt zero) (term_reads zero))
  term-grows (suc n) s =
      let tg : IsGrown (term_from n) (term_from (suc n)) =
      record { grows = term-grows n; shrinks = reads-shrinks _ _ (term_from (suc n)) (term_reads (suc n)) } in
      let c = closed-grown (constant_at hidden) word-grown (type_at hidden n) (type_at hidden (suc n)) (types-grown n)
      (term_from n) (term_from (suc n)) tg in
      let b = braced-grown (constant_at hidden) word-grown (type_at hidden n) (type_at hidden (suc n)) (types-grown n)
      (term_from n) (term_from (suc n)) tg in
      by-grows (closed_term_at (constant_at hidden) (type_at hidden n) (term_from n))
      (closed_term_at (constant_at hidden) (type_at hidden (suc n)) (term_from (suc n)))
      (braced_at (constant_at hidden) (type_at hidden n) (term_from n))
      (braced_at (constant_at hidden) (type_at hidden (suc n)) (term_from (suc n))) c.grows b.grows s

  pub weaker : (n m : ℕ) (w : Written) (x : List ℕ) → SaysTerm hidden n w x → SaysTerm hidden (n + m) w x
  weaker n m w x h = let k = h.within in record { text = h.text; fine = h.fine; within = omega (arith, k) }
