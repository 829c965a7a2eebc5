-- Lines and lone terms: what reading them answers, in the words of the refusals.
use Rattle.std.specs.Prelude.{◌≡◌, ◌≤◌, ℕ, zero, suc, ◌+◌, ◌-◌, ◌==◌, Bool}
use Rattle.std.specs.Prelude.{true, false, cond, List, [], ◌∷◌, length, codes}
use Rattle.std.specs.List.{AllByRecursion}
use Rattle.std.proofs.Common.{refl, subst, arith}
use Rattle.ot_logic.specs.Names.{Name}
use Rattle.ot_logic.specs.Trees.{Symbol}
use Rattle.ot_forms.specs.Forms.{Written, IsWritten, most_open, WrittenSequent}
use Rattle.ot_forms.specs.Refusals.{WritesLine, WritesTerm}
use Rattle.ot_forms.specs.Reading.{NoForm, OneTooMany, Reading, Got, Halted, next, mapped, literal_at}
use Rattle.ot_forms.specs.Reading.{further_hyps_at, first_hyp_at, turnstile_at, hyps_at, line_at}
use Rattle.ot_forms.proofs.Readers.{Reads, told}
use Rattle.ot_forms.proofs.Types.{IsEnd}
use Rattle.ot_forms.specs.Words.{IsNotation}
use Rattle.ot_forms.proofs.Growing.{left, Grows, IsPlain, plain-grows, literal-plain, mapped-plain}
use Rattle.ot_forms.proofs.Growing.{mapped-grows, next-grows, mapped-left, reads-shrinks, literal-shrinks}
use Rattle.ot_forms.proofs.TermLaw.{IsGrown, grown-next, grown-mapped, grown-pick, grown-literal}
use Rattle.ot_forms.proofs.TermLaw.{term_from, term_reads, term-grows, weaker as term-weaker}
use Rattle.ot_forms.proofs.Lines.{SaysLine, line-reads}
use Rattle.ot_forms.proofs.Terms.{SaysTerm}

-- ---- lines grow
module _ (t u : List ℕ → Reading Written) (tg : IsGrown t u) where
  abbrev put : Written → List Written → List Written
  put a hs = a ∷ hs

  abbrev by_comma : (List ℕ → Reading Written) → List ℕ → Reading (List Written)
  by_comma f s = next (literal_at (codes " ") s)
      (λ _ r. next (f r) (λ a q. mapped (put a) (further_hyps_at f (length s - length q) s)))

  further-left : (s : List ℕ) (k : ℕ) → length (left (further_hyps_at u k s)) ≤ length s - k
  further-left [] k = omega arith
  further-left (b ∷ s) (suc k) = let w = further-left s k in omega (arith, w)
  further-left (b ∷ s) zero = go (further-left s) (b == 44) where
    one : ((k : ℕ) → length (left (further_hyps_at u k s)) ≤ length s - k) → (o : Reading Written)
        → length (left o) ≤ length s
        → length (left (next o (λ a q. mapped (put a) (further_hyps_at u (length s - length q) s)))) ≤ length s
    one ih (Got a q) h = let w = ih (length s - length q) in
        let v = mapped-left (put a) (further_hyps_at u (length s - length q) s) in omega (arith, w, v)
    one ih (Halted k q) h = h

    space : ((k : ℕ) → length (left (further_hyps_at u k s)) ≤ length s - k) → (o : Reading (Unit {0}))
        → length (left o) ≤ length s
        → length (left
        (next o (λ _ r. next (u r) (λ a q. mapped (put a) (further_hyps_at u (length s - length q) s))))) ≤ length s
    space ih (Got v r) h = let w = tg.shrinks r in one ih (u r) (omega (arith, w, h))
    space ih (Halted k r) h = h

    go : ((k : ℕ) → length (left (further_hyps_at u k s)) ≤ length s - k) → (c : Bool)
        → length (left (cond c (by_comma u s) (mapped (λ _. []) (literal_at (codes " |- ") (b ∷ s)))))
        ≤ length (b ∷ s) - zero
    go ih true = let w = space ih (literal_at (codes " ") s) (literal-shrinks (codes " ") s) in omega (arith, w)
    go ih false = let w = mapped-left {B = List Written} (λ _. []) (literal_at (codes " |- ") (b ∷ s)) in
        let v = literal-shrinks (codes " |- ") (b ∷ s) in omega (arith, w, v)

  further-grows : (s : List ℕ) (k : ℕ) → Grows (further_hyps_at t k s) (further_hyps_at u k s)
  further-grows [] k = refl
  further-grows (b ∷ s) (suc k) = further-grows s k
  further-grows (b ∷ s) zero = go (further-grows s) (b == 44) where
    bar : Grows {A = List Written} (mapped (λ _. []) (literal_at (codes " |- ") (b ∷ s)))
        (mapped (λ _. []) (literal_at (codes " |- ") (b ∷ s)))
    bar = plain-grows (mapped (λ _. []) (literal_at (codes " |- ") (b ∷ s)))
        (mapped-plain (λ _. []) (literal_at (codes " |- ") (b ∷ s)) (literal-plain (codes " |- ") (b ∷ s)))

    term : ((k : ℕ) → Grows (further_hyps_at t k s) (further_hyps_at u k s)) → (r : List ℕ)
        → Grows (next (t r) (λ a q. mapped (put a) (further_hyps_at t (length s - length q) s)))
        (next (u r) (λ a q. mapped (put a) (further_hyps_at u (length s - length q) s)))
    term ih r = next-grows (t r) (u r) (λ a q. mapped (put a) (further_hyps_at t (length s - length q) s))
        (λ a q. mapped (put a) (further_hyps_at u (length s - length q) s)) (tg.grows r)
        (λ a q. mapped-grows (put a) (further_hyps_at t (length s - length q) s)
        (further_hyps_at u (length s - length q) s) (ih (length s - length q)))
        (λ a q. let w = further-left s (length s - length q) in
        let v = mapped-left (put a) (further_hyps_at u (length s - length q) s) in omega (arith, w, v))

    space : ((k : ℕ) → Grows (further_hyps_at t k s) (further_hyps_at u k s)) → (o : Reading (Unit {0}))
        → literal_at (codes " ") s ≡ o
        → Grows (next o (λ _ r. next (t r) (λ a q. mapped (put a) (further_hyps_at t (length s - length q) s))))
        (next o (λ _ r. next (u r) (λ a q. mapped (put a) (further_hyps_at u (length s - length q) s))))
    space ih (Got v r) e = term ih r
    space ih (Halted NoForm r) e = refl
    space ih (Halted OneTooMany r) e = absurd (subst (λ o. IsPlain o) e (literal-plain (codes " ") s))

    go : ((k : ℕ) → Grows (further_hyps_at t k s) (further_hyps_at u k s)) → (c : Bool)
        → Grows (cond c (by_comma t s) (mapped (λ _. []) (literal_at (codes " |- ") (b ∷ s))))
        (cond c (by_comma u s) (mapped (λ _. []) (literal_at (codes " |- ") (b ∷ s))))
    go ih true = space ih (literal_at (codes " ") s) refl
    go ih false = bar

  further-grown : IsGrown (further_hyps_at t 0) (further_hyps_at u 0)
  further-grown =
      record { grows = λ s. further-grows s 0; shrinks = λ s. let w = further-left s 0 in omega (arith, w) }

  first-grown : IsGrown (first_hyp_at t) (first_hyp_at u)
  first-grown =
      grown-next t u (λ a q. mapped (put a) (further_hyps_at t 0 q)) (λ a q. mapped (put a) (further_hyps_at u 0 q))
      tg (λ a. grown-mapped (put a) (further_hyps_at t 0) (further_hyps_at u 0) further-grown)

  hyps-grown : IsGrown (hyps_at t) (hyps_at u)
  hyps-grown = grown-pick (λ b. b == 124) (turnstile_at t) (turnstile_at u) (first_hyp_at t) (first_hyp_at u)
      (hyps_at t) (hyps_at u) (grown-mapped (λ _. []) (literal_at (codes "|- ")) (literal_at (codes "|- "))
      (grown-literal (codes "|- "))) first-grown refl refl (λ b s. refl) (λ b s. refl)

  abbrev sequent : List Written → Written → WrittenSequent
  sequent hs c = record { hyps = hs; concl = c }

  pub line-grown : IsGrown (line_at t) (line_at u)
  line-grown = grown-next (hyps_at t) (hyps_at u) (λ hs r. mapped (sequent hs) (t r))
      (λ hs r. mapped (sequent hs) (u r)) hyps-grown (λ hs. grown-mapped (sequent hs) t u tg)

module _ (hidden : List (Symbol Name)) (nt : IsNotation hidden) where
  abbrev pub line_from : ℕ → List ℕ → Reading WrittenSequent
  line_from n = line_at (term_from hidden nt n)

  abbrev pub Says : ℕ → WrittenSequent → List ℕ → Type 0
  Says n = SaysLine hidden n (term_from hidden nt n) (term_reads hidden nt n)

  pub line_reads : (n : ℕ) → Reads (Says n) IsEnd (line_from n)
  line_reads n = line-reads hidden n (term_from hidden nt n) (term_reads hidden nt n)

  pub line-grows : (n : ℕ) (s : List ℕ) → Grows (line_from n s) (line_from (suc n) s)
  line-grows n =
      (line-grown (term_from hidden nt n) (term_from hidden nt (suc n))
      (record {
        grows = term-grows hidden nt n;
        shrinks = reads-shrinks _ _ (term_from hidden nt (suc n))
            (term_reads hidden nt (suc n));
      })).grows

  all-to : (P Q : Written → Type 0) (xs : List Written) → ((x : Written) → P x → Q x) → AllByRecursion P xs
      → AllByRecursion Q xs
  all-to P Q [] f h = tt
  all-to P Q (x ∷ xs) f h = (f x h.0, all-to P Q xs f h.1)

  both : (P Q : Written → Type 0) (xs : List Written) → AllByRecursion P xs → AllByRecursion Q xs
      → AllByRecursion (λ a. P a × Q a) xs
  both P Q [] h k = tt
  both P Q (x ∷ xs) h k = ((h.0, k.0), both P Q xs h.1 k.1)

  weaker : (n m : ℕ) (q : WrittenSequent) (x : List ℕ) → Says n q x → Says (n + m) q x
  weaker n m q x h = record {
    text = h.text;
    hyps = all-to (λ a. IsWritten a × (most_open a ≤ n)) (λ a. IsWritten a × (most_open a ≤ n + m)) q.hyps
        (λ a w. (w.0, (let k = w.1 in omega (arith, k)))) h.hyps;
    concl = (h.concl.0, (let k = h.concl.1 in omega (arith, k)));
  }

  writes : (n : ℕ) (q : WrittenSequent) (x : List ℕ) → Says n q x → WritesLine hidden n x q
  writes n q x h = record {
    text = h.text;
    form = record {
      hyps = all-to (λ a. IsWritten a × (most_open a ≤ n)) IsWritten q.hyps (λ a w. w.0) h.hyps;
      concl = h.concl.0;
      hyps_open = all-to (λ a. IsWritten a × (most_open a ≤ n)) (λ a. most_open a ≤ n) q.hyps (λ a w. w.1) h.hyps;
      concl_open = h.concl.1;
    };
  }

  pub says : (n : ℕ) (q : WrittenSequent) (x : List ℕ) → WritesLine hidden n x q → Says n q x
  says n q x h =
      record {
        text = h.text;
        hyps = both IsWritten (λ a. most_open a ≤ n) q.hyps h.form.hyps h.form.hyps_open;
        concl = (h.form.concl, h.form.concl_open);
      }

  pub line_readers : (n : ℕ) → Reads (λ q x. WritesLine hidden n x q) IsEnd (line_from n)
  line_readers n = told (Says n) (λ q x. WritesLine hidden n x q) IsEnd (line_from n) (line_reads n) (writes n)
      (says n)

  pub line-more : (n m : ℕ) (q : WrittenSequent) (x : List ℕ) → WritesLine hidden n x q
      → WritesLine hidden (n + m) x q
  line-more n m q x h = writes (n + m) q x (weaker n m q x (says n q x h))

  term-writes : (n : ℕ) (w : Written) (x : List ℕ) → SaysTerm hidden n w x → WritesTerm hidden n x w
  term-writes n w x h = record { form = h.fine; within = h.within; text = h.text }

  term-says : (n : ℕ) (w : Written) (x : List ℕ) → WritesTerm hidden n x w → SaysTerm hidden n w x
  term-says n w x h = record { fine = h.form; within = h.within; text = h.text }

  pub term_readers : (n : ℕ) → Reads (λ w x. WritesTerm hidden n x w) IsEnd (term_from hidden nt n)
  term_readers n = told (SaysTerm hidden n) (λ w x. WritesTerm hidden n x w) IsEnd (term_from hidden nt n)
      (term_reads hidden nt n) (term-writes n) (term-says n)

  pub term-more : (n m : ℕ) (w : Written) (x : List ℕ) → WritesTerm hidden n x w → WritesTerm hidden (n + m) x w
  term-more n m w x h = term-writes (n + m) w x (term-weaker hidden nt n m w x (term-says n w x h))
