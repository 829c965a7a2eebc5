-- Whole terms and lines that are read, with what they mean.
use Rattle.std.specs.Prelude.{◌≡◌, ◌<◌, ◌≤◌, ◌+◌, ◌-◌, ◌==◌, ℕ, suc, Bool, true, false, cond}
use Rattle.std.specs.Prelude.{length, List, [], ◌∷◌, ◌++◌, codes, Option, Some, None, Result, Ok, Err}
use Rattle.std.proofs.Common.{refl, sym, ◌∙◌, ap, subst, arith, inl, inr, append_assoc}
use Rattle.std.proofs.lemmas.Bool.Decides.{nat_tests}
use Rattle.ot_logic.specs.Answers.{◌>>=◌}
use Rattle.ot_logic.specs.Names.{Name}
use Rattle.ot_logic.specs.Naming.{names}
use Rattle.ot_logic.specs.Trees.{Tm, Sequent, Symbol}
use Rattle.ot_logic.specs.Hol.{once_each}
use Rattle.ot_forms.specs.declared.fault.TextFault.{TextFault}
use Rattle.ot_forms.specs.Words.{IsNotation}
use Rattle.ot_forms.specs.Forms.{Written, WrittenSequent, term_text, hyps_text}
use Rattle.ot_forms.specs.Meaning.{Refusal, meaning, meanings, line_meaning}
use Rattle.ot_forms.specs.Refusals.{open_limit}
use Rattle.ot_forms.specs.Reading.{Reason, NoForm, OneTooMany, Reading, Got, Halted, next}
use Rattle.ot_forms.specs.Reading.{mapped, literal_at, further_hyps_at}
use Rattle.ot_forms.specs.Reading.{first_hyp_at, turnstile_at, hyps_at, line_at}
use Rattle.ot_forms.proofs.TermLaw.{term_reads}
use Rattle.ot_forms.proofs.Lines.{comma-step, hyps-length}
use Rattle.ot_parse.specs.declared.halt.Halt.{Halt}
use Rattle.ot_parse.specs.declared.halt.Halt.TheVariants as halts
use Rattle.ot_parse.specs.declared.readable.Readable.{Readable}
use Rattle.ot_parse.specs.declared.refusal.ReadRefusal.{ReadRefusal}
use Rattle.ot_parse.specs.declared.refusal.ReadRefusal.TheVariants as refusals
use Rattle.ot_parse.specs.declared.values.Meant.{Meant as Part}
use Rattle.ot_parse.specs.Gives.{IsHalt}
use Rattle.ot_parse.specs.Symbols.{behind_byte}
use Rattle.ot_parse.specs.Meant.{Meaning, place_at, wholly, raw}
use Rattle.ot_parse.specs.Values.{IsWholly, meant_of}
use Rattle.ot_parse.specs.TermFrames.{begun}
use Rattle.ot_parse.specs.ReadLines.{Kept, once, one_more, terms, meant_at, hyps_meant, IsStop, IsWholeText}
use Rattle.ot_parse.specs.ReadLines.{sequent_meant, IsSequent, IsMeantLine, IsWholeLine, IsAt, separator_at}
use Rattle.ot_parse.proofs.FrameLaws.{twice, mapped-same}
use Rattle.ot_parse.proofs.Halts.{halt-same, halt-next, halt-mapped}
use Rattle.ot_parse.proofs.HypsOnce.{once-push}
use Rattle.ot_parse.proofs.Lengths.{got-value, got-rest, literal-length, space-length, term-length}
use Rattle.ot_parse.proofs.Meanings.{whole-raw}
use Rattle.ot_parse.proofs.TypeFronts.{not-equal}

-- ---- what was made of what was read
pub unmapped : {A B : Type 0} (f : A → B) (o : Reading A) (k : Reason) (r : List ℕ) → mapped f o ≡ Halted k r
    → o ≡ Halted k r
unmapped f (Got a s) k r e = cc
unmapped f (Halted j s) k r e = let p : j ≡ k = cc in let q : s ≡ r = cc in λ i. Halted (p i) (q i)

pub unmapped-halt : {A B : Type 0} (f : A → B) (o : Reading A) (h : Halt) → IsHalt h (mapped f o) → IsHalt h o
unmapped-halt f o (halts.Syntax r) e = unmapped f o NoForm r.now e
unmapped-halt f o (halts.TooManyOpen r) e = unmapped f o OneTooMany r.now e
unmapped-halt f o (halts.Memory memory) e = tt

pub record WasRead {A B : Type 0} (f : A → B) (o : Reading A) (y : B) (r : List ℕ) : Type 0 where
  pub value : A
  pub read : o ≡ Got value r
  pub made : f value ≡ y

pub was-read : {A B : Type 0} (f : A → B) (o : Reading A) (y : B) (r : List ℕ) → mapped f o ≡ Got y r
    → WasRead f o y r
was-read f (Got a s) y r e = record { value = a; read = ap (Got a) (got-rest e); made = got-value e }
was-read f (Halted j s) y r e = cc

-- ---- whole texts
pub stopped : (o : Reading Meaning) (h : Halt) → IsHalt h o → IsWholeText o (Err h)
stopped o (halts.Syntax r) e = inl e
stopped o (halts.TooManyOpen r) e = e
stopped o (halts.Memory memory) e = tt

pub trails : {A : Type 0} (o : Reading A) (x : A) (r : List ℕ) → o ≡ Got x r → (length r ≡ 0 → ⊥) → IsStop o r
trails o x [] e h = absurd (h refl)
trails o x (b ∷ r) e h = inr (x, b, r, e, refl)

pub ends : {A : Type 0} (o : Reading A) (x : A) (r : List ℕ) → o ≡ Got x r → length r ≡ 0 → o ≡ Got x []
ends o x [] e h = e
ends o x (b ∷ r) e h = absurd (omega (arith, h))

-- ---- how much a separator takes
comma-some : (b : ℕ) (s r : List ℕ) → behind_byte b s ≡ Some r → length s ≡ suc (length r)
comma-some b [] r e = cc
comma-some b (c ∷ s) r e = go (b == c) e where
  go : (t : Bool) → cond t (Some s) None ≡ Some r → length (c ∷ s) ≡ suc (length r)
  go true k = let p : s ≡ r = cc in let q = ap length p in omega (arith, q)
  go false k = cc

pub separator-length : (s : List ℕ) (t : Bool) (q : List ℕ) → separator_at s ≡ Got t q
    → length s ≡ cond t 2 4 + length q
separator-length s t q e = go (behind_byte 44 s) refl e where
  go : (o : Option (List ℕ)) → behind_byte 44 s ≡ o
      → (elim o as (λ _. Reading Bool) [
        | Some after ↦ mapped (λ _. true) (literal_at (codes " ") after)
        | None ↦
            mapped (λ _. false) (literal_at (codes " |- ") s)
      ]) ≡ Got t q → length s ≡ cond t 2 4 + length q
  go (Some after) d k =
      let w = was-read (λ _. true) (literal_at (codes " ") after) t q k in
      let a = comma-some 44 s after d in let b = space-length after q w.read in
      let c : cond true 2 4 + length q ≡ cond t 2 4 + length q = ap (λ u. cond u 2 4 + length q) w.made in
      omega (arith, a, b, c)
  go None d k =
      let w = was-read (λ _. false) (literal_at (codes " |- ") s) t q k in
      let a : length s ≡ 4 + length q = literal-length (codes " |- ") s q w.read in
      let c : cond false 2 4 + length q ≡ cond t 2 4 + length q = ap (λ u. cond u 2 4 + length q) w.made in
      omega (arith, a, c)

pub separator-shorter : (s : List ℕ) (t : Bool) (q : List ℕ) → separator_at s ≡ Got t q → length q < length s
separator-shorter s t q e = go t (separator-length s t q e) where
  go : (t : Bool) → length s ≡ cond t 2 4 + length q → length q < length s
  go true k = omega (arith, k)
  go false k = omega (arith, k)

comma-length : (s q : List ℕ) → separator_at s ≡ Got true q → length s ≡ 2 + length q
comma-length s q e = separator-length s true q e

module _ (hidden : List (Symbol Name)) where
  -- ---- a whole term
  pub term-read : (n : ℕ) (wanted : Bool) (s : List ℕ) (k : ℕ) (x y : Part) (r : List ℕ) → k ≡ place_at n s
      → begun n hidden open_limit [] s ≡ Got (meant_of x) r → IsWholly [] wanted k (meant_of x) y
      → meant_at hidden n wanted s ≡ Got (meant_of y) r
  term-read n wanted s k x y r d e h =
      let w = was-read (raw hidden [] (place_at n s)) (terms hidden s) (meant_of x) r e in
      ap (mapped (meaning hidden [] wanted (place_at n s))) w.read
      ∙ ap (λ z. Got z r) (whole-raw hidden [] wanted (place_at n s) w.value ∙ ap (wholly [] wanted (place_at n s))
      w.made ∙ ap (λ j. wholly [] wanted j (meant_of x)) (sym d) ∙ sym h.means)

  pub term-halts : (n : ℕ) (wanted : Bool) (s : List ℕ) (h : Halt) → IsHalt h (begun n hidden open_limit [] s)
      → IsHalt h (meant_at hidden n wanted s)
  term-halts n wanted s h e = halt-mapped h (terms hidden s) (meaning hidden [] wanted (place_at n s))
      (unmapped-halt (raw hidden [] (place_at n s)) (terms hidden s) h e)

  -- ---- the hypotheses and the conclusion
  -- a line that was read, with what it means
  pub record IsLineRead (line : List ℕ) (hyps : Kept) (concl : Meaning) : Type 0 where
    pub written : WrittenSequent
    pub read : line_at (terms hidden) line ≡ Got written []
    pub means : line_meaning hidden written ≡ sequent_meant hyps concl

  abbrev sequent : List Written → Written → WrittenSequent
  sequent hs c = record { hyps = hs; concl = c }

  abbrev both : List (Tm Name) → Tm Name → Sequent Name
  both us t = record { hyps = us; concl = t }

  -- the conclusion behind these hypotheses
  behind_hyps : (line : List ℕ) (ts : Kept) (rest : List ℕ)
      (h : WasRead (λ hs. once (meanings hidden 0 hs)) (hyps_at (terms hidden) line) ts rest)
      → line_at (terms hidden) line ≡ mapped (sequent h.value) (terms hidden rest)
  behind_hyps line ts rest h = ap (λ o. next o (λ hs r. mapped (sequent hs) (terms hidden r))) h.read

  means-so : (hs : List Written) (c : Written) (ts : Kept) (x : Meaning) (k : ℕ) → once (meanings hidden 0 hs) ≡ ts
      → meaning hidden [] true k c ≡ x → k ≡ length (hyps_text hidden hs)
      → line_meaning hidden (sequent hs c) ≡ sequent_meant ts x
  means-so hs c ts x k e d p = go (meanings hidden 0 hs) e where
    go : (o : Kept) → once o ≡ ts
        → (o >>= (λ us. meaning hidden [] true (length (hyps_text hidden hs)) c
        >>= (λ t. Ok (both (once_each names us) t)))) ≡ sequent_meant ts x
    go (Ok us) q = λ i. sequent_meant (q i) ((ap (λ j. meaning hidden [] true j c) (sym p) ∙ d) i)
    go (Err f) q = ap (λ ts. sequent_meant ts x) q

  module _ (nt : IsNotation hidden) (line : List ℕ) where
    pub line-read : (ts : Kept) (rest : List ℕ) (x : Meaning) → hyps_meant hidden line ≡ Got ts rest
        → meant_at hidden (length line) true rest ≡ Got x [] → IsLineRead line ts x
    line-read ts rest x e d =
        let h = was-read (λ hs. once (meanings hidden 0 hs)) (hyps_at (terms hidden) line) ts rest e in
        let w = was-read (meaning hidden [] true (place_at (length line) rest)) (terms hidden rest) x [] d in
        let n = hyps-length hidden open_limit (terms hidden) (term_reads hidden nt open_limit) line h.value rest
        h.read in
        record {
          written = sequent h.value w.value;
          read = behind_hyps line ts rest h ∙ ap (mapped (sequent h.value)) w.read;
          means = means-so h.value w.value ts x (place_at (length line) rest) h.made w.made (omega (arith, n));
        }

    pub hyps-halt : (h : Halt) → IsHalt h (hyps_meant hidden line) → IsWholeLine hidden line (Err h)
    hyps-halt h e =
        go h (halt-next h (hyps_at (terms hidden) line) (λ hs r. mapped (sequent hs) (terms hidden r))
        (unmapped-halt (λ hs. once (meanings hidden 0 hs)) (hyps_at (terms hidden) line) h e)) where
          go : (h : Halt) → IsHalt h (line_at (terms hidden) line) → IsWholeLine hidden line (Err h)
          go (halts.Syntax r) k = inl k
          go (halts.TooManyOpen r) k = k
          go (halts.Memory memory) k = tt

    pub concl-halt : (ts : Kept) (rest : List ℕ) (h : Halt) → hyps_meant hidden line ≡ Got ts rest
        → IsWholeText (meant_at hidden (length line) true rest) (Err h) → IsWholeLine hidden line (Err h)
    concl-halt ts rest h e = go h where
      hs : WasRead (λ hs. once (meanings hidden 0 hs)) (hyps_at (terms hidden) line) ts rest
      hs = was-read (λ hs. once (meanings hidden 0 hs)) (hyps_at (terms hidden) line) ts rest e

      means : Written → Meaning
      means = meaning hidden [] true (place_at (length line) rest)

      halted : (h : Halt) → IsHalt h (meant_at hidden (length line) true rest)
          → IsHalt h (line_at (terms hidden) line)
      halted h d = halt-same h (mapped (sequent hs.value) (terms hidden rest)) (line_at (terms hidden) line)
          (behind_hyps line ts rest hs)
          (halt-mapped h (terms hidden rest) (sequent hs.value) (unmapped-halt means (terms hidden rest) h d))

      trailed : (r : List ℕ) → IsStop (meant_at hidden (length line) true rest) r
          → ((d : meant_at hidden (length line) true rest ≡ Halted NoForm r) → line_at (terms hidden) line
          ≡ Halted NoForm r) → IsStop (line_at (terms hidden) line) r
      trailed r d k = elim d [
        | inl a ↦ inl (k a)
        | inr a ↦ let w = was-read means (terms hidden rest) a.0 (a.1 ∷ a.2) a.3 in
            inr (
              sequent hs.value w.value,
              a.1,
              a.2,
              behind_hyps line ts rest hs
                  ∙ ap (mapped (sequent hs.value)) w.read,
              a.4,
            )
      ]

      go : (h : Halt) → IsWholeText (meant_at hidden (length line) true rest) (Err h)
          → IsWholeLine hidden line (Err h)
      go (halts.Syntax r) d = trailed r.now d (λ a. halted (halts.Syntax r) a)
      go (halts.TooManyOpen r) d = halted (halts.TooManyOpen r) d
      go (halts.Memory memory) d = tt

  pub line-means : (line : List ℕ) (ts : Kept) (x : Meaning) (r : Result Readable ReadRefusal) → IsLineRead line ts x
      → IsSequent (sequent_meant ts x) r → IsMeantLine hidden line r
  line-means line ts x (Ok r) h e = (h.written, h.read, h.means ∙ e)
  line-means line ts x (Err (refusals.At c f)) h e = (h.written, e.0, h.read, h.means ∙ e.1, e.2)
  line-means line ts x (Err (refusals.Memory memory)) h e = tt

  -- ---- the front of a line
  pub nothing-hyps : (s : List ℕ) → length s ≡ 0 → hyps_meant hidden s ≡ Halted NoForm s
  nothing-hyps [] h = refl
  nothing-hyps (b ∷ s) h = absurd (omega (arith, h))

  pub bar-halts : (b : ℕ) (s line : List ℕ) (h : Halt) → line ≡ b ∷ s → b ≡ 124
      → IsHalt h (literal_at (codes "|- ") line) → IsHalt h (hyps_meant hidden line)
  bar-halts b s line h e k d = subst (λ z. IsHalt h (hyps_meant hidden z)) (sym is)
      (halt-mapped h (mapped (λ _. []) (literal_at (codes "|- ") (124 ∷ s))) (λ hs. once (meanings hidden 0 hs))
      (halt-mapped h (literal_at (codes "|- ") (124 ∷ s)) (λ _. [])
      (subst (λ z. IsHalt h (literal_at (codes "|- ") z)) is d)))
    where
      is : line ≡ 124 ∷ s
      is = e ∙ ap (λ c. c ∷ s) k

  pub bar-goes : (b : ℕ) (s line r : List ℕ) (ts : List (Tm Name)) → line ≡ b ∷ s → b ≡ 124
      → literal_at (codes "|- ") line ≡ Got tt r → ts ≡ [] → hyps_meant hidden line ≡ Got (Ok ts) r
  bar-goes b s line r ts e k d w = ap (hyps_meant hidden) is
      ∙ ap (λ o. mapped (λ hs. once (meanings hidden 0 hs)) (mapped (λ _. []) o))
      (ap (literal_at (codes "|- ")) (sym is) ∙ d) ∙ ap (λ z. Got (Ok z) r) (sym w) where
        is : line ≡ 124 ∷ s
        is = e ∙ ap (λ c. c ∷ s) k

  pub some-hyps : (b : ℕ) (s line : List ℕ) → b ∷ s ≡ line → (b ≡ 124 → ⊥) → hyps_meant hidden (b ∷ s)
      ≡ mapped (λ hs. once (meanings hidden 0 hs)) (first_hyp_at (terms hidden) line)
  some-hyps b s line e h =
      ap (λ t. mapped (λ hs. once (meanings hidden 0 hs))
      (cond t (turnstile_at (terms hidden) (b ∷ s)) (first_hyp_at (terms hidden) (b ∷ s)))) (not-equal b 124 h)
      ∙ ap (λ z. mapped (λ hs. once (meanings hidden 0 hs)) (first_hyp_at (terms hidden) z)) e

  -- ---- what stands behind a hypothesis
  abbrev follow : Bool → List ℕ → Reading (List Written)
  follow b q = cond b (first_hyp_at (terms hidden) q) (Got [] q)

  further-turned : (c : ℕ) → (44 == c) ≡ (c == 44)
  further-turned c = grind (arith, nat_tests)

  -- by the comma
  further-by : (nt : IsNotation hidden) (s : List ℕ) → further_hyps_at (terms hidden) 0 s
      ≡ next (separator_at s) follow
  further-by nt [] = refl
  further-by nt (c ∷ s) = go (44 == c) refl where
    with_comma : (o : Reading (Unit {0})) → next o (λ _ r. first_hyp_at (terms hidden) r)
        ≡ next (mapped (λ _. true) o) follow
    with_comma (Got u r) = refl
    with_comma (Halted k r) = refl

    with_bar : (o : Reading (Unit {0})) → mapped (λ _. []) o ≡ next (mapped (λ _. false) o) follow
    with_bar (Got u r) = refl
    with_bar (Halted k r) = refl

    by : Option (List ℕ) → Reading Bool
    by o = elim o as (λ _. Reading Bool) [
      | Some after ↦ mapped (λ _. true) (literal_at (codes " ") after)
      | None ↦
          mapped (λ _. false) (literal_at (codes " |- ") (c ∷ s))
    ]

    go : (t : Bool) → (44 == c) ≡ t → further_hyps_at (terms hidden) 0 (c ∷ s) ≡ next (separator_at (c ∷ s)) follow
    go true d = comma-step hidden open_limit (terms hidden) (term_reads hidden nt open_limit) c s
        (sym (further-turned c) ∙ d) ∙ with_comma (literal_at (codes " ") s)
        ∙ ap (λ t. next (by (cond t (Some s) None)) follow) (sym d)
    go false d =
        ap (λ t. cond t
        (next (literal_at (codes " ") s)
        (λ _ r. next (terms hidden r)
        (λ a q. mapped (λ more. a ∷ more) (further_hyps_at (terms hidden) (length s - length q) s))))
        (mapped (λ _. []) (literal_at (codes " |- ") (c ∷ s)))) (sym (further-turned c) ∙ d)
        ∙ with_bar (literal_at (codes " |- ") (c ∷ s)) ∙ ap (λ t. next (by (cond t (Some s) None)) follow) (sym d)

  -- ---- the hypotheses so far
  abbrev also : Kept → Kept → Kept
  also r m = r >>= (λ ts. m >>= (λ us. Ok (ts ++ us)))

  abbrev with_one : Kept → Meaning → Kept
  with_one r m = r >>= (λ ts. m >>= (λ t. Ok (ts ++ t ∷ [])))

  once-more : (r : Kept) (m : Meaning) → one_more (once r) m ≡ once (with_one r m)
  once-more (Ok ts) (Ok t) = ap Ok (sym (once-push ts t))
  once-more (Ok ts) (Err e) = refl
  once-more (Err e) m = refl

  also-nothing : (m : Kept) → also (Ok []) m ≡ m
  also-nothing (Ok us) = refl
  also-nothing (Err e) = refl

  also-next : (r : Kept) (m : Meaning) (o : Kept) → also r (m >>= (λ t. o >>= (λ us. Ok (t ∷ us))))
      ≡ also (with_one r m) o
  also-next (Ok ts) (Ok t) (Ok us) = ap Ok (sym (append_assoc ts (t ∷ []) us))
  also-next (Ok ts) (Ok t) (Err e) = refl
  also-next (Ok ts) (Err e) o = refl
  also-next (Err e) m o = refl

  also-last : (r : Kept) (m : Meaning) → also r (m >>= (λ t. Ok (t ∷ []))) ≡ with_one r m
  also-last (Ok ts) (Ok t) = refl
  also-last (Ok ts) (Err e) = refl
  also-last (Err e) m = refl

  abbrev all_of : Kept → ℕ → List Written → Kept
  all_of far k hs = once (also far (meanings hidden k hs))

  -- the hypotheses of the line are those so far and those of the rest
  pub record AreSoFar (line : List ℕ) (hyps : Kept) (rest : List ℕ) : Type 0 where
    pub far : Kept
    pub is : hyps ≡ once far
    pub within : length rest ≤ length line
    pub same : mapped (λ hs. once (meanings hidden 0 hs)) (first_hyp_at (terms hidden) line)
        ≡ mapped (all_of far (place_at (length line) rest)) (first_hyp_at (terms hidden) rest)

  pub far-start : (line : List ℕ) (hyps : Kept) → hyps ≡ Ok [] → AreSoFar line hyps line
  far-start line hyps e = record {
    far = Ok [];
    is = e;
    within = omega arith;
    same = mapped-same _ _ (first_hyp_at (terms hidden) line)
        (λ hs. ap once
        (sym (also-nothing (meanings hidden 0 hs)) ∙ ap (λ k. also (Ok []) (meanings hidden k hs)) zero_place));
  } where
    zero_place : 0 ≡ place_at (length line) line
    zero_place = omega arith

  module _ (nt : IsNotation hidden) (line : List ℕ) (hyps : Kept) (rest : List ℕ) (h : AreSoFar line hyps rest) where
    abbrev further : List ℕ → Reading (List Written)
    further = further_hyps_at (terms hidden) 0

    abbrev here : ℕ
    here = place_at (length line) rest

    further-is : (s : List ℕ) → further s ≡ next (separator_at s) follow
    further-is s = further-by nt s

    -- a term that halts
    pub far-halt : (k : Halt) → IsHalt k (meant_at hidden (length line) true rest)
        → IsHalt k (mapped (λ hs. once (meanings hidden 0 hs)) (first_hyp_at (terms hidden) line))
    far-halt k e = halt-same k (mapped (all_of h.far here) (first_hyp_at (terms hidden) rest)) _ h.same
        (halt-mapped k (first_hyp_at (terms hidden) rest) (all_of h.far here)
        (halt-next k (terms hidden rest) (λ a q. mapped (λ more. a ∷ more) (further q))
        (unmapped-halt (meaning hidden [] true here) (terms hidden rest) k e)))

    -- a term, with what stands behind it
    module _ (x : Meaning) (end : List ℕ) (read : meant_at hidden (length line) true rest ≡ Got x end) where
      term : WasRead (meaning hidden [] true here) (terms hidden rest) x end
      term = was-read (meaning hidden [] true here) (terms hidden rest) x end read

      behind : mapped (λ hs. once (meanings hidden 0 hs)) (first_hyp_at (terms hidden) line)
          ≡ mapped (λ hs. all_of h.far here (term.value ∷ hs)) (further end)
      behind = h.same ∙ ap (λ o. mapped (all_of h.far here) (next o (λ a q. mapped (λ more. a ∷ more) (further q))))
          term.read ∙ twice (λ more. term.value ∷ more) (all_of h.far here) (further end)

      length_of : length rest ≡ length (term_text hidden term.value) + length end
      length_of = term-length hidden nt open_limit rest term.value end term.read

      pub far-behind-halt : (k : Halt) → IsHalt k (separator_at end)
          → IsHalt k (mapped (λ hs. once (meanings hidden 0 hs)) (first_hyp_at (terms hidden) line))
      far-behind-halt k e = halt-same k (mapped (λ hs. all_of h.far here (term.value ∷ hs)) (further end)) _ behind
          (halt-mapped k (further end) (λ hs. all_of h.far here (term.value ∷ hs))
          (halt-same k (next (separator_at end) follow) (further end) (further-is end)
          (halt-next k (separator_at end) follow e)))

      -- a further one
      pub far-more : (hs : Kept) (q : List ℕ) → hs ≡ one_more hyps x → separator_at end ≡ Got true q
          → AreSoFar line hs q
      far-more hs q e d =
          let a = length_of in let b = comma-length end q d in let w = h.within in
          let place : here + 2 + length (term_text hidden term.value) ≡ place_at (length line) q =
          omega (arith, a, b, w) in
          record {
            far = with_one h.far x;
            is = e ∙ ap (λ r. one_more r x) h.is ∙ once-more h.far x;
            within = omega (arith, a, b, w);
            same = behind
                ∙ ap (mapped (λ hs. all_of h.far here (term.value ∷ hs))) (further-is end ∙ ap (λ o. next o follow) d)
                ∙ mapped-same _ _ (first_hyp_at (terms hidden) q) (λ us. ap once
                ((λ i. also h.far (term.made i >>= (λ t. meanings hidden (place i) us >>= (λ hs. Ok (t ∷ hs)))))
                ∙ also-next h.far x (meanings hidden (place_at (length line) q) us)));
          }

      -- no further one
      pub far-end : (hs : Kept) (q : List ℕ) → hs ≡ one_more hyps x → separator_at end ≡ Got false q
          → mapped (λ hs. once (meanings hidden 0 hs)) (first_hyp_at (terms hidden) line) ≡ Got hs q
      far-end hs q e d = behind ∙ ap (mapped (λ hs. all_of h.far here (term.value ∷ hs)))
          (further-is end ∙ ap (λ o. next o follow) d)
          ∙ ap (λ z. Got z q) (ap once ((λ i. also h.far (term.made i >>= (λ t. Ok (t ∷ [])))) ∙ also-last h.far x)
          ∙ sym (e ∙ ap (λ r. one_more r x) h.is ∙ once-more h.far x))

-- the refusal of a sequent whose part at this place is refused
pub wrong-sequent : (m : Result (Sequent Name) Refusal) (k : ℕ) (f : TextFault) (r : ReadRefusal) → m ≡ Err (k, f)
    → IsAt k f r → IsSequent m (Err r)
wrong-sequent m k f (refusals.At c g) e d = (k, e ∙ ap (λ z. Err (k, z)) (sym d.1), d.0)
wrong-sequent m k f (refusals.Memory memory) e d = tt
