-- Terms: their reader reads each text of a written term, and halts where no text of one goes on.
use Rattle.std.specs.Prelude.{◌≡◌, ℕ, zero, suc, ◌==◌, ◌||◌, ◌&&◌, Bool}
use Rattle.std.specs.Prelude.{true, false, cond, List, [], ◌∷◌, ◌++◌, codes}
use Rattle.std.specs.List.{list_all}
use Rattle.std.proofs.Common.{refl, sym, ◌∙◌, ap, subst, arith}
use Rattle.std.proofs.lemmas.Bool.{eqb-true, and_parts}
use Rattle.ot_logic.specs.Names.{Name}
use Rattle.ot_logic.specs.Trees.{Symbol}
use Rattle.ot_forms.specs.Words.{is_inner, is_letter, is_part}
use Rattle.ot_forms.specs.Forms.{Written, Place, FreeAs, ConAs, Equal, Infix, Applied, Binding, term_text}
use Rattle.ot_forms.specs.Reading.{NoForm, OneTooMany, Reading, Got, Halted, mapped, part_at}
use Rattle.ot_forms.specs.Reading.{closed_term_at, braced_at, term_by, term_at, type_at}
use Rattle.ot_forms.proofs.Readers.{Follows, Reads, Any, mapped-follows, behind}
use Rattle.ot_forms.proofs.Readers.{same_at, at_byte, at_end, halts_here, unchanged}
use Rattle.ot_forms.proofs.Types.{IsEnd, SaysType, differs}
use Rattle.ot_forms.proofs.Marks.{SaysPart, part-reads}
use Rattle.ot_forms.proofs.Terms.{SaysConstant, IsConstantEnd, SaysTerm, some_term}
use Rattle.ot_forms.proofs.Terms.{some-says, end-part}
use Rattle.ot_forms.proofs.TermTexts.{opened-reads, brace-reads}

module _ (hidden : List (Symbol Name)) where
  -- ---- a term, by its first byte
  module _ (m : ℕ) (opened braced : List ℕ → Reading Written) where
    part-complete : (x r : List ℕ) → is_part x ≡ true → IsEnd r → part_at (x ++ r) ≡ Got x r
    part-complete [] r h e = cc
    part-complete (b ∷ x) r h e =
        let k = and_parts (is_letter b) (list_all is_inner x) h in
        let part : SaysPart (b ∷ x) (b ∷ x) =
        record { first_byte = b; rest = x; is = refl; begins = k.0; inner_is = k.1; text = refl } in
        part-reads.complete (b ∷ x) (b ∷ x) r part (end-part hidden r e)

    -- the reader by the first byte, and what it reads where that is neither a parenthesis nor a brace
    abbrev reader : List ℕ → Reading Written
    reader = term_by opened braced

    abbrev place_at : List ℕ → Reading Written
    place_at z = mapped Place (part_at z)

    abbrev Followed : List ℕ → Reading Written → Type 0
    Followed s o = Follows (SaysTerm hidden m) reader s o

    by-complete : ((w : Written) (x r : List ℕ) → SaysTerm hidden m w (40 ∷ x) → opened (x ++ r) ≡ Got w r)
        → ((w : Written) (x r : List ℕ) → SaysTerm hidden m w (123 ∷ x) → braced (x ++ r) ≡ Got w r)
        → (w : Written) (x r : List ℕ) → SaysTerm hidden m w x → IsEnd r → reader (x ++ r) ≡ Got w r
    by-complete ho hb w x r h e = ap (λ z. reader (z ++ r)) h.text
        ∙ go w (record { text = refl; fine = h.fine; within = h.within }) where
          go : (w : Written) → SaysTerm hidden m w (term_text hidden w) → reader (term_text hidden w ++ r) ≡ Got w r
          go (Place []) h = let f = h.fine in cc
          go (Place (b ∷ x)) h = let k = and_parts (is_letter b) (list_all is_inner x) h.fine in
              (λ i. cond (differs is_letter 40 b refl k.0 i) (opened (x ++ r))
              (cond (differs is_letter 123 b refl k.0 i) (braced (x ++ r)) (place_at (b ∷ (x ++ r)))))
              ∙ ap (mapped Place) (part-complete (b ∷ x) r h.fine e)
          go (FreeAs n t) h = ho (FreeAs n t) _ r h
          go (ConAs n t) h = hb (ConAs n t) _ r h
          go (Equal a b) h = ho (Equal a b) _ r h
          go (Infix o a b) h = ho (Infix o a b) _ r h
          go (Applied f a more) h = ho (Applied f a more) _ r h
          go (Binding x t a) h = ho (Binding x t a) _ r h

    place-says : (x y : List ℕ) → SaysPart x y → SaysTerm hidden m (Place x) y
    place-says x y h =
        record {
          text = h.text;
          fine = subst (λ z. is_part z ≡ true) (sym h.is) (λ i. h.begins i && h.inner_is i);
          within = omega arith;
        }

    by-follows : ((s : List ℕ) → Followed (40 ∷ s) (opened s)) → ((s : List ℕ) → Followed (123 ∷ s) (braced s))
        → (s : List ℕ) → Followed s (reader s)
    by-follows ho hb [] =
        halts_here (SaysTerm hidden m) reader [] NoForm (some_term hidden) (codes "a") (some-says hidden m)
        (at_end (λ z. reader z ≡ Halted NoForm z) refl)
    by-follows ho hb (b ∷ s) = paren (b == 40) refl where
      brace : (t : Bool) → (b == 40) ≡ false → (b == 123) ≡ t
          → Followed (b ∷ s) (cond t (braced s) (place_at (b ∷ s)))
      brace true d e = subst (λ c. Followed (c ∷ s) (braced s)) (sym (eqb-true b 123 e)) (hb s)
      brace false d e =
          same_at (SaysTerm hidden m) place_at reader b
          (λ t i. cond (d i) (opened t) (cond (e i) (braced t) (place_at (b ∷ t)))) s
          (place_at (b ∷ s))
          (mapped-follows SaysPart (SaysTerm hidden m) part_at Place place-says (b ∷ s) (part_at (b ∷ s))
          (part-reads.follows (b ∷ s)))

      paren : (t : Bool) → (b == 40) ≡ t
          → Followed (b ∷ s) (cond t (opened s) (cond (b == 123) (braced s) (place_at (b ∷ s))))
      paren true e = subst (λ c. Followed (c ∷ s) (opened s)) (sym (eqb-true b 40 e)) (ho s)
      paren false e = brace (b == 123) e refl

  -- no term without a parenthesis or a brace begins with one
  no_paren : (w : Written) (x : List ℕ) (b : ℕ) → ((b == 40) || (b == 123)) ≡ true → SaysTerm hidden 0 w (b ∷ x) → ⊥
  no_paren (Place []) x b e h = let f = h.fine in cc
  no_paren (Place (c ∷ z)) x b e h =
      let k = and_parts (is_letter c) (list_all is_inner z) h.fine in
      let q : b ≡ c = let t = h.text in cc in
      no_letter b (ap is_letter q ∙ k.0) e
    where
      no_letter : (b : ℕ) → is_letter b ≡ true → ((b == 40) || (b == 123)) ≡ true → ⊥
      no_letter b w e = let z : ((b == 40) || (b == 123)) ≡ false = λ i. differs is_letter 40 b refl w i
          || differs is_letter 123 b refl w i in cc
  no_paren (FreeAs n t) x b e h = let k = h.within in omega (arith, k)
  no_paren (ConAs n t) x b e h = let k = h.within in omega (arith, k)
  no_paren (Equal a c) x b e h = let k = h.within in omega (arith, k)
  no_paren (Infix o a c) x b e h = let k = h.within in omega (arith, k)
  no_paren (Applied f a more) x b e h = let k = h.within in omega (arith, k)
  no_paren (Binding z t a) x b e h = let k = h.within in omega (arith, k)

  module _ (constant_at : List ℕ → Reading Name) (hc : Reads (SaysConstant hidden) IsConstantEnd constant_at)
      (hy : (n : ℕ) → Reads (SaysType hidden n) IsEnd (type_at hidden n)) where
    -- too many are open at the first byte
    closed_here : (b : ℕ) (s : List ℕ)
        → ((t : List ℕ) → term_at hidden constant_at 0 (b ∷ t) ≡ Halted OneTooMany (b ∷ t))
        → Follows (SaysTerm hidden 0) (term_at hidden constant_at 0) (b ∷ s) (Halted OneTooMany (b ∷ s))
    closed_here b s none =
        halts_here (SaysTerm hidden 0) (term_at hidden constant_at 0) (b ∷ s) OneTooMany (some_term hidden)
        (codes "a") (some-says hidden 0)
        (at_byte b s (λ z. term_at hidden constant_at 0 z ≡ Halted OneTooMany z) none)

    -- behind a first byte, with one more open
    opened_here : (n b : ℕ) (part : List ℕ → Reading Written)
        → ((t : List ℕ) → term_at hidden constant_at (suc n) (b ∷ t) ≡ part t)
        → Reads (λ w x. SaysTerm hidden (suc n) w (b ∷ x)) Any part → (s : List ℕ)
        → Follows (SaysTerm hidden (suc n)) (term_at hidden constant_at (suc n)) (b ∷ s) (part s)
    opened_here n b part is h s = no_change (part s)
        (behind (λ w x. SaysTerm hidden (suc n) w (b ∷ x)) (SaysTerm hidden (suc n)) part
        (term_at hidden constant_at (suc n)) (λ u. u) b
        (λ z. is z ∙ sym (unchanged (part z))) (λ w x h. h) s (part s) (h.follows s))
      where
        no_change : (o : Reading Written) → Follows (SaysTerm hidden (suc n)) (term_at hidden constant_at (suc n))
            (b ∷ s) (mapped (λ u. u) o)
            → Follows (SaysTerm hidden (suc n)) (term_at hidden constant_at (suc n)) (b ∷ s) o
        no_change (Got a r) h = h
        no_change (Halted k r) h = h

    -- the reader of terms with room for n open parentheses and braces reads exactly the texts of written terms with
    -- at most n open, and halts where none of them goes on
    pub term-reads : (n : ℕ) → Reads (SaysTerm hidden n) IsEnd (term_at hidden constant_at n)
    term-reads zero = record {
      complete = by-complete 0 (λ s. Halted OneTooMany (40 ∷ s)) (λ s. Halted OneTooMany (123 ∷ s))
          (λ w x r h. absurd (no_paren w x 40 refl h)) (λ w x r h. absurd (no_paren w x 123 refl h));
      follows = by-follows 0 (λ s. Halted OneTooMany (40 ∷ s)) (λ s. Halted OneTooMany (123 ∷ s))
          (λ s. closed_here 40 s (λ t. refl)) (λ s. closed_here 123 s (λ t. refl));
    }
    term-reads (suc n) =
        let ht = term-reads n in
        let ho = opened-reads hidden n constant_at (type_at hidden n) (term_at hidden constant_at n) hc (hy n) ht in
        let hb = brace-reads hidden n constant_at (type_at hidden n) (term_at hidden constant_at n) hc (hy n) ht in
        let opened = closed_term_at constant_at (type_at hidden n) (term_at hidden constant_at n) in
        let braced = braced_at constant_at (type_at hidden n) (term_at hidden constant_at n) in
        record {
          complete = by-complete (suc n) opened braced (λ w x r h. ho.complete w x r h tt)
              (λ w x r h. hb.complete w x r h tt);
          follows = by-follows (suc n) opened braced (opened_here n 40 opened (λ t. refl) ho)
              (opened_here n 123 braced (λ t. refl) hb);
        }
