-- Lines: their reader reads each line of a written sequent, and halts where no line goes on.
use Rattle.std.specs.Prelude.{◌≡◌, ◌≤◌, ℕ, zero, suc, ◌+◌, ◌-◌, ◌==◌, ◌||◌, Bool}
use Rattle.std.specs.Prelude.{true, false, cond, List, [], ◌∷◌, ◌++◌, length, codes}
use Rattle.std.specs.List.{AllByRecursion}
use Rattle.std.proofs.Common.{refl, sym, ◌∙◌, ap, subst, append_assoc, length-append, inl, inr, arith}
use Rattle.std.proofs.lemmas.Bool.{eqb-true}
use Rattle.ot_logic.specs.Names.{Name}
use Rattle.ot_logic.specs.Trees.{Symbol}
use Rattle.ot_forms.specs.Words.{is_letter}
use Rattle.ot_forms.specs.Forms.{Written, Place, IsWritten, most_open, term_text}
use Rattle.ot_forms.specs.Forms.{further_hyps, hyps_text, WrittenSequent, line_text}
use Rattle.ot_forms.specs.Reading.{NoForm, Reading, Got, Halted, next, mapped, literal_at}
use Rattle.ot_forms.specs.Reading.{further_hyps_at, first_hyp_at, turnstile_at, hyps_at, line_at}
use Rattle.ot_forms.proofs.Readers.{IsRead, Follows, Reads, Joined, Image, Begins, Is, Any, Either, picked, join}
use Rattle.ot_forms.proofs.Readers.{told, mapped-reads, mapped-follows, pick, literal-reads, behind, same_at}
use Rattle.ot_forms.proofs.Readers.{at_end, halts_here, unchanged, second-read, first-halted, same-reads}
use Rattle.ot_forms.proofs.Types.{IsEnd, differs}
use Rattle.ot_forms.proofs.Terms.{SaysTerm, starts_of}

module _ (hidden : List (Symbol Name)) (m : ℕ) (term : List ℕ → Reading Written)
    (ht : Reads (SaysTerm hidden m) IsEnd term) where
  abbrev AreFine : List Written → Type 0
  AreFine = AllByRecursion (λ a. IsWritten a × (most_open a ≤ m))

  -- the further hypotheses and the turnstile
  pub record SaysFurther (hs : List Written) (y : List ℕ) : Type 0 where
    pub text : y ≡ further_hyps hidden hs
    pub fine : AreFine hs

  abbrev more_at : List ℕ → Reading (List Written)
  more_at = further_hyps_at term 0

  abbrev put : Written → List Written → List Written
  put a hs = a ∷ hs

  abbrev Hyps : List Written → List ℕ → Type 0
  Hyps = Joined (SaysTerm hidden m) (λ a. Image (put a) SaysFurther)

  abbrev Comma : List Written → List ℕ → Type 0
  Comma = Joined (Is (codes " ")) (λ _. Hyps)

  abbrev pub comma_at : List ℕ → Reading (List Written)
  comma_at z = next (literal_at (codes " ") z) (λ _ r. first_hyp_at term r)

  skip : (x r : List ℕ) → further_hyps_at term (length x) (x ++ r) ≡ more_at r
  skip [] r = refl
  skip (b ∷ x) r = skip x r

  skip_read : (s x r : List ℕ) → s ≡ x ++ r → further_hyps_at term (length s - length r) s ≡ more_at r
  skip_read s x r e =
      let k : length s - length r ≡ length x = let q : length s ≡ length x + length r = ap length e
      ∙ length-append x r in omega arith in
      (λ i. further_hyps_at term (k i) (e i)) ∙ skip x r

  pub comma-step : (b : ℕ) (z : List ℕ) → (b == 44) ≡ true → more_at (b ∷ z) ≡ comma_at z
  comma-step b z e =
      ap (λ t. cond t
      (next (literal_at (codes " ") z)
      (λ _ r. next (term r) (λ a q. mapped (put a) (further_hyps_at term (length z - length q) z))))
      (mapped (λ _. []) (literal_at (codes " |- ") (b ∷ z)))) e
      ∙ space (literal_at (codes " ") z) ((literal-reads (codes " ")).follows z)
    where
      by_term : (x r : List ℕ) → z ≡ x ++ r → (o : Reading Written) → Follows (SaysTerm hidden m) term r o
          → next o (λ a q. mapped (put a) (further_hyps_at term (length z - length q) z))
          ≡ next o (λ a q. mapped (put a) (more_at q))
      by_term x r e (Got a q) h =
          ap (mapped (put a))
          (skip_read z (x ++ h.text) q (e ∙ ap (λ y. x ++ y) h.is ∙ sym (append_assoc x h.text q)))
      by_term x r e (Halted k q) h = refl

      space : (o : Reading (Unit {0})) → Follows (Is (codes " ")) (literal_at (codes " ")) z o
          → next o (λ _ r. next (term r) (λ a q. mapped (put a) (further_hyps_at term (length z - length q) z)))
          ≡ next o (λ _ r. first_hyp_at term r)
      space (Got u r) h = by_term h.text r h.is (term r) (ht.follows r)
      space (Halted k r) h = refl

  bar-step : (b : ℕ) (z : List ℕ) → (b == 44) ≡ false
      → more_at (b ∷ z) ≡ mapped (λ _. []) (literal_at (codes " |- ") (b ∷ z))
  bar-step b z e =
      ap (λ t. cond t
      (next (literal_at (codes " ") z)
      (λ _ r. next (term r) (λ a q. mapped (put a) (further_hyps_at term (length z - length q) z))))
      (mapped (λ _. []) (literal_at (codes " |- ") (b ∷ z)))) e

  further-end : (hs : List Written) (r : List ℕ) → IsEnd (further_hyps hidden hs ++ r)
  further-end [] r = refl
  further-end (a ∷ hs) r = refl

  no-hyps : SaysFurther [] (codes " |- ")
  no-hyps = record { text = refl; fine = tt }

  more-complete : (hs : List Written) (r : List ℕ) → AreFine hs → more_at (further_hyps hidden hs ++ r) ≡ Got hs r
  more-complete [] r h = ap (mapped (λ _. [])) ((literal-reads (codes " |- ")).complete tt (codes " |- ") r refl tt)
  more-complete (a ∷ hs) r h =
      ap more_at (ap (λ z. 44 ∷ 32 ∷ z) (append_assoc (term_text hidden a) (further_hyps hidden hs) r))
      ∙ comma-step 44 (32 ∷ (term_text hidden a ++ (further_hyps hidden hs ++ r))) refl
      ∙ ap (λ o. next o (λ a q. mapped (put a) (more_at q)))
      (ht.complete a (term_text hidden a) (further_hyps hidden hs ++ r)
      (record { text = refl; fine = h.0.0; within = h.0.1 }) (further-end hs r))
      ∙ ap (mapped (put a)) (more-complete hs r h.1)

  some-term : SaysTerm hidden m (Place (codes "a")) (codes "a")
  some-term = record { text = refl; fine = refl; within = omega arith }

  hyps-some : (a : Written) → Image (put a) SaysFurther (a ∷ []) (codes " |- ")
  hyps-some a = record { from = []; says = no-hyps; is = refl }

  hyps-follows : (s : List ℕ) → ((r : List ℕ) → length r ≤ length s → Follows SaysFurther more_at r (more_at r))
      → Follows Hyps (first_hyp_at term) s (first_hyp_at term s)
  hyps-follows s ih = go (term s) (ht.follows s) where
    go : (o : Reading Written) → Follows (SaysTerm hidden m) term s o
        → Follows Hyps (first_hyp_at term) s (next o (λ a q. mapped (put a) (more_at q)))
    go (Got a r) h = second-read (SaysTerm hidden m) (λ a. Image (put a) SaysFurther) IsEnd Any term
        (λ a q. mapped (put a) (more_at q)) s a r h (mapped (put a) (more_at r))
        (mapped-follows SaysFurther (Image (put a) SaysFurther) more_at (put a)
        (λ hs x p. record { from = hs; says = p; is = refl }) r (more_at r)
        (ih r (let q : length s ≡ length h.text + length r = ap length h.is ∙ length-append h.text r in omega arith)))
    go (Halted k r) h = first-halted (SaysTerm hidden m) (λ a. Image (put a) SaysFurther) IsEnd Any term
        (λ a q. mapped (put a) (more_at q)) (λ a. (a ∷ [], codes " |- ", hyps-some a)) s k r h

  comma-follows : (s : List ℕ) → ((r : List ℕ) → length r ≤ length s → Follows SaysFurther more_at r (more_at r))
      → Follows Comma comma_at s (comma_at s)
  comma-follows s ih = go (literal_at (codes " ") s) ((literal-reads (codes " ")).follows s) where
    go : (o : Reading (Unit {0})) → Follows (Is (codes " ")) (literal_at (codes " ")) s o
        → Follows Comma comma_at s (next o (λ _ r. first_hyp_at term r))
    go (Got u r) h = second-read (Is (codes " ")) (λ _. Hyps) Any Any (literal_at (codes " "))
        (λ _ r. first_hyp_at term r) s u r h (first_hyp_at term r)
        (hyps-follows r
        (λ q k. ih q (let w : length s ≡ length h.text + length r = ap length h.is ∙ length-append h.text r in
        omega arith)))
    go (Halted k r) h = first-halted (Is (codes " ")) (λ _. Hyps) Any Any (literal_at (codes " "))
        (λ _ r. first_hyp_at term r)
        (λ _. (
          Place (codes "a") ∷ [],
          codes "a |- ",
          record {
            one = Place (codes "a");
            front = codes "a";
            back = codes " |- ";
            says = some-term;
            then = hyps-some (Place (codes "a"));
            is = refl;
          },
        )) s k r h

  comma-says : (b : ℕ) (hs : List Written) (y : List ℕ) → b ≡ 44 → Comma hs y → SaysFurther hs (b ∷ y)
  comma-says b hs y e h = let p = h.then in let q = p.then in
      subst (λ z. SaysFurther z (b ∷ y)) (sym q.is) (record {
        text = (λ i. e i ∷ (h.is ∙ (λ j. h.says j ++ (p.is ∙ (λ k. p.says.text k ++ q.says.text k)) j)) i);
        fine = ((p.says.fine, p.says.within), q.says.fine);
      })

  more-follows : (fuel : ℕ) (s : List ℕ) → length s ≤ fuel → Follows SaysFurther more_at s (more_at s)
  more-follows fuel [] h = halts_here SaysFurther more_at [] NoForm [] (codes " |- ") no-hyps
      (at_end (λ z. more_at z ≡ Halted NoForm z) refl)
  more-follows zero (b ∷ s) h = absurd (omega arith)
  more-follows (suc fuel) (b ∷ s) h = go (λ r k. more-follows fuel r (omega arith)) (b == 44) refl where
    no_change : (o : Reading (List Written)) → Follows SaysFurther more_at (b ∷ s) (mapped (λ u. u) o)
        → Follows SaysFurther more_at (b ∷ s) o
    no_change (Got a r) h = h
    no_change (Halted k r) h = h

    go : ((r : List ℕ) → length r ≤ length s → Follows SaysFurther more_at r (more_at r)) → (t : Bool) → (b == 44) ≡ t
        → Follows SaysFurther more_at (b ∷ s) (more_at (b ∷ s))
    go ih true e = subst (Follows SaysFurther more_at (b ∷ s)) (sym (comma-step b s e)) (no_change (comma_at s)
        (behind Comma SaysFurther comma_at more_at (λ u. u) b (λ z. comma-step b z e ∙ sym (unchanged (comma_at z)))
        (λ hs y w. comma-says b hs y (eqb-true b 44 e) w) s (comma_at s) (comma-follows s ih)))
    go ih false e = subst (Follows SaysFurther more_at (b ∷ s)) (sym (bar-step b s e))
        (same_at SaysFurther (λ z. mapped (λ _. []) (literal_at (codes " |- ") z)) more_at b (λ t. bar-step b t e) s
        (mapped (λ _. []) (literal_at (codes " |- ") (b ∷ s)))
        (mapped-follows (Is (codes " |- ")) SaysFurther (literal_at (codes " |- ")) (λ _. [])
        (λ u x p. record { text = p; fine = tt }) (b ∷ s) (literal_at (codes " |- ") (b ∷ s))
        ((literal-reads (codes " |- ")).follows (b ∷ s))))

  more-reads : Reads SaysFurther Any more_at
  more-reads = record {
    complete = λ hs y r w e. ap (λ z. more_at (z ++ r)) w.text ∙ more-complete hs r w.fine;
    follows = λ s. more-follows (length s) s (omega arith);
  }

  -- ---- the hypotheses and the turnstile
  hyps-reads : Reads Hyps Any (first_hyp_at term)
  hyps-reads = join (SaysTerm hidden m) (λ a. Image (put a) SaysFurther) IsEnd Any term
      (λ a q. mapped (put a) (more_at q)) ht (λ a. mapped-reads (put a) SaysFurther Any more_at more-reads)
      (λ a. (a ∷ [], codes " |- ", hyps-some a))
      (λ a hs y r h e. subst (λ z. IsEnd (z ++ r)) (sym h.says.text) (further-end h.from r))

  abbrev Bar : List Written → List ℕ → Type 0
  Bar = Image (λ _. []) (Is (codes "|- "))

  bar-reads : Reads Bar Any (turnstile_at term)
  bar-reads = mapped-reads (λ _. []) (Is (codes "|- ")) Any (literal_at (codes "|- ")) (literal-reads (codes "|- "))

  abbrev is_bar : ℕ → Bool
  is_bar b = b == 124

  abbrev Front : List Written → List ℕ → Type 0
  Front = Either Bar Hyps Any (turnstile_at term) (first_hyp_at term) is_bar

  bar-byte : (hs : List Written) (y : List ℕ) → Bar hs y → Begins is_bar true y
  bar-byte hs y h = record { byte = 124; rest = codes "- "; is = h.says; tells = refl }

  abbrev starts_term : ℕ → Bool
  starts_term b = is_letter b || ((b == 40) || (b == 123))

  hyps-byte : (hs : List Written) (y : List ℕ) → Hyps hs y → Begins starts_term true y
  hyps-byte hs y h = let k = starts_of hidden h.one h.says.fine in
      record {
        byte = k.byte;
        rest = k.rest ++ h.back;
        is = h.is ∙ ap (λ q. q ++ h.back) (h.says.text ∙ k.is);
        tells = k.tells;
      }

  some-bar : Bar [] (codes "|- ")
  some-bar = record { from = tt; says = refl; is = refl }

  front-reads : Reads Front Any (hyps_at term)
  front-reads = same-reads Front Any (picked Bar Hyps Any (turnstile_at term) (first_hyp_at term) is_bar)
      (hyps_at term) same
      (pick Bar Hyps Any (turnstile_at term) (first_hyp_at term) is_bar [] (codes "|- ")
      (inl (some-bar, bar-byte [] _ some-bar)) bar-reads hyps-reads
      (λ hs y h. record { byte = 124; rest = codes "- "; is = h.says })
      (λ hs y h. let k = hyps-byte hs y h in record { byte = k.byte; rest = k.rest; is = k.is }))
    where
      same : (s : List ℕ) → hyps_at term s ≡ picked Bar Hyps Any (turnstile_at term) (first_hyp_at term) is_bar s
      same [] = refl
      same (b ∷ s) = refl

  pub record SaysLine (q : WrittenSequent) (x : List ℕ) : Type 0 where
    pub text : x ≡ line_text hidden q
    pub hyps : AreFine q.hyps
    pub concl : IsWritten q.concl × (most_open q.concl ≤ m)

  abbrev sequent : List Written → Written → WrittenSequent
  sequent hs c = record { hyps = hs; concl = c }

  abbrev Line : WrittenSequent → List ℕ → Type 0
  Line = Joined Front (λ hs. Image (sequent hs) (SaysTerm hidden m))

  front-says : (hs : List Written) (y : List ℕ) → Front hs y → (y ≡ hyps_text hidden hs) × AreFine hs
  front-says hs y h = elim h [
    | inl p ↦ let b = p.0 in subst (λ z. (y ≡ hyps_text hidden z) × AreFine z) (sym b.is) (b.says, tt)
    | inr p ↦ let k = p.0 in let q = k.then in
        subst (λ z. (y ≡ hyps_text hidden z) × AreFine z) (sym q.is)
        (k.is ∙ (λ i. k.says.text i ++ q.says.text i), ((k.says.fine, k.says.within), q.says.fine))
  ]

  -- the bytes of the hypotheses and the turnstile
  pub hyps-length : (s : List ℕ) (hs : List Written) (r : List ℕ) → hyps_at term s ≡ Got hs r
      → length s ≡ length (hyps_text hidden hs) + length r
  hyps-length s hs r e =
      let h : IsRead Front (hyps_at term) s hs r = subst (Follows Front (hyps_at term) s) e (front-reads.follows s) in
      ap length h.is ∙ length-append h.text r ∙ ap (λ z. length z + length r) (front-says hs h.text h.says).0

  says-front : (hs : List Written) → AreFine hs → Front hs (hyps_text hidden hs)
  says-front [] h = inl (some-bar, bar-byte [] _ some-bar)
  says-front (a ∷ hs) h =
      let w : Hyps (a ∷ hs) (hyps_text hidden (a ∷ hs)) =
      record {
        one = a;
        front = term_text hidden a;
        back = further_hyps hidden hs;
        says = record { text = refl; fine = h.0.0; within = h.0.1 };
        then =
            record { from = hs; says = record { text = refl; fine = h.1 }; is = refl };
        is = refl;
      } in
      let k = hyps-byte (a ∷ hs) _ w in
      inr (w, record { byte = k.byte; rest = k.rest; is = k.is; tells = differs starts_term 124 k.byte refl k.tells })

  -- the reader of lines reads each line of a written sequent, and halts where none goes on
  pub line-reads : Reads SaysLine IsEnd (line_at term)
  line-reads = told Line SaysLine IsEnd (line_at term)
      (join Front (λ hs. Image (sequent hs) (SaysTerm hidden m)) Any IsEnd (hyps_at term)
      (λ hs r. mapped (sequent hs) (term r)) front-reads
      (λ hs. mapped-reads (sequent hs) (SaysTerm hidden m) IsEnd term ht)
      (λ hs. (
        sequent hs (Place (codes "a")),
        codes "a",
        record {
          from = Place (codes "a");
          says = some-term;
          is = refl;
        },
      )) (λ _ _ _ _ _ _. tt))
      (λ q x h. let f = front-says h.one h.front h.says in let c = h.then in subst (λ z. SaysLine z x) (sym c.is)
      (record { text = h.is ∙ (λ i. f.0 i ++ c.says.text i); hyps = f.1; concl = (c.says.fine, c.says.within) }))
      (λ q x h. record {
        one = q.hyps;
        front = hyps_text hidden q.hyps;
        back = term_text hidden q.concl;
        says = says-front q.hyps h.hyps;
        then =
            record { from = q.concl; says = record { text = refl; fine = h.concl.0; within = h.concl.1 }; is = refl };
        is = h.text;
      })
