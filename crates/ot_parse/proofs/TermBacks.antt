-- What comes of a term that has ended.
use Rattle.std.specs.Prelude.{◌≡◌, ◌≤◌, ◌+◌, ◌-◌, ◌==◌, ℕ, true, false}
use Rattle.std.specs.Prelude.{cond, length, List, [], ◌∷◌, codes}
use Rattle.std.proofs.Common.{refl, sym, ◌∙◌, ap, subst, arith, Bor}
use Rattle.std.proofs.lemmas.Bool.Decides.{nat_tests}
use Rattle.ot_logic.specs.Names.{Name}
use Rattle.ot_logic.specs.Trees.{Ty, Symbol}
use Rattle.ot_forms.specs.Words.{IsNotation, is_sign}
use Rattle.ot_forms.specs.Forms.{Written, Writtens, NoMore, More}
use Rattle.ot_forms.specs.Meaning.{Around, meaning}
use Rattle.ot_forms.specs.Reading.{Reading, Got, Halted, NoForm, next, mapped, literal_at}
use Rattle.ot_forms.specs.Reading.{signs_at, constant_at, type_at, further_terms_at}
use Rattle.ot_parse.specs.declared.halt.Halt.{Halt}
use Rattle.ot_parse.specs.declared.terms.Open.TheVariants as opens
use Rattle.ot_parse.specs.declared.values.Meant.{Meant as Part}
use Rattle.ot_parse.specs.Gives.{IsHalt}
use Rattle.ot_parse.specs.Meant.{Meaning, place_at, wholly, raw, apply_of}
use Rattle.ot_parse.specs.Meant.{abstracted, applied_of, is_relation, sides_of}
use Rattle.ot_parse.specs.Values.{Means, IsWholly, meant_of}
use Rattle.ot_parse.specs.TermFrames.{First, Right, Argument, Body, closed, reads}
use Rattle.ot_parse.specs.TermFrames.{begun, operated, applied, behind, after}
use Rattle.ot_parse.specs.TermCode.{GoesIn, IsWholeTerm}
use Rattle.ot_parse.proofs.Halts.{halt-same, halt-next, halt-mapped}
use Rattle.ot_parse.proofs.Lengths.{literal-length, space-length, signs-length}
use Rattle.ot_parse.proofs.Meanings.{whole-raw}
use Rattle.ot_parse.proofs.TermLaws.{argument-goes}
use Rattle.ot_parse.proofs.ValueLaws.{wholly-proposition}

-- a halt behind what was read
pub halt-behind : {A B : Type 0} (h : Halt) (o : Reading A) (f : A → List ℕ → Reading B) (x : A) (s : List ℕ)
    → o ≡ Got x s → IsHalt h (f x s) → IsHalt h (next o f)
halt-behind h o f x s e k = halt-same h (f x s) (next o f) (ap (λ z. next z f) e) k

pub halt-closed : {A : Type 0} (h : Halt) (o : Reading A) → IsHalt h o → IsHalt h (closed o)
halt-closed h o e = halt-next h o (λ r s. mapped (λ _. r) (literal_at (codes ")") s)) e

module _ (n : ℕ) (hidden : List (Symbol Name)) (m : ℕ) (l : Around) where
  abbrev read : List ℕ → Reading Written
  read = reads n hidden m

  abbrev further : List ℕ → Reading Writtens
  further = further_terms_at (constant_at hidden) (type_at hidden m) read 0

  -- ---- behind a first term
  pub no-space : (k : ℕ) (x : Meaning) (s : List ℕ) (h : Halt) → IsHalt h (literal_at (codes " ") s)
      → IsHalt h (after n hidden m l (First k) x s)
  no-space k x s h e = halt-closed h (next (literal_at (codes " ") s) (λ _ r. behind n hidden m l k x r))
      (halt-next h (literal_at (codes " ") s) (λ _ r. behind n hidden m l k x r) e)

  pub space-goes : (k : ℕ) (x : Meaning) (s r : List ℕ) → literal_at (codes " ") s ≡ Got tt r
      → after n hidden m l (First k) x s ≡ closed (behind n hidden m l k x r)
  space-goes k x s r e = ap (λ o. closed (next o (λ _ r. behind n hidden m l k x r))) e

  pub nothing-behind : (k : ℕ) (x : Meaning) (s : List ℕ) → length s ≡ 0 → closed (behind n hidden m l k x s)
      ≡ Halted NoForm s
  nothing-behind k x [] h = refl
  nothing-behind k x (b ∷ s) h = absurd (omega (arith, h))

  -- an argument
  arguments-go : (k : ℕ) (x : Meaning) (s : List ℕ) → closed (applied n hidden m l k x s)
      ≡ next (begun n hidden m l s) (after n hidden m l (Argument k (place_at n s) (wholly l false (k + 1) x)))
  arguments-go k x s = go (read s) where
    go : (o : Reading Written)
        → closed (next o
        (λ a r. mapped (applied_of hidden l k (place_at n r + 1) (wholly l false (k + 1) x)
        (meaning hidden l false (place_at n s) a)) (further r)))
        ≡ next (mapped (raw hidden l (place_at n s)) o)
        (after n hidden m l (Argument k (place_at n s) (wholly l false (k + 1) x)))
    go (Got a r) =
        ap (λ y. closed (mapped (applied_of hidden l k (place_at n r + 1) (wholly l false (k + 1) x) y) (further r)))
        (whole-raw hidden l false (place_at n s) a)
    go (Halted j r) = refl

  pub argument-in : (k place p : ℕ) (x f : Part) (b : ℕ) (s : List ℕ) → place ≡ k + 1 → is_sign b ≡ false
      → length (b ∷ s) ≤ n → p ≡ place_at n (b ∷ s) → IsWholly l false place (meant_of x) f
      → GoesIn n hidden m l (closed (behind n hidden m l k (meant_of x) (b ∷ s))) (opens.Argument k p f) (b ∷ s)
  argument-in k place p x f b s e h w d g = record {
    within = w;
    kept = g.kept;
    same = ap
        (λ t. closed (cond t (operated n hidden m l k (meant_of x) (b ∷ s))
        (applied n hidden m l k (meant_of x) (b ∷ s)))) h
        ∙ arguments-go k (meant_of x) (b ∷ s)
        ∙ (λ i. next (begun n hidden m l (b ∷ s))
        (after n hidden m l
        (Argument k (sym d i) (((λ j. wholly l false (sym e j) (meant_of x)) ∙ sym g.means) i))));
  }

  -- an operator
  pub sign-goes : (k : ℕ) (x : Meaning) (b : ℕ) (s : List ℕ) → is_sign b ≡ true
      → closed (behind n hidden m l k x (b ∷ s)) ≡ closed (operated n hidden m l k x (b ∷ s))
  sign-goes k x b s h =
      ap (λ t. closed (cond t (operated n hidden m l k x (b ∷ s)) (applied n hidden m l k x (b ∷ s)))) h

  abbrev side : ℕ → Meaning → List ℕ → List ℕ → Reading Meaning
  side k x o q =
      mapped (λ b. sides_of hidden l k o (wholly l (is_relation o) (k + 1) x)
      (meaning hidden l (is_relation o) (place_at n q) b)) (read q)

  abbrev spaced : ℕ → Meaning → List ℕ → List ℕ → Reading Meaning
  spaced k x o r = next (literal_at (codes " ") r) (λ _ q. side k x o q)

  pub no-signs : (k : ℕ) (x : Meaning) (s : List ℕ) (h : Halt) → IsHalt h (signs_at s)
      → IsHalt h (closed (operated n hidden m l k x s))
  no-signs k x s h e = halt-closed h (operated n hidden m l k x s) (halt-next h (signs_at s) (spaced k x) e)

  pub no-sign-space : (k : ℕ) (x : Meaning) (s o r : List ℕ) (h : Halt) → signs_at s ≡ Got o r
      → IsHalt h (literal_at (codes " ") r) → IsHalt h (closed (operated n hidden m l k x s))
  no-sign-space k x s o r h d e = halt-closed h (operated n hidden m l k x s)
      (halt-behind h (signs_at s) (spaced k x) o r d (halt-next h (literal_at (codes " ") r) (λ _ q. side k x o q) e))

  pub operator-in : (k place p : ℕ) (x y : Part) (s o r q : List ℕ) → place ≡ k + 1 → length s ≤ n
      → signs_at s ≡ Got o r → literal_at (codes " ") r ≡ Got tt q → p ≡ place_at n q
      → IsWholly l (is_relation o) place (meant_of x) y
      → (w : Bor (List ℕ)) → w.now ≡ o → GoesIn n hidden m l (closed (operated n hidden m l k (meant_of x) s))
      (opens.Right k p w y) q
  operator-in k place p x y s o r q e h c d f g w z = record {
    within = (let a = signs-length s o r c in let b = space-length r q d in omega (arith, a, b, h));
    kept = (
      g.kept,
      (λ r. wholly-proposition l place (meant_of x) y
          (subst (λ b. IsWholly l b place (meant_of x) y) (ap is_relation (sym z) ∙ r) g)),
    );
    same = ap (λ v. closed (next v (spaced k (meant_of x)))) c
        ∙ ap (λ v. closed (next v (λ _ q. side k (meant_of x) o q))) d ∙ go (read q)
        ∙ (λ i. next (begun n hidden m l q)
        (after n hidden m l
        (Right k (sym f i) (sym z i)
        (((λ j. wholly l (is_relation o) (sym e j) (meant_of x)) ∙ sym g.means) i))));
  } where
    go : (v : Reading Written)
        → closed (mapped (λ b. sides_of hidden l k o (wholly l (is_relation o) (k + 1) (meant_of x))
        (meaning hidden l (is_relation o) (place_at n q) b)) v)
        ≡ next (mapped (raw hidden l (place_at n q)) v)
        (after n hidden m l (Right k (place_at n q) o (wholly l (is_relation o) (k + 1) (meant_of x))))
    go (Got b u) = ap (λ y. closed (Got (sides_of hidden l k o (wholly l (is_relation o) (k + 1) (meant_of x)) y) u))
        (whole-raw hidden l (is_relation o) (place_at n q) b)
    go (Halted j u) = refl

  -- ---- behind what a parenthesis closes
  pub closed-halts : (v : Meaning) (s : List ℕ) (h : Halt) → IsHalt h (literal_at (codes ")") s)
      → IsHalt h (closed (Got v s))
  closed-halts v s h e = halt-mapped h (literal_at (codes ")") s) (λ _. v) e

  pub closed-whole : (v : Meaning) (y : Part) (s r : List ℕ) → length s ≤ n → literal_at (codes ")") s ≡ Got tt r
      → Means l v y → IsWholeTerm n l (closed (Got v s)) y r
  closed-whole v y s r h e g = record {
    within = (let a : length s ≡ 1 + length r = literal-length (codes ")") s r e in omega (arith, a, h));
    meant = g.kept;
    same = ap (mapped (λ _. v)) e ∙ ap (λ z. Got z r) (sym g.means);
  }

  pub right-whole : (k p : ℕ) (o : List ℕ) (x f y z : Part) (s r : List ℕ) → length s ≤ n → literal_at (codes ")") s
      ≡ Got tt r → IsWholly l (is_relation o) p (meant_of x) y
      → Means l (sides_of hidden l k o (meant_of f) (meant_of y)) z
      → IsWholeTerm n l (after n hidden m l (Right k p o (meant_of f)) (meant_of x) s) z r
  right-whole k p o x f y z s r h e g w =
      closed-whole (sides_of hidden l k o (meant_of f) (wholly l (is_relation o) p (meant_of x))) z s r h e
      (record { means = w.means ∙ ap (sides_of hidden l k o (meant_of f)) g.means; kept = w.kept })

  pub body-whole : (p : ℕ) (x : List ℕ) (t : Ty Name) (a y z : Part) (s r : List ℕ) → length s ≤ n
      → literal_at (codes ")") s ≡ Got tt r → IsWholly ((x, t) ∷ l) false p (meant_of a) y
      → Means l (abstracted t (meant_of y)) z
      → IsWholeTerm n l (after n hidden m l (Body p x t) (meant_of a) s) z r
  body-whole p x t a y z s r h e g w =
      closed-whole (abstracted t (wholly ((x, t) ∷ l) false p (meant_of a))) z s r h e
      (record { means = w.means ∙ ap (abstracted t) g.means; kept = w.kept })

  -- ---- behind an argument
  pub nothing-further : (k p : ℕ) (f x : Meaning) (s : List ℕ) → length s ≡ 0
      → after n hidden m l (Argument k p f) x s ≡ Halted NoForm s
  nothing-further k p f x [] h = refl
  nothing-further k p f x (b ∷ s) h = absurd (omega (arith, h))

  pub argument-further : (nt : IsNotation hidden) (k p j : ℕ) (f x y z g : Part) (b : ℕ) (s : List ℕ)
      → length (b ∷ s) ≤ n → (b == 32) ≡ true → j ≡ place_at n s
      → IsWholly l false p (meant_of x) y → Means l (apply_of l k (meant_of f) (meant_of y)) z
      → IsWholly l false k (meant_of z) g
      → GoesIn n hidden m l (after n hidden m l (Argument k p (meant_of f)) (meant_of x) (b ∷ s))
      (opens.Argument k j g) s
  argument-further nt k p j f x y z g b s w h d e v u =
      let q : wholly l false k (apply_of l k (meant_of f) (wholly l false p (meant_of x))) ≡ meant_of g
      = ap (λ r. wholly l false k (apply_of l k (meant_of f) r)) (sym e.means) ∙ ap (wholly l false k) (sym v.means)
      ∙ sym u.means in
      record {
        within = omega (arith, w);
        kept = u.kept;
        same = argument-goes n hidden nt m l k p (meant_of f) (meant_of x) b s (omega (arith, w)) h
            ∙ (λ i. next (begun n hidden m l s) (after n hidden m l (Argument k (sym d i) (q i))));
      }

  -- no further one
  no-further : (s : List ℕ) → (b : ℕ) → (b == 32) ≡ false → further (b ∷ s) ≡ Got NoMore (b ∷ s)
  no-further s b h =
      ap (λ t. cond t
      (next (read s)
      (λ t r. mapped (More t) (further_terms_at (constant_at hidden) (type_at hidden m) read (length s - length r)
      s))) (Got NoMore (b ∷ s))) h

  last : (k p : ℕ) (f x : Meaning) (b : ℕ) (s : List ℕ) → (b == 32) ≡ false
      → after n hidden m l (Argument k p f) x (b ∷ s) ≡ closed (Got (apply_of l k f (wholly l false p x)) (b ∷ s))
  last k p f x b s h =
      ap (λ o. closed (mapped (applied_of hidden l k (place_at n (b ∷ s) + 1) f (wholly l false p x)) o))
      (no-further s b h)

  pub argument-halts : (k p : ℕ) (f x : Meaning) (b : ℕ) (s : List ℕ) (h : Halt) → (b == 32) ≡ false
      → IsHalt h (literal_at (codes ")") (b ∷ s)) → IsHalt h (after n hidden m l (Argument k p f) x (b ∷ s))
  argument-halts k p f x b s h e d = halt-same h (closed (Got (apply_of l k f (wholly l false p x)) (b ∷ s)))
      (after n hidden m l (Argument k p f) x (b ∷ s)) (last k p f x b s e)
      (closed-halts (apply_of l k f (wholly l false p x)) (b ∷ s) h d)

  pub argument-whole : (k p : ℕ) (f x y z : Part) (b : ℕ) (s r : List ℕ) → length (b ∷ s) ≤ n → (b == 32) ≡ false
      → literal_at (codes ")") (b ∷ s) ≡ Got tt r
      → IsWholly l false p (meant_of x) y → Means l (apply_of l k (meant_of f) (meant_of y)) z
      → IsWholeTerm n l (after n hidden m l (Argument k p (meant_of f)) (meant_of x) (b ∷ s)) z r
  argument-whole k p f x y z b s r w h e g v =
      let c = closed-whole (apply_of l k (meant_of f) (wholly l false p (meant_of x))) z (b ∷ s) r w e
      (record { means = v.means ∙ ap (apply_of l k (meant_of f)) g.means; kept = v.kept }) in
      record { within = c.within; meant = c.meant; same = last k p (meant_of f) (meant_of x) b s h ∙ c.same }

pub is-equal : (a b : ℕ) → a ≡ b → (a == b) ≡ true
is-equal a b e = grind (arith, nat_tests)
