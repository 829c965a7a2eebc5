-- Terms that are read with what is open kept in a list are those that are read, and mean what these mean.
use Rattle.std.specs.Prelude.{◌≡◌, ◌<◌, ◌≤◌, ◌+◌, ◌-◌, ◌==◌, ◌||◌, ℕ, zero, suc, Bool}
use Rattle.std.specs.Prelude.{true, false, cond, not, length, List, [], ◌∷◌, codes}
use Rattle.std.proofs.Common.{refl, sym, ◌∙◌, ap, subst, arith, length-append}
use Rattle.std.proofs.lemmas.Slice.Eq.{bytes_eq-Decides}
use Rattle.ot_logic.specs.Names.{Name}
use Rattle.ot_logic.specs.Trees.{Ty, Symbol}
use Rattle.ot_forms.specs.Words.{IsNotation, is_sign, same_text}
use Rattle.ot_forms.specs.Forms.{Written, Writtens, Place, FreeAs, Equal, Infix}
use Rattle.ot_forms.specs.Forms.{Applied, Binding, More, type_text, term_text}
use Rattle.ot_forms.specs.Meaning.{Around, meaning}
use Rattle.ot_forms.specs.Reading.{Reading, Got, Halted, NoForm, OneTooMany, next, mapped, literal_at}
use Rattle.ot_forms.specs.Reading.{part_at, signs_at, bare_at, constant_at, type_at, is_single, first_part}
use Rattle.ot_forms.specs.Reading.{joined_by, free_at, further_terms_at, application_at, operation_at}
use Rattle.ot_forms.specs.Reading.{behind_term_at, behind_bare_at, spaced_at, named_at, quoted_variable_at}
use Rattle.ot_forms.specs.Reading.{headed_at, binding_at, plain_inside_at, inside_term_at}
use Rattle.ot_forms.proofs.Readers.{IsRead, Follows}
use Rattle.ot_forms.proofs.BareWords.{SaysBare, bare-reads}
use Rattle.ot_forms.proofs.TypeLaw.{reads as type-reads}
use Rattle.ot_forms.proofs.TermLaw.{term_reads}
use Rattle.ot_forms.proofs.ConstantWords.{constant-reads}
use Rattle.ot_forms.proofs.Terms.{more-step}
use Rattle.ot_parse.specs.Meant.{Meaning, place_at, wholly, equal_of, infix_of, apply_of}
use Rattle.ot_parse.specs.Meant.{abstracted, bound_of, applied_of, raw, is_relation, sides_of}
use Rattle.ot_parse.specs.TermFrames.{First, Argument, Body, closed, reads, begun, operated}
use Rattle.ot_parse.specs.TermFrames.{applied, behind, after, binder_at, named_reading, closed_term}
use Rattle.ot_parse.specs.TermFrames.{closed_free_at, closed_constant_at, is_free_at}
use Rattle.ot_parse.proofs.FrameLaws.{twice, mapped-same}
use Rattle.ot_parse.proofs.Meanings.{whole-raw}
use Rattle.ot_parse.proofs.Lengths.{got-value, got-rest, space-length, colon-length, point-length}
use Rattle.ot_parse.proofs.Lengths.{part-length, signs-length, type-length, term-length}

-- what is made of a value in parentheses
pub closed-mapped : {A B : Type 0} (f : A → B) (o : Reading A) → mapped f (closed o) ≡ closed (mapped f o)
closed-mapped f (Got v s) = twice (λ _. v) f (literal_at (codes ")") s)
closed-mapped f (Halted k s) = refl

module _ (n : ℕ) (hidden : List (Symbol Name)) (nt : IsNotation hidden) (m : ℕ) (l : Around) where
  abbrev read : List ℕ → Reading Written
  read = reads n hidden m

  abbrev word : List ℕ → Reading Name
  word = constant_at hidden

  abbrev type : List ℕ → Reading (Ty Name)
  type = type_at hidden m

  abbrev further : List ℕ → Reading Writtens
  further = further_terms_at word type read 0

  -- what stands at the sides of an operator
  sides : (a c : Written) (o : List ℕ) (k j : ℕ) (x : Meaning) → x ≡ raw hidden l (k + 1) a
      → j ≡ k + 3 + length (term_text hidden a) + length o
      → raw hidden l k (joined_by a o c) ≡ sides_of hidden l k o (wholly l (is_relation o) (k + 1) x)
      (meaning hidden l (is_relation o) j c)
  sides a c o k j x e d = go (same_text o (61 ∷ [])) refl where
    left : (w : Bool) → meaning hidden l w (k + 1) a ≡ wholly l w (k + 1) x
    left w = whole-raw hidden l w (k + 1) a ∙ ap (wholly l w (k + 1)) (sym e)

    go : (t : Bool) → same_text o (61 ∷ []) ≡ t
        → raw hidden l k (cond t (Equal a c) (Infix o a c))
        ≡ cond t (equal_of l k (wholly l (not t) (k + 1) x) (meaning hidden l (not t) j c))
        (infix_of hidden l k o (wholly l (not t) (k + 1) x) (meaning hidden l (not t) j c))
    go true q =
        let one : length o ≡ 1 = ap length ((bytes_eq-Decides o (61 ∷ [])).0 q) in
        let p : k + 4 + length (term_text hidden a) ≡ j = omega (arith, one, d) in
        λ i. equal_of l k (left false i) (meaning hidden l false (p i) c)
    go false q = λ i. infix_of hidden l k o (left true i) (meaning hidden l true (sym d i) c)

  -- an application's arguments
  arguments : (a b : Written) (k j i : ℕ) (x : Meaning) (bs : Writtens) → x ≡ raw hidden l (k + 1) a → j ≡ k + 2
      + length (term_text hidden a) → i ≡ k + 3 + length (term_text hidden a) + length (term_text hidden b)
      → raw hidden l k (Applied a b bs) ≡ applied_of hidden l k i (wholly l false (k + 1) x)
      (meaning hidden l false j b) bs
  arguments a b k j i x bs e d c =
      let f : meaning hidden l false (k + 1) a ≡ wholly l false (k + 1) x = whole-raw hidden l false (k + 1) a
      ∙ ap (wholly l false (k + 1)) (sym e) in
      λ w. applied_of hidden l k (sym c w) (f w) (meaning hidden l false (sym d w) b) bs

  -- ---- behind a first term with this text, which begins at place k + 1
  module _ (a : Written) (k : ℕ) (x : Meaning) (is : x ≡ raw hidden l (k + 1) a) where
    operation : (q : List ℕ) → length q ≤ n → k + 2 + length (term_text hidden a) ≡ place_at n q
        → mapped (raw hidden l k) (operation_at word type read a q) ≡ operated n hidden m l k x q
    operation q w p = sg (signs_at q) refl where
      sg : (o : Reading (List ℕ)) → signs_at q ≡ o
          → mapped (raw hidden l k)
          (next o (λ o r. next (literal_at (codes " ") r) (λ _ q. mapped (joined_by a o) (read q))))
          ≡ next o (λ o r. next (literal_at (codes " ") r)
          (λ _ q. mapped (λ b. sides_of hidden l k o (wholly l (is_relation o) (k + 1) x)
          (meaning hidden l (is_relation o) (place_at n q) b)) (read q)))
      sg (Halted j r) d = refl
      sg (Got o r) d = lt (literal_at (codes " ") r) refl where
        lt : (v : Reading (Unit {0})) → literal_at (codes " ") r ≡ v
            → mapped (raw hidden l k) (next v (λ _ q. mapped (joined_by a o) (read q)))
            ≡ next v (λ _ q. mapped (λ b. sides_of hidden l k o (wholly l (is_relation o) (k + 1) x)
            (meaning hidden l (is_relation o) (place_at n q) b)) (read q))
        lt (Halted j u) e = refl
        lt (Got _ u) e =
            let c = signs-length q o r d in
            let b = space-length r u e in
            let j : place_at n u ≡ k + 3 + length (term_text hidden a) + length o = omega (arith, c, b, p, w) in
            twice (joined_by a o) (raw hidden l k) (read u)
            ∙ mapped-same _ _ (read u) (λ z. sides a z o k (place_at n u) x is j)

    application : (q : List ℕ) → length q ≤ n → k + 2 + length (term_text hidden a) ≡ place_at n q
        → mapped (raw hidden l k) (application_at word type read a q) ≡ applied n hidden m l k x q
    application q w p = go (read q) refl where
      go : (o : Reading Written) → read q ≡ o
          → mapped (raw hidden l k) (next o (λ b r. mapped (Applied a b) (further r)))
          ≡ next o (λ b r. mapped (applied_of hidden l k (place_at n r + 1) (wholly l false (k + 1) x)
          (meaning hidden l false (place_at n q) b)) (further r))
      go (Halted j r) d = refl
      go (Got b r) d =
          let c = term-length hidden nt m q b r d in
          let i : place_at n r + 1 ≡ k + 3 + length (term_text hidden a) + length (term_text hidden b) =
          omega (arith, c, p, w) in
          twice (Applied a b) (raw hidden l k) (further r) ∙ mapped-same _ _ (further r)
          (λ bs. arguments a b k (place_at n q) (place_at n r + 1) x bs is (sym p) i)

    behind-goes : (q : List ℕ) → length q ≤ n → k + 2 + length (term_text hidden a) ≡ place_at n q
        → mapped (raw hidden l k) (behind_term_at word type read a q) ≡ behind n hidden m l k x q
    behind-goes [] w p = refl
    behind-goes (b ∷ q) w p = go (is_sign b) where
      go : (t : Bool)
          → mapped (raw hidden l k)
          (cond t (operation_at word type read a (b ∷ q)) (application_at word type read a (b ∷ q)))
          ≡ cond t (operated n hidden m l k x (b ∷ q)) (applied n hidden m l k x (b ∷ q))
      go true = operation (b ∷ q) w p
      go false = application (b ∷ q) w p

    pub spaced-goes : (r : List ℕ) → length r ≤ n → k + 1 + length (term_text hidden a) ≡ place_at n r
        → mapped (raw hidden l k) (spaced_at word type read (behind_term_at word type read a) r)
        ≡ next (literal_at (codes " ") r) (λ _ q. behind n hidden m l k x q)
    spaced-goes r w p = go (literal_at (codes " ") r) refl where
      go : (v : Reading (Unit {0})) → literal_at (codes " ") r ≡ v → mapped (raw hidden l k)
          (next v (λ _ q. behind_term_at word type read a q)) ≡ next v (λ _ q. behind n hidden m l k x q)
      go (Halted j u) e = refl
      go (Got _ u) e = let b = space-length r u e in behind-goes u (omega (arith, b, w)) (omega (arith, b, w, p))

  -- the first term behind a parenthesis at place k
  pub first-goes : (k : ℕ) (s : List ℕ) → length s < n → k ≡ n - suc (length s)
      → mapped (raw hidden l k) (closed (headed_at word type read s))
      ≡ next (begun n hidden m l s) (after n hidden m l (First k))
  first-goes k s w e = closed-mapped (raw hidden l k) (headed_at word type read s) ∙ go (read s) refl where
    go : (o : Reading Written) → read s ≡ o
        → closed (mapped (raw hidden l k)
        (next o (λ a r. spaced_at word type read (behind_term_at word type read a) r)))
        ≡ next (mapped (raw hidden l (place_at n s)) o) (after n hidden m l (First k))
    go (Halted j r) d = refl
    go (Got a r) d =
        let c = term-length hidden nt m s a r d in
        let p : place_at n s ≡ k + 1 = omega (arith, w, e) in
        ap closed (spaced-goes a k (raw hidden l (place_at n s) a) (ap (λ q. raw hidden l q a) p) r
        (omega (arith, c, w)) (omega (arith, c, w, e)))

  -- a further argument
  pub argument-goes : (k p : ℕ) (f x : Meaning) (b : ℕ) (s : List ℕ) → length s < n → (b == 32) ≡ true
      → after n hidden m l (Argument k p f) x (b ∷ s) ≡ next (begun n hidden m l s)
      (after n hidden m l (Argument k (place_at n s) (wholly l false k (apply_of l k f (wholly l false p x)))))
  argument-goes k p f x b s w h =
      ap (λ o. closed (mapped (applied_of hidden l k (place_at n (b ∷ s) + 1) f (wholly l false p x)) o))
      (more-step hidden m word type read (constant-reads hidden nt) (type-reads hidden nt m)
      (term_reads hidden nt m) b s h)
      ∙ go (read s) refl
    where
      go : (o : Reading Written) → read s ≡ o
          → closed (mapped (applied_of hidden l k (place_at n (b ∷ s) + 1) f (wholly l false p x))
          (next o (λ t r. mapped (More t) (further r))))
          ≡ next (mapped (raw hidden l (place_at n s)) o)
          (after n hidden m l
          (Argument k (place_at n s) (wholly l false k (apply_of l k f (wholly l false p x)))))
      go (Halted j r) d = refl
      go (Got a r) d =
          let c = term-length hidden nt m s a r d in
          let i : place_at n (b ∷ s) + 1 ≡ place_at n s = omega (arith, w) in
          let j : place_at n (b ∷ s) + 1 + 1 + length (term_text hidden a) ≡ place_at n r + 1 = omega (arith, w, c) in
          let y : meaning hidden l false (place_at n (b ∷ s) + 1) a
          ≡ wholly l false (place_at n s) (raw hidden l (place_at n s) a) =
          ap (λ q. meaning hidden l false q a) i ∙ whole-raw hidden l false (place_at n s) a in
          ap closed
          (twice (More a) (applied_of hidden l k (place_at n (b ∷ s) + 1) f (wholly l false p x)) (further r)
          ∙ mapped-same _ _ (further r)
          (λ bs. λ q. applied_of hidden l k (j q) (wholly l false k (apply_of l k f (wholly l false p x)))
          (y q) bs))

  -- ---- an abstraction
  abbrev pub bound_in : List ℕ × Ty Name → List ℕ → Reading Written
  bound_in b v = mapped (Binding b.0 b.1) (read v)

  abbrev variable : List ℕ → Ty Name → List ℕ × Ty Name
  variable x t = (x, t)

  pub binder-first : (s : List ℕ) → binding_at word type read (92 ∷ s) ≡ next (binder_at hidden m s) bound_in
  binder-first s = one (part_at s) where
    four : (x : List ℕ) (t : Ty Name) (o : Reading (Unit {0})) → next o (λ _ v. mapped (Binding x t) (read v))
        ≡ next (mapped (λ _. variable x t) o) bound_in
    four x t (Got _ v) = refl
    four x t (Halted j v) = refl

    three : (x : List ℕ) (o : Reading (Ty Name))
        → next o (λ t u. next (literal_at (codes " . ") u) (λ _ v. mapped (Binding x t) (read v)))
        ≡ next (next o (λ t u. mapped (λ _. variable x t) (literal_at (codes " . ") u))) bound_in
    three x (Got t u) = four x t (literal_at (codes " . ") u)
    three x (Halted j u) = refl

    two : (x : List ℕ) (o : Reading (Unit {0}))
        → next o (λ _ q. next (type q)
        (λ t u. next (literal_at (codes " . ") u) (λ _ v. mapped (Binding x t) (read v)))) ≡ next
        (next o (λ _ q. next (type q) (λ t u. mapped (λ _. variable x t) (literal_at (codes " . ") u)))) bound_in
    two x (Got _ q) = three x (type q)
    two x (Halted j q) = refl

    one : (o : Reading (List ℕ))
        → next o (λ x r. next (literal_at (codes " : ") r)
        (λ _ q. next (type q) (λ t u. next (literal_at (codes " . ") u) (λ _ v. mapped (Binding x t) (read v)))))
        ≡ next (next o
        (λ x r. next (literal_at (codes " : ") r)
        (λ _ q. next (type q) (λ t u. mapped (λ _. variable x t) (literal_at (codes " . ") u))))) bound_in
    one (Got x r) = two x (literal_at (codes " : ") r)
    one (Halted j r) = refl

  abbrev HasLengths : List ℕ → List ℕ → Ty Name → List ℕ → Type 0
  HasLengths s x t r = length s ≡ length x + length (type_text hidden t) + 6 + length r

  pub binder-length : (s : List ℕ) (x : List ℕ) (t : Ty Name) (r : List ℕ)
      → binder_at hidden m s ≡ Got (variable x t) r → HasLengths s x t r
  binder-length s x t r e = one (part_at s) refl e where
    four : (y w q : List ℕ) (z : Ty Name) (u : List ℕ) → length s ≡ length y + length w → length w ≡ 3 + length q
        → length q ≡ length (type_text hidden z) + length u
        → (o : Reading (Unit {0})) → literal_at (codes " . ") u ≡ o → mapped (λ _. variable y z) o
        ≡ Got (variable x t) r → HasLengths s x t r
    four y w q z u a b c (Got _ v) d k =
        let p : variable y z ≡ variable x t = got-value k in
        let f = ap (λ (g : List ℕ × Ty Name). length g.0) p in
        let g = ap (λ (g : List ℕ × Ty Name). length (type_text hidden g.1)) p in
        let h = ap length (got-rest k) in
        let j = point-length u v d in
        omega (arith, a, b, c, f, g, h, j)
    four y w q z u a b c (Halted _ v) d k = cc

    three : (y w q : List ℕ) → length s ≡ length y + length w → length w ≡ 3 + length q → (o : Reading (Ty Name))
        → type q ≡ o → next o (λ t u. mapped (λ _. variable y t) (literal_at (codes " . ") u)) ≡ Got (variable x t) r
        → HasLengths s x t r
    three y w q a b (Got z u) d k = four y w q z u a b (type-length hidden nt m q z u d) (literal_at (codes " . ") u)
        refl k
    three y w q a b (Halted _ u) d k = cc

    two : (y w : List ℕ) → length s ≡ length y + length w → (o : Reading (Unit {0})) → literal_at (codes " : ") w ≡ o
        → next o (λ _ q. next (type q) (λ t u. mapped (λ _. variable y t) (literal_at (codes " . ") u)))
        ≡ Got (variable x t) r → HasLengths s x t r
    two y w a (Got _ q) d k = three y w q a (colon-length w q d) (type q) refl k
    two y w a (Halted _ q) d k = cc

    one : (o : Reading (List ℕ)) → part_at s ≡ o
        → next o (λ x r. next (literal_at (codes " : ") r)
        (λ _ q. next (type q) (λ t u. mapped (λ _. variable x t) (literal_at (codes " . ") u))))
        ≡ Got (variable x t) r → HasLengths s x t r
    one (Got y w) d k = two y w (part-length s y w d) (literal_at (codes " : ") w) refl k
    one (Halted _ w) d k = cc

  -- the body of an abstraction behind a parenthesis at place k
  pub body-goes : (k : ℕ) (s : List ℕ) (x : List ℕ) (t : Ty Name) (r : List ℕ) → suc (length s) < n
      → k ≡ n - suc (suc (length s)) → binder_at hidden m s ≡ Got (variable x t) r
      → mapped (raw hidden l k) (closed (binding_at word type read (92 ∷ s))) ≡ next (begun n hidden m ((x, t) ∷ l) r)
      (after n hidden m l (Body (place_at n r) x t))
  body-goes k s x t r w e d =
      closed-mapped (raw hidden l k) (binding_at word type read (92 ∷ s))
      ∙ ap (λ o. closed (mapped (raw hidden l k) o))
      (binder-first s ∙ ap (λ (o : Reading (List ℕ × Ty Name)). next o bound_in) d)
      ∙ go (read r)
    where
      go : (o : Reading Written) → closed (mapped (raw hidden l k) (mapped (Binding x t) o))
          ≡ next (mapped (raw hidden ((x, t) ∷ l) (place_at n r)) o) (after n hidden m l (Body (place_at n r) x t))
      go (Halted j u) = refl
      go (Got a u) =
          let c = binder-length s x t r d in
          let p : k + 8 + length x + length (type_text hidden t) ≡ place_at n r = omega (arith, c, w, e) in
          ap (λ y. closed (Got (abstracted t y) u)) (ap (λ q. meaning hidden ((x, t) ∷ l) false q a) p
          ∙ whole-raw hidden ((x, t) ∷ l) false (place_at n r) a)

  -- ---- a term that begins with a bare word
  bare-length : (s : List ℕ) (v : Name) (q : List ℕ) → is_single v ≡ true → bare_at s ≡ Got v q
      → length s ≡ length (first_part v) + length q
  bare-length s [] q h e = cc
  bare-length s (c ∷ []) q h e =
      let w : IsRead SaysBare bare_at s (c ∷ []) q = subst (Follows SaysBare bare_at s) e (bare-reads.follows s) in
      ap length w.is ∙ length-append w.text q ∙ ap (λ z. length z + length q) w.says.text
  bare-length s (c ∷ d ∷ v) q h e = cc

  -- it is a bound place
  is-place : (b : ℕ) (v : Name) → ((b == 58) || not (is_single v)) ≡ false → is_single v ≡ true
  is-place b v e = go (b == 58) (is_single v) e where
    go : (p t : Bool) → (p || not t) ≡ false → t ≡ true
    go true t k = cc
    go false true k = refl
    go false false k = cc

  place-goes : (v : Name) (u : List ℕ) → is_free_at v u ≡ false → behind_bare_at word type read v u
      ≡ behind_term_at word type read (Place (first_part v)) u
  place-goes v [] e = cc
  place-goes v (b ∷ u) e =
      ap (λ t. cond t (free_at word type read v (b ∷ u))
      (behind_term_at word type read (Place (first_part v)) (b ∷ u))) e

  single : (v : Name) (u : List ℕ) → is_free_at v u ≡ false → is_single v ≡ true
  single v [] e = cc
  single v (b ∷ u) e = is-place b v e

  pub head-goes : (k : ℕ) (s : List ℕ) (v : Name) (q u : List ℕ) → length s < n → k ≡ n - suc (length s)
      → bare_at s ≡ Got v q → literal_at (codes " ") q ≡ Got tt u → is_free_at v u ≡ false
      → mapped (raw hidden l k) (named_reading hidden m s) ≡ after n hidden m l (First k)
      (bound_of l (k + 1) (first_part v)) q
  head-goes k s v q u w e d c f =
      let a = bare-length s v q (single v u f) d in
      closed-mapped (raw hidden l k) (named_at word type read s)
      ∙ ap (λ o. closed (mapped (raw hidden l k) o)) (
      ap (λ o. next o (λ n r. spaced_at word type read (behind_bare_at word type read n) r)) d
      ∙ ap (λ o. next o (λ _ r. behind_bare_at word type read v r)) c ∙ place-goes v u f
      ∙ sym (ap (λ o. next o (λ _ r. behind_term_at word type read (Place (first_part v)) r)) c))
      ∙ ap closed (spaced-goes (Place (first_part v)) k (bound_of l (k + 1) (first_part v)) refl q
      (omega (arith, a, w)) (omega (arith, a, w, e)))

  -- it is a free variable
  pub free-goes : (s : List ℕ) (v : Name) (q u : List ℕ) → bare_at s ≡ Got v q → literal_at (codes " ") q ≡ Got tt u
      → is_free_at v u ≡ true → named_reading hidden m s ≡ closed_free_at hidden m v u
  free-goes s v q u d c f =
      ap closed (ap (λ o. next o (λ n r. spaced_at word type read (behind_bare_at word type read n) r)) d
      ∙ ap (λ o. next o (λ _ r. behind_bare_at word type read v r)) c ∙ go u f)
    where
      go : (u : List ℕ) → is_free_at v u ≡ true → behind_bare_at word type read v u ≡ next (literal_at (codes ": ") u)
          (λ _ r. mapped (FreeAs v) (type r))
      go [] e = refl
      go (b ∷ u) e =
          ap (λ t. cond t (free_at word type read v (b ∷ u))
          (behind_term_at word type read (Place (first_part v)) (b ∷ u))) e

  -- ---- behind a parenthesis, by the first byte
  plain-of : (b : ℕ) (s : List ℕ) → (b == 92) ≡ false → (b == 34) ≡ false → inside_term_at word type read (b ∷ s)
      ≡ plain_inside_at word type read (b ∷ s)
  plain-of b s p q = λ i. cond (p i) (binding_at word type read (b ∷ s))
      (cond (q i) (quoted_variable_at word type read (b ∷ s)) (plain_inside_at word type read (b ∷ s)))

  pub inside-first : (b : ℕ) (s : List ℕ) → (b == 92) ≡ false → (b == 34) ≡ false → ((b == 40) || (b == 123)) ≡ true
      → closed_term hidden m (b ∷ s) ≡ closed (headed_at word type read (b ∷ s))
  inside-first b s p q h =
      ap closed (plain-of b s p q
      ∙ ap (λ t. cond t (headed_at word type read (b ∷ s)) (named_at word type read (b ∷ s))) h)

  pub inside-named : (b : ℕ) (s : List ℕ) → (b == 92) ≡ false → (b == 34) ≡ false → ((b == 40) || (b == 123)) ≡ false
      → closed_term hidden m (b ∷ s) ≡ named_reading hidden m (b ∷ s)
  inside-named b s p q h =
      ap closed (plain-of b s p q
      ∙ ap (λ t. cond t (headed_at word type read (b ∷ s)) (named_at word type read (b ∷ s))) h)

module _ (n : ℕ) (hidden : List (Symbol Name)) (l : Around) where
  -- ---- the front of a term, by its first byte
  pub term-empty : (m : ℕ) → reads n hidden m [] ≡ Halted NoForm []
  term-empty zero = refl
  term-empty (suc m) = refl

  pub term-place : (m b : ℕ) (s : List ℕ) → (b == 40) ≡ false → (b == 123) ≡ false → begun n hidden m l (b ∷ s)
      ≡ mapped (bound_of l (place_at n (b ∷ s))) (part_at (b ∷ s))
  term-place m b s p q = ap (mapped (raw hidden l (place_at n (b ∷ s)))) (by m)
      ∙ twice Place (raw hidden l (place_at n (b ∷ s))) (part_at (b ∷ s)) where
        by : (m : ℕ) → reads n hidden m (b ∷ s) ≡ mapped Place (part_at (b ∷ s))
        by zero = λ i. cond (p i) (Halted OneTooMany (40 ∷ s))
            (cond (q i) (Halted OneTooMany (123 ∷ s)) (mapped Place (part_at (b ∷ s))))
        by (suc m) = λ i. cond (p i) (closed_term hidden m s)
            (cond (q i) (closed_constant_at hidden m s) (mapped Place (part_at (b ∷ s))))
