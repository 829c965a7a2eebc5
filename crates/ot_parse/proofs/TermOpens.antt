-- The front of a term.
use Rattle.std.specs.Prelude.{◌≡◌, ◌<◌, ◌≤◌, ◌+◌, ◌-◌, ◌==◌, ◌||◌, ℕ, zero, suc}
use Rattle.std.specs.Prelude.{true, false, length, List, [], ◌∷◌, codes, Result, Ok, Err}
use Rattle.std.proofs.Common.{refl, sym, ◌∙◌, ap, subst, arith, length-append, Bor}
use Rattle.ot_logic.specs.Names.{Name}
use Rattle.ot_logic.specs.Trees.{Symbol}
use Rattle.ot_forms.specs.Words.{IsNotation}
use Rattle.ot_forms.specs.Forms.{Written}
use Rattle.ot_forms.specs.Meaning.{Around}
use Rattle.ot_forms.specs.Reading.{Reading, Got, Halted, NoForm, OneTooMany, next, mapped, literal_at, part_at}
use Rattle.ot_forms.specs.Reading.{bare_at, constant_at, type_at, first_part, behind_bare_at, spaced_at}
use Rattle.ot_forms.proofs.Readers.{IsRead, Follows}
use Rattle.ot_forms.proofs.BareWords.{SaysBare, bare-reads}
use Rattle.ot_parse.specs.declared.halt.Halt.{Halt}
use Rattle.ot_parse.specs.declared.terms.Open.TheVariants as opens
use Rattle.ot_parse.specs.declared.terms.Front.{Front}
use Rattle.ot_parse.specs.declared.terms.Front.TheVariants as fronts
use Rattle.ot_parse.specs.declared.values.Meant.{Meant as Part}
use Rattle.ot_parse.specs.Gives.{IsHalt}
use Rattle.ot_logic.specs.declared.tree.Ty as types
use Rattle.ot_logic.specs.PlainTrees.{type_of_tree}
use Rattle.ot_parse.specs.Meant.{Meaning, place_at, raw, bound_of}
use Rattle.ot_parse.specs.Values.{IsMeant, Means, meant_of}
use Rattle.ot_parse.specs.TermFrames.{First, Body, closed, reads, begun, after, binder_at}
use Rattle.ot_parse.specs.TermFrames.{binding_reading, named_reading, closed_term, closed_free_at}
use Rattle.ot_parse.specs.TermFrames.{closed_variable_at, closed_constant_at, is_free_at}
use Rattle.ot_parse.specs.TermCode.{GoesIn, HasHead, IsLeaf, IsTermFront, IsFront}
use Rattle.ot_parse.proofs.Halts.{halt-same, halt-next, halt-mapped}
use Rattle.ot_parse.proofs.TypeFronts.{not-equal}
use Rattle.ot_parse.proofs.TermLaws.{first-goes, body-goes, binder-first, binder-length, head-goes}
use Rattle.ot_parse.proofs.TermLaws.{free-goes, inside-first, inside-named, term-empty, term-place, bound_in}
use Rattle.ot_parse.proofs.TermBacks.{halt-behind, halt-closed}

pub bare-shorter : (s : List ℕ) (v : Name) (q : List ℕ) → bare_at s ≡ Got v q → length q ≤ length s
bare-shorter s v q e =
    let w : IsRead SaysBare bare_at s v q = subst (Follows SaysBare bare_at s) e (bare-reads.follows s) in
    let a = ap length w.is ∙ length-append w.text q in omega (arith, a)

module _ (n : ℕ) (hidden : List (Symbol Name)) (l : Around) where
  -- ---- the front of a term, by its first byte
  empty-front : (m : ℕ) → begun n hidden m l [] ≡ Halted NoForm []
  empty-front m = ap (mapped (raw hidden l (place_at n []))) (term-empty n hidden l m)

  pub nothing-front : (m : ℕ) (s : List ℕ) → length s ≡ 0 → begun n hidden m l s ≡ Halted NoForm s
  nothing-front m [] h = empty-front m
  nothing-front m (b ∷ s) h = absurd (omega (arith, h))

  pub nothing-inside : (m k : ℕ) (s : List ℕ) → length s ≡ 0 → mapped (raw hidden l k) (closed_term hidden m s)
      ≡ Halted NoForm s
  nothing-inside m k [] h = refl
  nothing-inside m k (b ∷ s) h = absurd (omega (arith, h))

  pub full-front : (m b : ℕ) (s : List ℕ) → m ≡ 0 → b ≡ 40 → begun n hidden m l (b ∷ s) ≡ Halted OneTooMany (b ∷ s)
  full-front m b s e d = (λ i. begun n hidden (e i) l (d i ∷ s)) ∙ ap (λ c. Halted OneTooMany (c ∷ s)) (sym d)

  pub brace-full : (m b : ℕ) (s : List ℕ) → m ≡ 0 → b ≡ 123 → begun n hidden m l (b ∷ s) ≡ Halted OneTooMany (b ∷ s)
  brace-full m b s e d = (λ i. begun n hidden (e i) l (d i ∷ s)) ∙ ap (λ c. Halted OneTooMany (c ∷ s)) (sym d)

  -- a term without a term inside
  leaf-front : (m : ℕ) (s : List ℕ) (o : Reading Meaning) (r : Result Front Halt) → begun n hidden m l s ≡ o
      → IsLeaf l o r → IsFront n hidden m l s r
  leaf-front m s o (Ok (fronts.Leaf x q)) e h = (h.0, e ∙ h.1)
  leaf-front m s o (Ok (fronts.Inside f q)) e h = absurd h
  leaf-front m s o (Ok (fronts.Head f x q)) e h = absurd h
  leaf-front m s o (Err k) e h = halt-same k o (begun n hidden m l s) e h

  pub place-front : (m b : ℕ) (s : List ℕ) (r : Result Front Halt) → (b ≡ 40 → ⊥) → (b ≡ 123 → ⊥)
      → IsLeaf l (mapped (bound_of l (place_at n (b ∷ s))) (part_at (b ∷ s))) r → IsFront n hidden m l (b ∷ s) r
  place-front m b s r p q h = leaf-front m (b ∷ s) (mapped (bound_of l (place_at n (b ∷ s))) (part_at (b ∷ s))) r
      (term-place n hidden l m b s (not-equal b 40 p) (not-equal b 123 q)) h

  -- what is open behind a parenthesis and a brace
  opened : (m k b : ℕ) (s : List ℕ) → b ≡ 40 → k ≡ place_at n (b ∷ s) → begun n hidden (suc m) l (b ∷ s)
      ≡ mapped (raw hidden l k) (closed_term hidden m s)
  opened m k b s e d = (λ i. mapped (raw hidden l (sym d i)) (reads n hidden (suc m) (e i ∷ s)))

  braced : (m b : ℕ) (s : List ℕ) → b ≡ 123 → begun n hidden (suc m) l (b ∷ s)
      ≡ mapped (raw hidden l (place_at n (b ∷ s))) (closed_constant_at hidden m s)
  braced m b s e = (λ i. mapped (raw hidden l (place_at n (b ∷ s))) (reads n hidden (suc m) (e i ∷ s)))

  pub inside-front : (m k b : ℕ) (s : List ℕ) (r : Result Front Halt) → (m ≡ 0 → ⊥) → b ≡ 40 → k ≡ place_at n (b ∷ s)
      → IsTermFront n hidden (m - 1) l (mapped (raw hidden l k) (closed_term hidden (m - 1) s)) r
      → IsFront n hidden m l (b ∷ s) r
  inside-front zero k b s r p e d h = absurd (p refl)
  inside-front (suc m) k b s r p e d h =
      go r (subst (λ j. IsTermFront n hidden j l (mapped (raw hidden l k) (closed_term hidden j s)) r) less h) where
        less : suc m - 1 ≡ m
        less = omega arith

        same : begun n hidden (suc m) l (b ∷ s) ≡ mapped (raw hidden l k) (closed_term hidden m s)
        same = opened m k b s e d

        go : (r : Result Front Halt) → IsTermFront n hidden m l (mapped (raw hidden l k) (closed_term hidden m s)) r
            → IsFront n hidden (suc m) l (b ∷ s) r
        go (Ok (fronts.Leaf x q)) h = (h.0, same ∙ h.1)
        go (Ok (fronts.Inside f q)) h = (
          omega arith,
          subst (λ j. GoesIn n hidden j l (begun n hidden (suc m) l (b ∷ s)) f q.now) (sym less)
              (record { within = h.within; kept = h.kept; same = same ∙ h.same }),
        )
        go (Ok (fronts.Head f x q)) h = (
          omega arith,
          subst (λ j. HasHead n hidden j l (begun n hidden (suc m) l (b ∷ s)) f x q.now) (sym less)
              (record { within = h.within; kept = h.kept; meant = h.meant; same = same ∙ h.same }),
        )
        go (Err j) h = halt-same j (mapped (raw hidden l k) (closed_term hidden m s)) (begun n hidden (suc m) l (b ∷ s))
            same h

  pub constant-front : (m b : ℕ) (s : List ℕ) (r : Result Front Halt) → (m ≡ 0 → ⊥) → b ≡ 123
      → ((k : ℕ) → IsLeaf l (mapped (raw hidden l k) (closed_constant_at hidden (m - 1) s)) r)
      → IsFront n hidden m l (b ∷ s) r
  constant-front zero b s r p e h = absurd (p refl)
  constant-front (suc m) b s r p e h =
      let less : suc m - 1 ≡ m = omega arith in
      leaf-front (suc m) (b ∷ s) (mapped (raw hidden l (place_at n (b ∷ s))) (closed_constant_at hidden m s)) r
      (braced m b s e)
      (subst (λ j. IsLeaf l (mapped (raw hidden l (place_at n (b ∷ s))) (closed_constant_at hidden j s)) r) less
      (h (place_at n (b ∷ s))))

  -- ---- behind a parenthesis at place k
  module _ (m : ℕ) where
    pub leaf-inside : (o p : Reading Meaning) (r : Result Front Halt) → o ≡ p → IsLeaf l p r
        → IsTermFront n hidden m l o r
    leaf-inside o p (Ok (fronts.Leaf x q)) e h = (h.0, e ∙ h.1)
    leaf-inside o p (Ok (fronts.Inside f q)) e h = absurd h
    leaf-inside o p (Ok (fronts.Head f x q)) e h = absurd h
    leaf-inside o p (Err k) e h = halt-same k p o e h

    pub same-inside : (o p : Reading Meaning) (r : Result Front Halt) → o ≡ p → IsTermFront n hidden m l p r
        → IsTermFront n hidden m l o r
    same-inside o p r e h = subst (λ z. IsTermFront n hidden m l z r) (sym e) h

    -- an abstraction
    pub binding-inside : (k b : ℕ) (s : List ℕ) (r : Result Front Halt) → b ≡ 92
        → IsTermFront n hidden m l (mapped (raw hidden l k) (binding_reading hidden m s)) r
        → IsTermFront n hidden m l (mapped (raw hidden l k) (closed_term hidden m (b ∷ s))) r
    binding-inside k b s r e h = same-inside _ (mapped (raw hidden l k) (binding_reading hidden m s)) r
        (λ i. mapped (raw hidden l k) (closed_term hidden m (e i ∷ s))) h

    pub body-in : (nt : IsNotation hidden) (k p : ℕ) (s : List ℕ) (x : Bor (List ℕ)) (t : types.Ty) (r : List ℕ)
        → suc (length s) < n → k ≡ n - suc (suc (length s)) → p ≡ place_at n r
        → binder_at hidden m s ≡ Got (x.now, type_of_tree t) r
        → GoesIn n hidden m l (mapped (raw hidden l k) (binding_reading hidden m s)) (opens.Body p x t) r
    body-in nt k p s x t r w e d h = record {
      within = (let a = binder-length n hidden nt m l s x.now (type_of_tree t) r h in omega (arith, a, w));
      kept = tt;
      same = body-goes n hidden nt m l k s x.now (type_of_tree t) r w e h
          ∙ (λ i. next (begun n hidden m ((x.now, type_of_tree t) ∷ l) r)
          (after n hidden m l (Body (sym d i) x.now (type_of_tree t))));
    }

    pub no-binder : (nt : IsNotation hidden) (k : ℕ) (s : List ℕ) (h : Halt) → IsHalt h (binder_at hidden m s)
        → IsHalt h (mapped (raw hidden l k) (binding_reading hidden m s))
    no-binder nt k s h e = halt-mapped h (binding_reading hidden m s) (raw hidden l k)
        (halt-same h (closed (next (binder_at hidden m s) (bound_in n hidden nt m l))) (binding_reading hidden m s)
        (ap closed (binder-first n hidden nt m l s))
        (halt-closed h (next (binder_at hidden m s) (bound_in n hidden nt m l))
        (halt-next h (binder_at hidden m s) (bound_in n hidden nt m l) e)))

    -- a quoted variable
    pub variable-inside : (k b : ℕ) (s : List ℕ) (r : Result Front Halt) → b ≡ 34
        → IsLeaf l (mapped (raw hidden l k) (closed_variable_at hidden m (b ∷ s))) r
        → IsTermFront n hidden m l (mapped (raw hidden l k) (closed_term hidden m (b ∷ s))) r
    variable-inside k b s r e h = leaf-inside _ (mapped (raw hidden l k) (closed_variable_at hidden m (34 ∷ s))) r
        (λ i. mapped (raw hidden l k) (closed_term hidden m (e i ∷ s)))
        (subst (λ c. IsLeaf l (mapped (raw hidden l k) (closed_variable_at hidden m (c ∷ s))) r) e h)

    -- a first term that is no bound place
    pub first-in : (nt : IsNotation hidden) (k p b : ℕ) (s : List ℕ) → length (b ∷ s) < n
        → k ≡ n - suc (length (b ∷ s)) → p ≡ place_at n (b ∷ s) → (b ≡ 92 → ⊥) → (b ≡ 34 → ⊥)
        → ((b == 40) || (b == 123)) ≡ true
        → GoesIn n hidden m l (mapped (raw hidden l k) (closed_term hidden m (b ∷ s))) (opens.First k p) (b ∷ s)
    first-in nt k p b s w e d q u h = record {
      within = omega (arith, w);
      kept = omega (arith, w, e, d);
      same = ap (mapped (raw hidden l k)) (inside-first n hidden nt m l b s (not-equal b 92 q) (not-equal b 34 u) h)
          ∙ first-goes n hidden nt m l k (b ∷ s) w e;
    }

    -- a bare word
    pub named-inside : (nt : IsNotation hidden) (k b : ℕ) (s : List ℕ) (r : Result Front Halt) → (b ≡ 92 → ⊥)
        → (b ≡ 34 → ⊥) → ((b == 40) || (b == 123)) ≡ false
        → IsTermFront n hidden m l (mapped (raw hidden l k) (named_reading hidden m (b ∷ s))) r
        → IsTermFront n hidden m l (mapped (raw hidden l k) (closed_term hidden m (b ∷ s))) r
    named-inside nt k b s r q u h w = same-inside _ (mapped (raw hidden l k) (named_reading hidden m (b ∷ s))) r
        (ap (mapped (raw hidden l k)) (inside-named n hidden nt m l b s (not-equal b 92 q) (not-equal b 34 u) h)) w

    abbrev behind_word : Name → List ℕ → Reading Written
    behind_word v r = spaced_at (constant_at hidden) (type_at hidden m) (reads n hidden m)
        (behind_bare_at (constant_at hidden) (type_at hidden m) (reads n hidden m) v) r

    pub no-word : (k : ℕ) (s : List ℕ) (h : Halt) → IsHalt h (bare_at s)
        → IsHalt h (mapped (raw hidden l k) (named_reading hidden m s))
    no-word k s h e = halt-mapped h (named_reading hidden m s) (raw hidden l k)
        (halt-closed h (next (bare_at s) behind_word) (halt-next h (bare_at s) behind_word e))

    pub no-word-space : (k : ℕ) (s : List ℕ) (v : Name) (q : List ℕ) (h : Halt) → bare_at s ≡ Got v q
        → IsHalt h (literal_at (codes " ") q) → IsHalt h (mapped (raw hidden l k) (named_reading hidden m s))
    no-word-space k s v q h d e =
        halt-mapped h (named_reading hidden m s) (raw hidden l k) (halt-closed h (next (bare_at s) behind_word)
        (halt-behind h (bare_at s) behind_word v q d
        (halt-next h (literal_at (codes " ") q)
        (λ _ r. behind_bare_at (constant_at hidden) (type_at hidden m) (reads n hidden m) v r) e)))

    -- it is a free variable's
    pub free-inside : (nt : IsNotation hidden) (k : ℕ) (s : List ℕ) (v : Name) (q u : List ℕ) (r : Result Front Halt)
        → bare_at s ≡ Got v q → literal_at (codes " ") q ≡ Got tt u → is_free_at v u ≡ true
        → IsLeaf l (mapped (raw hidden l k) (closed_free_at hidden m v u)) r
        → IsTermFront n hidden m l (mapped (raw hidden l k) (named_reading hidden m s)) r
    free-inside nt k s v q u r d c f h = leaf-inside _ (mapped (raw hidden l k) (closed_free_at hidden m v u)) r
        (ap (mapped (raw hidden l k)) (free-goes n hidden nt m l s v q u d c f)) h

    -- it is a bound place
    pub head-in : (nt : IsNotation hidden) (k p : ℕ) (s : List ℕ) (v : Name) (q u : List ℕ) (x : Part) → length s < n
        → k ≡ n - suc (length s) → p ≡ place_at n s → bare_at s ≡ Got v q → literal_at (codes " ") q ≡ Got tt u
        → is_free_at v u ≡ false
        → Means l (bound_of l p (first_part v)) x
        → HasHead n hidden m l (mapped (raw hidden l k) (named_reading hidden m s)) (opens.First k p) x q
    head-in nt k p s v q u x w e d a c f h =
        let g : p ≡ k + 1 = omega (arith, w, e, d) in
        record {
          within = (let b = bare-shorter s v q a in omega (arith, b, w));
          kept = g;
          meant = h.kept;
          same = head-goes n hidden nt m l k s v q u w e a c f
              ∙ (λ i. after n hidden m l (First k) (((λ j. bound_of l (sym g j) (first_part v)) ∙ sym h.means) i) q);
        }

-- ---- leaves
-- a bound place
pub bound-leaf : (l : Around) (k j : ℕ) (s x r : List ℕ) (y : Part) → j ≡ k → part_at s ≡ Got x r
    → Means l (bound_of l j x) y → IsMeant l y × (mapped (bound_of l k) (part_at s) ≡ Got (meant_of y) r)
bound-leaf l k j s x r y d e h =
    (h.kept, ap (mapped (bound_of l k)) e ∙ ap (λ z. Got z r) (ap (λ i. bound_of l i x) (sym d) ∙ sym h.means))
