-- Terms behind an opening parenthesis or brace: their readers read each such text, and halt where none goes on.
use Rattle.std.specs.Prelude.{◌≡◌, ◌≤◌, ℕ, zero, suc, ◌+◌, ◌-◌, ◌==◌, ◌||◌, ◌&&◌, not, Bool, true, false, cond, List}
use Rattle.std.specs.Prelude.{[], ◌∷◌, ◌++◌, length, codes}
use Rattle.std.specs.List.{list_all}
use Rattle.std.proofs.Common.{refl, sym, ◌∙◌, ap, subst, append_assoc, length-append, inl, inr, arith, lit<}
use Rattle.std.proofs.lemmas.Bool.{eqb-true, and_parts}
use Rattle.ot_logic.specs.Names.{Name, IsName, spelled}
use Rattle.ot_logic.specs.Trees.{Ty, TyVar, Symbol, ConSymbol}
use Rattle.ot_forms.specs.Words.{is_inner, is_letter, is_sign, is_bare, dotted, word}
use Rattle.ot_forms.specs.Forms.{Written, Writtens, Place, FreeAs, ConAs, Equal, Infix, Applied, Binding, NoMore}
use Rattle.ot_forms.specs.Forms.{More, term_text, terms_text, IsWritten, AreWritten, most_open, most_open_all}
use Rattle.ot_forms.specs.Reading.{Reading, Got, Halted, next, mapped, literal_at, bare_at, part_at, signs_at}
use Rattle.ot_forms.specs.Reading.{variable_at, is_single, first_part, joined_by, free_at, further_terms_at}
use Rattle.ot_forms.specs.Reading.{application_at, operation_at, behind_term_at, behind_bare_at, spaced_at, named_at}
use Rattle.ot_forms.specs.Reading.{quoted_variable_at, headed_at, binding_at, plain_inside_at, unquoted_inside_at}
use Rattle.ot_forms.specs.Reading.{inside_term_at, closed_term_at, braced_at}
use Rattle.ot_forms.proofs.Readers.{Follows, Reads, Joined, Image, Begins, HasByte, Is, Any, Either, picked, join}
use Rattle.ot_forms.proofs.Readers.{mapped-reads, mapped-follows, pick, literal-reads, behind, at_byte, at_end}
use Rattle.ot_forms.proofs.Readers.{ends_here, unchanged, second-read, first-halted, same-reads, weaken}
use Rattle.ot_forms.proofs.Types.{ends_word, IsEnd, IsLast, ends_arguments, SaysVariable, SaysType, differs}
use Rattle.ot_forms.proofs.BareWords.{SaysBare, bare-reads}
use Rattle.ot_forms.proofs.Spellings.{variable-reads, bare-byte}
use Rattle.ot_forms.proofs.Marks.{SaysPart, IsPartEnd, part-reads, SaysSigns, IsSignsEnd, signs-reads}

-- a constant's word ends before these bytes
abbrev pub ends_constant : List ℕ → Bool
ends_constant [] = true
ends_constant (b ∷ s) = not (is_inner b || (b == 46)) && not (is_sign b)

abbrev pub IsConstantEnd : List ℕ → Type 0
IsConstantEnd r = ends_constant r ≡ true

-- ---- what goes on behind a literal
abbrev pub After : {A : Type 0} → List ℕ → (A → List ℕ → Type 0) → A → List ℕ → Type 0
After l Q = Joined (Is l) (λ _. Q)

after-reads : {A : Type 0} (l : List ℕ) (E : List ℕ → Type 0) (Q : A → List ℕ → Type 0) (g : List ℕ → Reading A)
    → Reads Q E g → (a : A) (y : List ℕ) → Q a y → Reads (After l Q) E (λ r. next (literal_at l r) (λ _ q. g q))
after-reads l E Q g h a y q = join (Is l) (λ _. Q) Any E (literal_at l) (λ _. g) (literal-reads l) (λ _. h)
    (λ _. (a, y, q)) (λ _ _ _ _ _ _. tt)

pub after-some : {A : Type 0} (l : List ℕ) (Q : A → List ℕ → Type 0) (a : A) (y : List ℕ) → Q a y
    → After l Q a (l ++ y)
after-some l Q a y q = record { one = tt; front = l; back = y; says = refl; then = q; is = refl }

pub after-text : {A : Type 0} (l : List ℕ) (Q : A → List ℕ → Type 0) (a : A) (y : List ℕ) → (h : After l Q a y)
    → y ≡ l ++ h.back
after-text l Q a y h = h.is ∙ ap (λ z. z ++ h.back) h.says

-- ---- first bytes
-- the first byte of a term's text
abbrev pub starts_term : ℕ → Bool
starts_term b = is_letter b || ((b == 40) || (b == 123))

abbrev pub is_colon : Name → ℕ → Bool
is_colon n b = (b == 58) || not (is_single n)

abbrev pub opens_term_byte : ℕ → Bool
opens_term_byte b = (b == 40) || (b == 123)

module _ (hidden : List (Symbol Name)) where
  pub record SaysConstant (n : Name) (x : List ℕ) : Type 0 where
    pub named : IsName n
    pub text : x ≡ word hidden (ConSymbol n)

  -- a written term's text, with so many parentheses and braces open at most
  pub record SaysTerm (m : ℕ) (w : Written) (x : List ℕ) : Type 0 where
    pub text : x ≡ term_text hidden w
    pub fine : IsWritten w
    pub within : most_open w ≤ m

  abbrev pub some_term : Written
  some_term = Place (codes "a")

  pub some-says : (m : ℕ) → SaysTerm m some_term (codes "a")
  some-says m = record { text = refl; fine = refl; within = omega arith }

  abbrev some_type : Ty Name
  some_type = TyVar (codes "a" ∷ [])

  some-type-says : (m : ℕ) → SaysType hidden m some_type (codes "'a")
  some-type-says m = record { text = refl; named = lit< tt; within = omega arith }

  last-end : (r : List ℕ) → IsLast r → IsEnd r
  last-end [] e = refl
  last-end (b ∷ r) e = (and_parts (not (is_inner b || (b == 46))) (not (b == 32)) e).0

  pub end-part : (r : List ℕ) → IsEnd r → IsPartEnd r
  end-part [] e = refl
  end-part (b ∷ r) e = go (is_inner b) (b == 46) e where
    go : (p q : Bool) → not (p || q) ≡ true → not p ≡ true
    go true q h = h
    go false q h = refl

  -- the first byte of a term's text
  pub starts_of : (w : Written) → IsWritten w → Begins (λ b. is_letter b || ((b == 40) || (b == 123))) true
      (term_text hidden w)
  starts_of (Place []) h = cc
  starts_of (Place (b ∷ x)) h = let k = and_parts (is_letter b) (list_all is_inner x) h in
      record { byte = b; rest = x; is = refl; tells = ap (λ t. t || ((b == 40) || (b == 123))) k.0 }
  starts_of (FreeAs n t) h = record { byte = 40; rest = _; is = refl; tells = refl }
  starts_of (ConAs n t) h = record { byte = 123; rest = _; is = refl; tells = refl }
  starts_of (Equal a b) h = record { byte = 40; rest = _; is = refl; tells = refl }
  starts_of (Infix o a b) h = record { byte = 40; rest = _; is = refl; tells = refl }
  starts_of (Applied f a more) h = record { byte = 40; rest = _; is = refl; tells = refl }
  starts_of (Binding x t a) h = record { byte = 40; rest = _; is = refl; tells = refl }

  module _ (m : ℕ) (constant_at : List ℕ → Reading Name) (type : List ℕ → Reading (Ty Name))
      (term : List ℕ → Reading Written) (hc : Reads SaysConstant IsConstantEnd constant_at)
      (hy : Reads (SaysType hidden m) IsEnd type) (ht : Reads (SaysTerm m) IsEnd term) where
    space-end : {A : Type 0} (Q : A → List ℕ → Type 0) (a : A) (y r : List ℕ) → After (codes " ") Q a y
        → IsEnd (y ++ r)
    space-end Q a y r h = ap (λ z. ends_word (z ++ r)) (after-text (codes " ") Q a y h)

    -- ---- a free variable's type
    abbrev pub Free : Name → Written → List ℕ → Type 0
    Free n = After (codes ": ") (Image (FreeAs n) (SaysType hidden m))

    free-reads : (n : Name) → Reads (Free n) IsEnd (free_at constant_at type term n)
    free-reads n = after-reads (codes ": ") IsEnd (Image (FreeAs n) (SaysType hidden m))
        (λ r. mapped (FreeAs n) (type r)) (mapped-reads (FreeAs n) (SaysType hidden m) IsEnd type hy)
        (FreeAs n some_type) (codes "'a") (record { from = some_type; says = some-type-says m; is = refl })

    free-some : (n : Name) → Free n (FreeAs n some_type) (codes ": 'a")
    free-some n = after-some (codes ": ") (Image (FreeAs n) (SaysType hidden m)) (FreeAs n some_type) (codes "'a")
        (record { from = some_type; says = some-type-says m; is = refl })

    -- ---- further terms
    pub record SaysTerms (ws : Writtens) (y : List ℕ) : Type 0 where
      pub text : y ≡ terms_text hidden ws
      pub fine : AreWritten ws
      pub within : most_open_all ws ≤ m

    abbrev more_at : List ℕ → Reading Writtens
    more_at = further_terms_at constant_at type term 0

    abbrev argument_at : List ℕ → Reading Writtens
    argument_at z = next (term z) (λ t r. mapped (More t) (more_at r))

    skip : (x r : List ℕ) → further_terms_at constant_at type term (length x) (x ++ r) ≡ more_at r
    skip [] r = refl
    skip (b ∷ x) r = skip x r

    skip_read : (s x r : List ℕ) → s ≡ x ++ r → further_terms_at constant_at type term (length s - length r) s
        ≡ more_at r
    skip_read s x r e =
        let k : length s - length r ≡ length x = let q : length s ≡ length x + length r = ap length e
        ∙ length-append x r in omega arith in
        (λ i. further_terms_at constant_at type term (k i) (e i)) ∙ skip x r

    pub more-step : (b : ℕ) (z : List ℕ) → (b == 32) ≡ true → more_at (b ∷ z) ≡ argument_at z
    more-step b z e =
        ap (λ t. cond t
        (next (term z) (λ t r. mapped (More t) (further_terms_at constant_at type term (length z - length r) z)))
        (Got NoMore (b ∷ z))) e ∙ go (term z) (ht.follows z) where
          go : (o : Reading Written) → Follows (SaysTerm m) term z o
              → next o (λ t r. mapped (More t) (further_terms_at constant_at type term (length z - length r) z))
              ≡ next o (λ t r. mapped (More t) (more_at r))
          go (Got t r) h = ap (mapped (More t)) (skip_read z h.text r h.is)
          go (Halted k r) h = refl

    terms-end : (ts : Writtens) (r : List ℕ) → IsLast r → IsEnd (terms_text hidden ts ++ r)
    terms-end NoMore r e = last-end r e
    terms-end (More t ts) r e = refl

    last-stops : (r : List ℕ) → IsLast r → more_at r ≡ Got NoMore r
    last-stops [] e = refl
    last-stops (b ∷ r) e = go (b == 32) (and_parts (not (is_inner b || (b == 46))) (not (b == 32)) e).1 where
      go : (t : Bool) → not t ≡ true
          → cond t (next (term r)
          (λ t q. mapped (More t) (further_terms_at constant_at type term (length r - length q) r)))
          (Got NoMore (b ∷ r)) ≡ Got NoMore (b ∷ r)
      go true h = cc
      go false h = refl

    more-complete : (ts : Writtens) (y r : List ℕ) → SaysTerms ts y → IsLast r → more_at (y ++ r) ≡ Got ts r
    more-complete ts y r w e = ap (λ z. more_at (z ++ r)) w.text ∙ go ts w.fine w.within where
      go : (ts : Writtens) → AreWritten ts → most_open_all ts ≤ m → more_at (terms_text hidden ts ++ r) ≡ Got ts r
      go NoMore h k = last-stops r e
      go (More t ts) h k =
          let one : SaysTerm m t (term_text hidden t) = record { text = refl; fine = h.0; within = omega arith } in
          ap more_at (ap (λ z. 32 ∷ z) (append_assoc (term_text hidden t) (terms_text hidden ts) r))
          ∙ more-step 32 (term_text hidden t ++ (terms_text hidden ts ++ r)) refl
          ∙ ap (λ o. next o (λ t r. mapped (More t) (more_at r)))
          (ht.complete t (term_text hidden t) (terms_text hidden ts ++ r) one (terms-end ts r e))
          ∙ ap (mapped (More t)) (go ts h.1 (omega arith))

    abbrev Arguments : Writtens → List ℕ → Type 0
    Arguments = Joined (SaysTerm m) (λ t. Image (More t) SaysTerms)

    none : SaysTerms NoMore []
    none = record { text = refl; fine = tt; within = omega arith }

    argument-follows : (s : List ℕ) → ((r : List ℕ) → length r ≤ length s → Follows SaysTerms more_at r (more_at r))
        → Follows Arguments argument_at s (argument_at s)
    argument-follows s ih = go (term s) (ht.follows s) where
      go : (o : Reading Written) → Follows (SaysTerm m) term s o
          → Follows Arguments argument_at s (next o (λ t r. mapped (More t) (more_at r)))
      go (Got t r) h = second-read (SaysTerm m) (λ t. Image (More t) SaysTerms) IsEnd IsLast term
          (λ t r. mapped (More t) (more_at r)) s t r h (mapped (More t) (more_at r))
          (mapped-follows SaysTerms (Image (More t) SaysTerms) more_at (More t)
          (λ a x p. record { from = a; says = p; is = refl }) r (more_at r)
          (ih r (let q : length s ≡ length h.text + length r = ap length h.is ∙ length-append h.text r in
          omega arith)))
      go (Halted k r) h = first-halted (SaysTerm m) (λ t. Image (More t) SaysTerms) IsEnd IsLast term
          (λ t r. mapped (More t) (more_at r))
          (λ t. (More t NoMore, [], record { from = NoMore; says = none; is = refl })) s k r h

    spaced-terms : (b : ℕ) (ts : Writtens) (y : List ℕ) → b ≡ 32 → Arguments ts y → SaysTerms ts (b ∷ y)
    spaced-terms b ts y e w = subst (λ us. SaysTerms us (b ∷ y)) (sym w.then.is) (record {
      text = (λ i. e i ∷ w.is i) ∙ ap (λ z. 32 ∷ z) (λ i. w.says.text i ++ w.then.says.text i);
      fine = (w.says.fine, w.then.says.fine);
      within = let p = w.says.within in let q = w.then.says.within in omega (arith, p, q);
    })

    more-follows : (fuel : ℕ) (s : List ℕ) → length s ≤ fuel → Follows SaysTerms more_at s (more_at s)
    more-follows fuel [] h = ends_here SaysTerms more_at [] NoMore none (at_end (λ z. more_at z ≡ Got NoMore z) refl)
    more-follows zero (b ∷ s) h = absurd (omega arith)
    more-follows (suc fuel) (b ∷ s) h = go (λ r k. more-follows fuel r (omega arith)) (b == 32) refl where
      no_change : (o : Reading Writtens) → Follows SaysTerms more_at (b ∷ s) (mapped (λ u. u) o)
          → Follows SaysTerms more_at (b ∷ s) o
      no_change (Got a r) h = h
      no_change (Halted k r) h = h

      go : ((r : List ℕ) → length r ≤ length s → Follows SaysTerms more_at r (more_at r)) → (t : Bool) → (b == 32) ≡ t
          → Follows SaysTerms more_at (b ∷ s) (more_at (b ∷ s))
      go ih true e = subst (Follows SaysTerms more_at (b ∷ s)) (sym (more-step b s e)) (no_change (argument_at s)
          (behind Arguments SaysTerms argument_at more_at (λ u. u) b
          (λ z. more-step b z e ∙ sym (unchanged (argument_at z)))
          (λ ts y w. spaced-terms b ts y (eqb-true b 32 e) w) s (argument_at s) (argument-follows s ih)))
      go ih false e = subst (Follows SaysTerms more_at (b ∷ s)) (sym (stop s))
          (ends_here SaysTerms more_at (b ∷ s) NoMore none (at_byte b s (λ z. more_at z ≡ Got NoMore z) stop))
        where
          stop : (t : List ℕ) → more_at (b ∷ t) ≡ Got NoMore (b ∷ t)
          stop t = ap
              (λ c. cond c (next (term t)
              (λ u r. mapped (More u) (further_terms_at constant_at type term (length t - length r) t)))
              (Got NoMore (b ∷ t))) e

    more-reads : Reads SaysTerms IsLast more_at
    more-reads = record { complete = more-complete; follows = λ s. more-follows (length s) s (omega arith) }

    -- ---- behind the first term: arguments, or an operator and a term
    abbrev pub Application : Written → Written → List ℕ → Type 0
    Application a = Joined (SaysTerm m) (λ x. Image (Applied a x) SaysTerms)

    application-reads : (a : Written) → Reads (Application a) IsLast (application_at constant_at type term a)
    application-reads a = join (SaysTerm m) (λ x. Image (Applied a x) SaysTerms) IsEnd IsLast term
        (λ x r. mapped (Applied a x) (more_at r)) ht
        (λ x. mapped-reads (Applied a x) SaysTerms IsLast more_at more-reads)
        (λ x. (Applied a x NoMore, [], record { from = NoMore; says = none; is = refl }))
        (λ x w y r h e. subst (λ z. IsEnd (z ++ r)) (sym h.says.text) (terms-end h.from r e))

    abbrev pub Operation : Written → Written → List ℕ → Type 0
    Operation a = Joined SaysSigns (λ o. After (codes " ") (Image (joined_by a o) (SaysTerm m)))

    operation-some : (a : Written) (o : List ℕ) → After (codes " ") (Image (joined_by a o) (SaysTerm m))
        (joined_by a o some_term) (codes " a")
    operation-some a o = after-some (codes " ") (Image (joined_by a o) (SaysTerm m)) (joined_by a o some_term)
        (codes "a") (record { from = some_term; says = some-says m; is = refl })

    operation-reads : (a : Written) → Reads (Operation a) IsLast (operation_at constant_at type term a)
    operation-reads a = join SaysSigns (λ o. After (codes " ") (Image (joined_by a o) (SaysTerm m))) IsSignsEnd IsLast
        signs_at (λ o r. next (literal_at (codes " ") r) (λ _ q. mapped (joined_by a o) (term q))) signs-reads
        (λ o. after-reads (codes " ") IsLast (Image (joined_by a o) (SaysTerm m))
        (λ q. mapped (joined_by a o) (term q))
        (weaken (Image (joined_by a o) (SaysTerm m)) IsEnd IsLast (λ q. mapped (joined_by a o) (term q)) last-end
        (mapped-reads (joined_by a o) (SaysTerm m) IsEnd term ht))
        (joined_by a o some_term) (codes "a") (record { from = some_term; says = some-says m; is = refl }))
        (λ o. (joined_by a o some_term, codes " a", operation-some a o))
        (λ o w y r h e. subst (λ z. IsSignsEnd (z ++ r))
        (sym (after-text (codes " ") (Image (joined_by a o) (SaysTerm m)) w y h)) refl)

    -- ---- first bytes
    begins-more : (test : ℕ → Bool) (t : Bool) (x z y : List ℕ) → Begins test t x → y ≡ x ++ z → Begins test t y
    begins-more test t x z y w e =
        record { byte = w.byte; rest = w.rest ++ z; is = e ∙ ap (λ q. q ++ z) w.is; tells = w.tells }

    has_byte : (test : ℕ → Bool) (t : Bool) (x : List ℕ) → Begins test t x → HasByte x
    has_byte test t x w = record { byte = w.byte; rest = w.rest; is = w.is }

    pub starts : (w : Written) → IsWritten w → Begins starts_term true (term_text hidden w)
    starts = starts_of

    no_sign : (b : ℕ) → starts_term b ≡ true → is_sign b ≡ false
    no_sign b e = λ i. differs starts_term 47 b refl e i
        || (differs starts_term 92 b refl e i
        || (differs starts_term 61 b refl e i
        || (differs starts_term 60 b refl e i
        || (differs starts_term 62 b refl e i
        || (differs starts_term 126 b refl e i
        || (differs starts_term 38 b refl e i || differs starts_term 124 b refl e i))))))

    pub application-byte : (a w : Written) (y : List ℕ) → Application a w y → Begins is_sign false y
    application-byte a w y h = let k = starts h.one h.says.fine in
        record {
          byte = k.byte;
          rest = k.rest ++ h.back;
          is = h.is ∙ ap (λ q. q ++ h.back) (h.says.text ∙ k.is);
          tells = no_sign k.byte k.tells;
        }

    pub operation-byte : (a w : Written) (y : List ℕ) → Operation a w y → Begins is_sign true y
    operation-byte a w y h = let k = h.says in
        record {
          byte = k.first_byte;
          rest = k.rest ++ h.back;
          is = h.is ∙ ap (λ q. q ++ h.back) (k.text ∙ k.is);
          tells = k.begins;
        }

    abbrev pub Behind : Written → Written → List ℕ → Type 0
    Behind a = Either (Operation a) (Application a) IsLast (operation_at constant_at type term a)
        (application_at constant_at type term a) is_sign

    behind-some : (a : Written) → Behind a (Applied a some_term NoMore) (codes "a")
    behind-some a = let h : Application a (Applied a some_term NoMore) (codes "a") =
        record {
          one = some_term;
          front = codes "a";
          back = [];
          says = some-says m;
          then = record { from = NoMore; says = none; is = refl };
          is = refl;
        } in
        inr (h, application-byte a _ _ h)

    behind-reads : (a : Written) → Reads (Behind a) IsLast (behind_term_at constant_at type term a)
    behind-reads a =
        same-reads (Behind a) IsLast
        (picked (Operation a) (Application a) IsLast (operation_at constant_at type term a)
        (application_at constant_at type term a) is_sign) (behind_term_at constant_at type term a) same
        (pick (Operation a) (Application a) IsLast (operation_at constant_at type term a)
        (application_at constant_at type term a) is_sign (Applied a some_term NoMore) (codes "a") (behind-some a)
        (operation-reads a) (application-reads a)
        (λ w y h. has_byte is_sign true y (operation-byte a w y h))
        (λ w y h. has_byte is_sign false y (application-byte a w y h)))
      where
        same : (s : List ℕ) → behind_term_at constant_at type term a s ≡ picked (Operation a) (Application a) IsLast
            (operation_at constant_at type term a) (application_at constant_at type term a) is_sign s
        same [] = refl
        same (b ∷ s) = refl

    -- ---- behind a bare word
    abbrev pub BehindBare : Name → Written → List ℕ → Type 0
    BehindBare n = Either (Free n) (Behind (Place (first_part n))) IsLast (free_at constant_at type term n)
        (behind_term_at constant_at type term (Place (first_part n))) (is_colon n)

    pub free-byte : (n : Name) (w : Written) (y : List ℕ) → Free n w y → Begins (is_colon n) true y
    free-byte n w y h =
        record {
          byte = 58;
          rest = 32 ∷ h.back;
          is = after-text (codes ": ") (Image (FreeAs n) (SaysType hidden m)) w
              y h;
          tells = refl;
        }

    behind-byte : (a w : Written) (y : List ℕ) → Behind a w y → HasByte y
    behind-byte a w y h = elim h [ inl p ↦ has_byte is_sign true y p.1 | inr q ↦ has_byte is_sign false y q.1 ]

    behind_bare-some : (n : Name) → BehindBare n (FreeAs n some_type) (codes ": 'a")
    behind_bare-some n = inl (free-some n, free-byte n _ _ (free-some n))

    behind_bare-reads : (n : Name) → Reads (BehindBare n) IsLast (behind_bare_at constant_at type term n)
    behind_bare-reads n =
        same-reads (BehindBare n) IsLast
        (picked (Free n) (Behind (Place (first_part n))) IsLast (free_at constant_at type term n)
        (behind_term_at constant_at type term (Place (first_part n))) (is_colon n))
        (behind_bare_at constant_at type term n) same
        (pick (Free n) (Behind (Place (first_part n))) IsLast (free_at constant_at type term n)
        (behind_term_at constant_at type term (Place (first_part n))) (is_colon n) (FreeAs n some_type)
        (codes ": 'a") (behind_bare-some n)
        (weaken (Free n) IsEnd IsLast (free_at constant_at type term n) last-end (free-reads n))
        (behind-reads (Place (first_part n)))
        (λ w y h. has_byte (is_colon n) true y (free-byte n w y h)) (behind-byte (Place (first_part n))))
      where
        same : (s : List ℕ) → behind_bare_at constant_at type term n s
            ≡ picked (Free n) (Behind (Place (first_part n))) IsLast (free_at constant_at type term n)
            (behind_term_at constant_at type term (Place (first_part n))) (is_colon n) s
        same [] = refl
        same (b ∷ s) = refl

    -- ---- between parentheses
    abbrev Spaced : (Written → List ℕ → Type 0) → Written → List ℕ → Type 0
    Spaced = After (codes " ")

    abbrev pub Named : Written → List ℕ → Type 0
    Named = Joined SaysBare (λ n. Spaced (BehindBare n))

    named-reads : Reads Named IsLast (named_at constant_at type term)
    named-reads = join SaysBare (λ n. Spaced (BehindBare n)) IsEnd IsLast bare_at
        (λ n r. spaced_at constant_at type term (behind_bare_at constant_at type term n) r) bare-reads
        (λ n. after-reads (codes " ") IsLast (BehindBare n) (behind_bare_at constant_at type term n)
        (behind_bare-reads n) (FreeAs n some_type) (codes ": 'a") (behind_bare-some n))
        (λ n. (FreeAs n some_type, codes " : 'a", after-some (codes " ") (BehindBare n) _ _ (behind_bare-some n)))
        (λ n w y r h e. space-end (BehindBare n) w y r h)

    abbrev pub Quoted : Written → List ℕ → Type 0
    Quoted = Joined SaysVariable (λ n. Spaced (Free n))

    quoted-reads : Reads Quoted IsLast (quoted_variable_at constant_at type term)
    quoted-reads = join SaysVariable (λ n. Spaced (Free n)) IsEnd IsLast variable_at
        (λ n r. spaced_at constant_at type term (free_at constant_at type term n) r) variable-reads
        (λ n. after-reads (codes " ") IsLast (Free n) (free_at constant_at type term n)
        (weaken (Free n) IsEnd IsLast (free_at constant_at type term n) last-end (free-reads n))
        (FreeAs n some_type) (codes ": 'a") (free-some n))
        (λ n. (FreeAs n some_type, codes " : 'a", after-some (codes " ") (Free n) _ _ (free-some n)))
        (λ n w y r h e. space-end (Free n) w y r h)

    abbrev pub Headed : Written → List ℕ → Type 0
    Headed = Joined (SaysTerm m) (λ a. Spaced (Behind a))

    headed-reads : Reads Headed IsLast (headed_at constant_at type term)
    headed-reads = join (SaysTerm m) (λ a. Spaced (Behind a)) IsEnd IsLast term
        (λ a r. spaced_at constant_at type term (behind_term_at constant_at type term a) r) ht
        (λ a. after-reads (codes " ") IsLast (Behind a) (behind_term_at constant_at type term a) (behind-reads a)
        (Applied a some_term NoMore) (codes "a") (behind-some a))
        (λ a. (Applied a some_term NoMore, codes " a", after-some (codes " ") (Behind a) _ _ (behind-some a)))
        (λ a w y r h e. space-end (Behind a) w y r h)

    abbrev Body : List ℕ → Ty Name → Written → List ℕ → Type 0
    Body x t = After (codes " . ") (Image (Binding x t) (SaysTerm m))

    abbrev Typed : List ℕ → Written → List ℕ → Type 0
    Typed x = After (codes " : ") (Joined (SaysType hidden m) (λ t. Body x t))

    abbrev pub Bound_by : Written → List ℕ → Type 0
    Bound_by = After (codes "\\") (Joined SaysPart (λ x. Typed x))

    body-some : (x : List ℕ) (t : Ty Name) → Body x t (Binding x t some_term) (codes " . a")
    body-some x t = after-some (codes " . ") (Image (Binding x t) (SaysTerm m)) _ (codes "a")
        (record { from = some_term; says = some-says m; is = refl })

    body-reads : (x : List ℕ) (t : Ty Name)
        → Reads (Body x t) IsEnd (λ u. next (literal_at (codes " . ") u) (λ _ v. mapped (Binding x t) (term v)))
    body-reads x t = after-reads (codes " . ") IsEnd (Image (Binding x t) (SaysTerm m))
        (λ v. mapped (Binding x t) (term v)) (mapped-reads (Binding x t) (SaysTerm m) IsEnd term ht)
        (Binding x t some_term) (codes "a") (record { from = some_term; says = some-says m; is = refl })

    abbrev binder_type_at : List ℕ → List ℕ → Reading Written
    binder_type_at x q =
        next (type q) (λ t u. next (literal_at (codes " . ") u) (λ _ v. mapped (Binding x t) (term v)))

    abbrev pub Type_body : List ℕ → Written → List ℕ → Type 0
    Type_body x = Joined (SaysType hidden m) (λ t. Body x t)

    type_body-some : (x : List ℕ) → Type_body x (Binding x some_type some_term) (codes "'a . a")
    type_body-some x = record {
      one = some_type;
      front = codes "'a";
      back = codes " . a";
      says = some-type-says m;
      then = body-some x some_type;
      is = refl;
    }

    type_body-reads : (x : List ℕ) → Reads (Type_body x) IsEnd (binder_type_at x)
    type_body-reads x = join (SaysType hidden m) (λ t. Body x t) IsEnd IsEnd type
        (λ t u. next (literal_at (codes " . ") u) (λ _ v. mapped (Binding x t) (term v))) hy (body-reads x)
        (λ t. (Binding x t some_term, codes " . a", body-some x t))
        (λ t w y r h e. ap (λ z. ends_word (z ++ r))
        (after-text (codes " . ") (Image (Binding x t) (SaysTerm m)) w y h))

    typed-reads : (x : List ℕ)
        → Reads (Typed x) IsEnd (λ r. next (literal_at (codes " : ") r) (λ _ q. binder_type_at x q))
    typed-reads x = after-reads (codes " : ") IsEnd (Type_body x) (binder_type_at x) (type_body-reads x)
        (Binding x some_type some_term) (codes "'a . a") (type_body-some x)

    typed-some : (x : List ℕ) → Typed x (Binding x some_type some_term) (codes " : 'a . a")
    typed-some x = after-some (codes " : ") (Type_body x) _ _ (type_body-some x)

    abbrev pub Part_typed : Written → List ℕ → Type 0
    Part_typed = Joined SaysPart (λ x. Typed x)

    abbrev part_typed_at : List ℕ → Reading Written
    part_typed_at p = next (part_at p) (λ x r. next (literal_at (codes " : ") r) (λ _ q. binder_type_at x q))

    part_typed-reads : Reads Part_typed IsEnd part_typed_at
    part_typed-reads = join SaysPart (λ x. Typed x) IsPartEnd IsEnd part_at
        (λ x r. next (literal_at (codes " : ") r) (λ _ q. binder_type_at x q)) part-reads typed-reads
        (λ x. (Binding x some_type some_term, codes " : 'a . a", typed-some x))
        (λ x w y r h e. subst (λ z. IsPartEnd (z ++ r)) (sym (after-text (codes " : ") (Type_body x) w y h)) refl)

    some-part : SaysPart (codes "a") (codes "a")
    some-part = record { first_byte = 97; rest = []; is = refl; begins = refl; inner_is = refl; text = refl }

    part_typed-some : Part_typed (Binding (codes "a") some_type some_term) (codes "a : 'a . a")
    part_typed-some = record {
      one = codes "a";
      front = codes "a";
      back = codes " : 'a . a";
      says = some-part;
      then = typed-some (codes "a");
      is = refl;
    }

    binding-reads : Reads Bound_by IsLast (binding_at constant_at type term)
    binding-reads = weaken Bound_by IsEnd IsLast (binding_at constant_at type term) last-end
        (after-reads (codes "\\") IsEnd Part_typed part_typed_at part_typed-reads
        (Binding (codes "a") some_type some_term) (codes "a : 'a . a") part_typed-some)

    -- ---- the three choices by the first byte
    abbrev pub Plain : Written → List ℕ → Type 0
    Plain = Either Headed Named IsLast (headed_at constant_at type term) (named_at constant_at type term)
        opens_term_byte

    abbrev quote_byte : ℕ → Bool
    quote_byte b = b == 34

    abbrev pub Unquoted : Written → List ℕ → Type 0
    Unquoted = Either Quoted Plain IsLast (quoted_variable_at constant_at type term)
        (plain_inside_at constant_at type term) quote_byte

    abbrev lambda_byte : ℕ → Bool
    lambda_byte b = b == 92

    abbrev pub Inside : Written → List ℕ → Type 0
    Inside = Either Bound_by Unquoted IsLast (binding_at constant_at type term)
        (unquoted_inside_at constant_at type term) lambda_byte

    bare-has : (n : Name) (x : List ℕ) → SaysBare n x → HasByte x
    bare-has n x h = has_byte is_letter true x (bare-byte n x h)

    named-byte : (w : Written) (y : List ℕ) → Named w y → Begins is_letter true y
    named-byte w y h = begins-more is_letter true h.front h.back y (bare-byte h.one h.front h.says) h.is

    headed-byte : (w : Written) (y : List ℕ) → Headed w y → HasByte y
    headed-byte w y h = let k = starts h.one h.says.fine in
        record { byte = k.byte; rest = k.rest ++ h.back; is = h.is ∙ ap (λ q. q ++ h.back) (h.says.text ∙ k.is) }

    variable-has : (n : Name) (x : List ℕ) → SaysVariable n x → HasByte x
    variable-has n x h = go (is_bare n) refl h.text where
      go : (t : Bool) → is_bare n ≡ t → x ≡ cond t (dotted n) (spelled n) → HasByte x
      go true e q = bare-has n x (record { bare = e; named = h.named; text = q })
      go false e q = record { byte = 34; rest = _; is = q }

    quoted-byte : (w : Written) (y : List ℕ) → Quoted w y → HasByte y
    quoted-byte w y h = let k = variable-has h.one h.front h.says in
        record { byte = k.byte; rest = k.rest ++ h.back; is = h.is ∙ ap (λ q. q ++ h.back) k.is }

    as_plain : (w : Written) (y : List ℕ) → Named w y → Plain w y
    as_plain w y h = let k = named-byte w y h in
        inr (
          h,
          record {
            byte = k.byte;
            rest = k.rest;
            is = k.is;
            tells = λ i. differs is_letter 40 k.byte refl k.tells i || differs is_letter 123 k.byte refl k.tells i;
          },
        )

    some-named : Named (FreeAs (codes "a" ∷ []) some_type) (codes "a : 'a")
    some-named =
        record {
          one = codes "a" ∷ [];
          front = codes "a";
          back = codes " : 'a";
          says = record { bare = refl; named = lit< tt; text = refl };
          then =
              after-some (codes " ") (BehindBare (codes "a" ∷ [])) _ _ (behind_bare-some (codes "a" ∷ []));
          is = refl;
        }

    plain-reads : Reads Plain IsLast (plain_inside_at constant_at type term)
    plain-reads =
        same-reads Plain IsLast (picked Headed Named IsLast (headed_at constant_at type term)
        (named_at constant_at type term) opens_term_byte) (plain_inside_at constant_at type term) same
        (pick Headed Named IsLast (headed_at constant_at type term) (named_at constant_at type term) opens_term_byte
        (FreeAs (codes "a" ∷ []) some_type) (codes "a : 'a") (as_plain _ _ some-named) headed-reads named-reads
        headed-byte (λ w y h. has_byte is_letter true y (named-byte w y h)))
      where
        same : (s : List ℕ) → plain_inside_at constant_at type term s ≡ picked Headed Named IsLast
            (headed_at constant_at type term) (named_at constant_at type term) opens_term_byte s
        same [] = refl
        same (b ∷ s) = refl

    plain-has : (w : Written) (y : List ℕ) → Plain w y → HasByte y
    plain-has w y h =
        elim h [ inl p ↦ has_byte opens_term_byte true y p.1 | inr q ↦ has_byte opens_term_byte false y q.1 ]

    named-unquoted : (w : Written) (y : List ℕ) → Named w y → Unquoted w y
    named-unquoted w y h = let k = named-byte w y h in
        inr (
          as_plain w y h,
          record { byte = k.byte; rest = k.rest; is = k.is; tells = differs is_letter 34 k.byte refl k.tells },
        )

    pub named-inside : (w : Written) (y : List ℕ) → Named w y → Inside w y
    named-inside w y h = let k = named-byte w y h in
        inr (
          named-unquoted w y h,
          record { byte = k.byte; rest = k.rest; is = k.is; tells = differs is_letter 92 k.byte refl k.tells },
        )

    unquoted-reads : Reads Unquoted IsLast (unquoted_inside_at constant_at type term)
    unquoted-reads =
        same-reads Unquoted IsLast (picked Quoted Plain IsLast (quoted_variable_at constant_at type term)
        (plain_inside_at constant_at type term) quote_byte) (unquoted_inside_at constant_at type term) same
        (pick Quoted Plain IsLast (quoted_variable_at constant_at type term) (plain_inside_at constant_at type term)
        quote_byte (FreeAs (codes "a" ∷ []) some_type) (codes "a : 'a") (named-unquoted _ _ some-named)
        quoted-reads plain-reads quoted-byte plain-has)
      where
        same : (s : List ℕ) → unquoted_inside_at constant_at type term s ≡ picked Quoted Plain IsLast
            (quoted_variable_at constant_at type term) (plain_inside_at constant_at type term) quote_byte s
        same [] = refl
        same (b ∷ s) = refl

    unquoted-has : (w : Written) (y : List ℕ) → Unquoted w y → HasByte y
    unquoted-has w y h = elim h [ inl p ↦ has_byte quote_byte true y p.1 | inr q ↦ has_byte quote_byte false y q.1 ]

    binding-byte : (w : Written) (y : List ℕ) → Bound_by w y → HasByte y
    binding-byte w y h = record { byte = 92; rest = h.back; is = after-text (codes "\\") Part_typed w y h }

    inside-reads : Reads Inside IsLast (inside_term_at constant_at type term)
    inside-reads =
        same-reads Inside IsLast (picked Bound_by Unquoted IsLast (binding_at constant_at type term)
        (unquoted_inside_at constant_at type term) lambda_byte) (inside_term_at constant_at type term) same
        (pick Bound_by Unquoted IsLast (binding_at constant_at type term) (unquoted_inside_at constant_at type term)
        lambda_byte (FreeAs (codes "a" ∷ []) some_type) (codes "a : 'a") (named-inside _ _ some-named)
        binding-reads unquoted-reads binding-byte unquoted-has)
      where
        same : (s : List ℕ) → inside_term_at constant_at type term s ≡ picked Bound_by Unquoted IsLast
            (binding_at constant_at type term) (unquoted_inside_at constant_at type term) lambda_byte s
        same [] = refl
        same (b ∷ s) = refl

    abbrev pub Closed : Written → List ℕ → Type 0
    Closed = Joined Inside (λ a. Image (λ _. a) (Is (codes ")")))

    pub closed-reads : Reads Closed Any (closed_term_at constant_at type term)
    closed-reads = join Inside (λ a. Image (λ _. a) (Is (codes ")"))) IsLast Any
        (inside_term_at constant_at type term) (λ a r. mapped (λ _. a) (literal_at (codes ")") r)) inside-reads
        (λ a. mapped-reads (λ _. a) (Is (codes ")")) Any (literal_at (codes ")")) (literal-reads (codes ")")))
        (λ a. (a, codes ")", record { from = tt; says = refl; is = refl }))
        (λ a b y r h e. ap (λ z. ends_arguments (z ++ r)) h.says)

    -- ---- behind a brace
    abbrev pub Constant_type : Name → Written → List ℕ → Type 0
    Constant_type n = Joined (SaysType hidden m) (λ t. Image (λ _. ConAs n t) (Is (codes "}")))

    abbrev Constant_typed : Name → Written → List ℕ → Type 0
    Constant_typed n = After (codes " : ") (Constant_type n)

    abbrev pub Braced : Written → List ℕ → Type 0
    Braced = Joined SaysConstant (λ n. Constant_typed n)

    constant_type-some : (n : Name) → Constant_type n (ConAs n some_type) (codes "'a}")
    constant_type-some n = record {
      one = some_type;
      front = codes "'a";
      back = codes "}";
      says =
          some-type-says m;
      then = record { from = tt; says = refl; is = refl };
      is = refl;
    }

    abbrev constant_type_at : Name → List ℕ → Reading Written
    constant_type_at n q = next (type q) (λ t u. mapped (λ _. ConAs n t) (literal_at (codes "}") u))

    constant_type-reads : (n : Name) → Reads (Constant_type n) Any (constant_type_at n)
    constant_type-reads n = join (SaysType hidden m) (λ t. Image (λ _. ConAs n t) (Is (codes "}"))) IsEnd Any type
        (λ t u. mapped (λ _. ConAs n t) (literal_at (codes "}") u)) hy
        (λ t. mapped-reads (λ _. ConAs n t) (Is (codes "}")) Any (literal_at (codes "}")) (literal-reads (codes "}")))
        (λ t. (ConAs n t, codes "}", record { from = tt; says = refl; is = refl }))
        (λ t w y r h e. ap (λ z. ends_word (z ++ r)) h.says)

    pub braced-reads : Reads Braced Any (braced_at constant_at type term)
    braced-reads = join SaysConstant (λ n. Constant_typed n) IsConstantEnd Any constant_at
        (λ n r. next (literal_at (codes " : ") r) (λ _ q. constant_type_at n q)) hc
        (λ n. after-reads (codes " : ") Any (Constant_type n) (constant_type_at n) (constant_type-reads n)
        (ConAs n some_type) (codes "'a}") (constant_type-some n))
        (λ n. (
          ConAs n some_type,
          codes " : 'a}",
          after-some (codes " : ") (Constant_type n) _ _
              (constant_type-some n),
        ))
        (λ n w y r h e. ap (λ z. ends_constant (z ++ r)) (after-text (codes " : ") (Constant_type n) w y h))
