-- The words of constants: quoted, bare, or of operator bytes.
use Rattle.std.specs.Prelude.{◌≡◌, ℕ, ◌==◌, ◌||◌, ◌&&◌, not, Bool, true, false, cond, List, [], ◌∷◌, ◌++◌, codes}
use Rattle.std.specs.List.{list_all}
use Rattle.std.proofs.Common.{refl, sym, ◌∙◌, ap, subst, inl, inr, arith}
use Rattle.std.proofs.lemmas.Bool.{and_parts}
use Rattle.ot_logic.specs.Names.{Name, spelled, same_name, same_name-Decides}
use Rattle.ot_logic.specs.Trees.{Symbol, OpSymbol, ConSymbol}
use Rattle.ot_logic.specs.Lists.{IsMember}
use Rattle.ot_forms.specs.Words.{is_letter, is_inner, is_part, is_sign, is_operator, same_text, dotted, base}
use Rattle.ot_forms.specs.Words.{symbol_name, same_kind, is_hidden, IsNotation}
use Rattle.ot_forms.specs.Reading.{NoForm, Reading, Got, Halted, next, quoted_at}
use Rattle.ot_forms.specs.Reading.{bare_symbol_at, is_spelled, constant_at}
use Rattle.ot_forms.specs.Reading.{Candidate, operators, sign_word_at}
use Rattle.ot_forms.proofs.Readers.{Follows, Reads, Begins, told-follows, same_at, at_byte, at_end, halts_here}
use Rattle.ot_forms.proofs.Types.{IsEnd, differs}
use Rattle.ot_forms.proofs.Terms.{SaysConstant, IsConstantEnd}
use Rattle.ot_forms.proofs.SignWords.{SaysCandidate, AreApart, AreSigns, IsSignEnd, sign-complete, sign-follows}
use Rattle.ot_forms.proofs.Spellings.{no_part_space}
use Rattle.ot_forms.proofs.SymbolWords.{IsKind, SaysSymbol, Bare_symbol, Quote, is_worded}
use Rattle.ot_forms.proofs.SymbolWords.{quote_at, is_quote, and_false, dot-part, inner}
use Rattle.ot_forms.proofs.SymbolWords.{bare_symbol-reads, bare_symbol-byte, some-quote}
use Rattle.ot_forms.proofs.SymbolWords.{quote-reads, quote-byte, quote-says, bare-says}
use Rattle.ot_forms.proofs.SymbolWords.{hidden-bare, shown-word}

or-left : (p q : Bool) → p ≡ false → (p || q) ≡ true → q ≡ true
or-left true q e h = cc
or-left false q e h = h

or-right : (p : Bool) → (p || true) ≡ true
or-right true = refl
or-right false = refl

space-signs : (c : List ℕ) → list_all is_sign (c ++ codes " ") ≡ false
space-signs [] = refl
space-signs (b ∷ c) = ap (λ t. is_sign b && t) (space-signs c) ∙ and_false (is_sign b)

no_operator_space : (c : List ℕ) → is_operator (c ++ codes " ") ≡ false
no_operator_space [] = refl
no_operator_space (b ∷ c) = ap (λ t. t && not (same_text (b ∷ (c ++ codes " ")) (61 ∷ []))) (space-signs (b ∷ c))

dot-signs : (c z : List ℕ) → list_all is_sign (c ++ 46 ∷ z) ≡ false
dot-signs [] z = refl
dot-signs (b ∷ c) z = ap (λ t. is_sign b && t) (dot-signs c z) ∙ and_false (is_sign b)

dot-operator : (c z : List ℕ) → is_operator (c ++ 46 ∷ z) ≡ false
dot-operator [] z = refl
dot-operator (b ∷ c) z = ap (λ t. t && not (same_text (b ∷ (c ++ 46 ∷ z)) (61 ∷ []))) (dot-signs (b ∷ c) z)

constant_symbols : IsKind ConSymbol
constant_symbols = record {
  named = λ n. refl;
  alike = λ n m. refl;
  only = only;
  unspaced = λ n c e. ap (λ z. is_part z || is_operator z) e ∙ (λ i. no_part_space c i || no_operator_space c i);
  undotted = λ n c z e. ap (λ z. is_part z || is_operator z) e ∙ (λ i. dot-part c z i || dot-operator c z i);
}
  where
    only : (n : Name) (s : Symbol Name) → same_kind (ConSymbol n) s ≡ true → s ≡ ConSymbol (symbol_name s)
    only n (ConSymbol m) e = refl
    only n (OpSymbol m) e = cc

module _ (hidden : List (Symbol Name)) (nt : IsNotation hidden) where
  abbrev Quote_word : Name → List ℕ → Type 0
  Quote_word = Quote hidden nt ConSymbol constant_symbols

  abbrev Bare_word : Name → List ℕ → Type 0
  Bare_word = Bare_symbol hidden ConSymbol

  -- ---- operator words

  -- the word of operator bytes of a hidden constant
  abbrev HasSigns : List (Symbol Name) → List ℕ → Name → Type 0
  HasSigns h x n = (is_hidden h (ConSymbol n) ≡ true) × (x ≡ base n) × (is_operator x ≡ true)

  operators-is : (h : List (Symbol Name)) (x : List ℕ) (n : Name) → IsMember (x, n) (operators h) → HasSigns h x n
  operators-is [] x n e = absurd e
  operators-is (OpSymbol m ∷ h) x n e = operators-is h x n e
  operators-is (ConSymbol m ∷ h) x n e = go (operators-is h x n) (is_operator (base m)) refl e where
    keep : HasSigns h x n → HasSigns (ConSymbol m ∷ h) x n
    keep w = (ap (λ t. same_name n m || t) w.0 ∙ or-right (same_name n m), w.1, w.2)

    first : ◌≡◌ {A = Candidate} (base m, m) (x, n) → is_operator (base m) ≡ true → HasSigns (ConSymbol m ∷ h) x n
    first p q =
        let u : base m ≡ x = ap (λ z. z.0) p in
        let v : m ≡ n = ap (λ z. z.1) p in (
          (λ i. (same_name-Decides n m).1 (sym v) i || is_hidden h (ConSymbol n)),
          sym u
              ∙ ap base v,
          ap is_operator (sym u) ∙ q,
        )

    go : (IsMember (x, n) (operators h) → HasSigns h x n) → (t : Bool) → is_operator (base m) ≡ t
        → IsMember (x, n) (cond t ((base m, m) ∷ operators h) (operators h)) → HasSigns (ConSymbol m ∷ h) x n
    go ih true q k = elim k [ inl p ↦ first p q | inr w ↦ keep (ih w) ]
    go ih false q k = keep (ih k)

  abbrev IsAmong : List (Symbol Name) → Name → Name → Bool → Type 0
  IsAmong h n m t = IsMember (base n, n) (cond t ((base m, m) ∷ operators h) (operators h))

  operators-has : (h : List (Symbol Name)) (n : Name) → is_hidden h (ConSymbol n) ≡ true → is_operator (base n) ≡ true
      → IsMember (base n, n) (operators h)
  operators-has [] n e k = cc
  operators-has (OpSymbol m ∷ h) n e k = operators-has h n e k
  operators-has (ConSymbol m ∷ h) n e k = go (λ e. operators-has h n e k) (same_name n m) refl e where
    here : (t : Bool) → is_operator (base m) ≡ t → m ≡ n → IsAmong h n m t
    here true q v = inl (λ i. (base (v i), v i))
    here false q v = let z : is_operator (base m) ≡ true = ap (λ p. is_operator (base p)) v ∙ k in cc

    there : (t : Bool) → IsMember (base n, n) (operators h) → IsAmong h n m t
    there true w = inr w
    there false w = w

    go : (is_hidden h (ConSymbol n) ≡ true → IsMember (base n, n) (operators h)) → (t : Bool) → same_name n m ≡ t
        → (t || is_hidden h (ConSymbol n)) ≡ true → IsAmong h n m (is_operator (base m))
    go ih true q e = here (is_operator (base m)) refl (sym ((same_name-Decides n m).0 q))
    go ih false q e = there (is_operator (base m)) (ih e)

  apart : AreApart (operators hidden)
  apart x n m p q =
      let a = operators-is hidden x n p in
      let b = operators-is hidden x m q in
      nt.alone (ConSymbol n) (ConSymbol m) a.0 b.0 refl (sym a.1 ∙ b.1)

  signs : AreSigns (operators hidden)
  signs x n p = go x (operators-is hidden x n p).2 where
    go : (x : List ℕ) → is_operator x ≡ true → list_all is_sign x ≡ true
    go [] e = cc
    go (b ∷ x) e = (and_parts (list_all is_sign (b ∷ x)) (not (same_text (b ∷ x) (61 ∷ []))) e).0

  candidate-says : (n : Name) (x : List ℕ) → IsMember (x, n) (operators hidden) → SaysConstant hidden n x
  candidate-says n x h =
      let w = operators-is hidden x n h in
      let two = inner hidden nt ConSymbol constant_symbols n w.0 in
      record {
        named = omega (arith, two);
        text = w.1
            ∙ (λ i. cond (sym w.0 i) (base n) (cond (is_worded hidden ConSymbol n) (dotted n) (spelled n)));
      }

  -- ---- the three kinds of words
  as_constant : (n : Name) (x : List ℕ) → SaysSymbol hidden ConSymbol n x → SaysConstant hidden n x
  as_constant n x h = record { named = h.named; text = h.text }

  bare_word-says : (n : Name) (x : List ℕ) → Bare_word n x → SaysConstant hidden n x
  bare_word-says n x b = as_constant n x (bare-says hidden nt ConSymbol constant_symbols n x b)

  quote_word-says : (n : Name) (x : List ℕ) → Quote_word n x → SaysConstant hidden n x
  quote_word-says n x q = as_constant n x (quote-says hidden nt ConSymbol constant_symbols n x q)

  -- a constant's word is of one of three kinds
  data Kind_of (n : Name) (x : List ℕ) : Type 0 where
    ByQuote : Quote_word n x → Kind_of n x
    BySigns : IsMember (x, n) (operators hidden) → Kind_of n x
    ByBare : Bare_word n x → Kind_of n x

  kind-of : (n : Name) (x : List ℕ) → SaysConstant hidden n x → Kind_of n x
  kind-of n x h = hides (is_hidden hidden (ConSymbol n)) refl h.text where
    based : (p : Bool) → is_part (base n) ≡ p → is_hidden hidden (ConSymbol n) ≡ true → x ≡ base n → Kind_of n x
    based true pt e q = ByBare (hidden-bare hidden nt ConSymbol constant_symbols n x e pt q)
    based false pt e q =
        let signs = or-left (is_part (base n)) (is_operator (base n)) pt (nt.short (ConSymbol n) e) in
        BySigns (subst (λ z. IsMember (z, n) (operators hidden)) (sym q) (operators-has hidden n e signs))

    hides : (b : Bool) → is_hidden hidden (ConSymbol n) ≡ b
        → x ≡ cond b (base n) (cond (is_worded hidden ConSymbol n) (dotted n) (spelled n))
        → Kind_of n x
    hides true e q = based (is_part (base n)) refl e q
    hides false e q = elim (shown-word hidden nt ConSymbol constant_symbols n x h.named e q)
        [ inl w ↦ ByQuote w | inr w ↦ ByBare w ]

  -- ---- the reader, by the first byte

  abbrev quoted : List ℕ → Reading Name
  quoted t = quoted_at (λ n. is_spelled hidden (ConSymbol n)) t

  -- behind the first byte, where it is a quote
  abbrev behind_quote : Bool → ℕ → List ℕ → Reading Name
  behind_quote p b t = let read : Reading (Unit {0}) = cond p (Got tt t) (Halted NoForm (b ∷ t)) in
      next read (λ _ r. quoted r)

  -- what is read where the first byte is a quote, or a byte of operators, or another one
  abbrev by_byte : Bool → Bool → ℕ → List ℕ → Reading Name
  by_byte p q b t =
      cond p (quoted t) (cond q (sign_word_at (operators hidden) (b ∷ t)) (bare_symbol_at hidden ConSymbol (b ∷ t)))

  abbrev Followed : List ℕ → Reading Name → Type 0
  Followed s o = Follows (SaysConstant hidden) (constant_at hidden) s o

  a_constant : SaysConstant hidden (codes " " ∷ []) (codes "\" \"")
  a_constant = quote_word-says _ _ (some-quote hidden nt ConSymbol constant_symbols)

  signs-follow : (cs : List Candidate) → operators hidden ≡ cs → (b : ℕ) (s : List ℕ)
      → Follows (SaysConstant hidden) (sign_word_at cs) (b ∷ s) (sign_word_at cs (b ∷ s))
  signs-follow [] e b s =
      halts_here (SaysConstant hidden) (sign_word_at []) (b ∷ s) NoForm (codes " " ∷ []) (codes "\" \"") a_constant
      (at_byte b s (λ m. sign_word_at [] m ≡ Halted NoForm m) (λ t. refl))
  signs-follow (d ∷ ds) e b s =
      told-follows (SaysCandidate (d ∷ ds)) (SaysConstant hidden) IsEnd (sign_word_at (d ∷ ds))
      (λ n x h. candidate-says n x (subst (IsMember (x, n)) (sym e) h)) (b ∷ s) (sign_word_at (d ∷ ds) (b ∷ s))
      (sign-follows (b ∷ s) d ds)

  constant-follows : (s : List ℕ) → Followed s (constant_at hidden s)
  constant-follows [] =
      halts_here (SaysConstant hidden) (constant_at hidden) [] NoForm (codes " " ∷ []) (codes "\" \"") a_constant
      (at_end (λ m. constant_at hidden m ≡ Halted NoForm m) refl)
  constant-follows (b ∷ s) = quotes (b == 34) refl where
    signs_or : (t : Bool) → (b == 34) ≡ false → is_sign b ≡ t → Followed (b ∷ s) (by_byte false t b s)
    signs_or true d e =
        same_at (SaysConstant hidden) (sign_word_at (operators hidden)) (constant_at hidden) b
        (λ t i. by_byte (d i) (e i) b t) s
        (sign_word_at (operators hidden) (b ∷ s)) (signs-follow (operators hidden) refl b s)
    signs_or false d e =
        same_at (SaysConstant hidden) (bare_symbol_at hidden ConSymbol) (constant_at hidden) b
        (λ t i. by_byte (d i) (e i) b t) s
        (bare_symbol_at hidden ConSymbol (b ∷ s))
        (told-follows Bare_word (SaysConstant hidden) IsEnd (bare_symbol_at hidden ConSymbol) bare_word-says (b ∷ s)
        (bare_symbol_at hidden ConSymbol (b ∷ s))
        ((bare_symbol-reads hidden nt ConSymbol constant_symbols).follows (b ∷ s)))

    quotes : (t : Bool) → (b == 34) ≡ t → Followed (b ∷ s) (by_byte t (is_sign b) b s)
    quotes true e = subst (Followed (b ∷ s)) (λ i. behind_quote (e i) b s)
        (same_at (SaysConstant hidden) (quote_at hidden ConSymbol) (constant_at hidden) b
        (λ t. (λ i. by_byte (e i) (is_sign b) b t) ∙ (λ i. behind_quote (sym e i) b t)) s
        (quote_at hidden ConSymbol (b ∷ s))
        (told-follows Quote_word (SaysConstant hidden) IsEnd (quote_at hidden ConSymbol) quote_word-says (b ∷ s)
        (quote_at hidden ConSymbol (b ∷ s)) ((quote-reads hidden nt ConSymbol constant_symbols).follows (b ∷ s))))
    quotes false e = signs_or (is_sign b) e refl

  letter-sign : (b : ℕ) → is_letter b ≡ true → is_sign b ≡ false
  letter-sign b e =
      let not_byte = λ (k : ℕ) (h : is_letter k ≡ false). differs is_letter k b h e in
      λ i. not_byte 47 refl i || (not_byte 92 refl i || (not_byte 61 refl i || (not_byte 60 refl i
      || (not_byte 62 refl i || (not_byte 126 refl i || (not_byte 38 refl i || not_byte 124 refl i))))))

  word-end : (r : List ℕ) → IsConstantEnd r → IsEnd r
  word-end [] e = refl
  word-end (b ∷ r) e = (and_parts (not (is_inner b || (b == 46))) (not (is_sign b)) e).0

  sign-end : (r : List ℕ) → IsConstantEnd r → IsSignEnd r
  sign-end [] e = refl
  sign-end (b ∷ r) e = (and_parts (not (is_inner b || (b == 46))) (not (is_sign b)) e).1

  by-byte : (b : ℕ) (t : List ℕ) (p q : Bool) → (b == 34) ≡ p → is_sign b ≡ q → constant_at hidden (b ∷ t)
      ≡ by_byte p q b t
  by-byte b t p q d e = λ i. by_byte (d i) (e i) b t

  constant-complete : (n : Name) (x r : List ℕ) → SaysConstant hidden n x → IsConstantEnd r
      → constant_at hidden (x ++ r) ≡ Got n r
  constant-complete n x r h e = elim (kind-of n x h) [
    | ByQuote q ↦ quote q
    | BySigns w ↦ operator (signs x n w) (operators-is hidden x n w).2 w
    | ByBare b ↦ bare b
  ]
    where
      quote : Quote_word n x → constant_at hidden (x ++ r) ≡ Got n r
      quote q =
          same x (quote-byte hidden nt ConSymbol constant_symbols n x q)
          ∙ (quote-reads hidden nt ConSymbol constant_symbols).complete n x r q (word-end r e)
        where
          same : (x : List ℕ) → Begins is_quote true x → constant_at hidden (x ++ r)
              ≡ quote_at hidden ConSymbol (x ++ r)
          same x k =
              ap (λ z. constant_at hidden (z ++ r)) k.is
              ∙ by-byte k.byte (k.rest ++ r) true (is_sign k.byte) k.tells refl
              ∙ (λ i. behind_quote (sym k.tells i) k.byte (k.rest ++ r))
              ∙ ap (λ z. quote_at hidden ConSymbol (z ++ r)) (sym k.is)

      operator : list_all is_sign x ≡ true → is_operator x ≡ true → IsMember (x, n) (operators hidden)
          → constant_at hidden (x ++ r) ≡ Got n r
      operator hs ho w = first_sign x hs ho
          ∙ sign-complete x (operators hidden) n r apart signs w (sign-end r e) where
            first_sign : (y : List ℕ) → list_all is_sign y ≡ true → is_operator y ≡ true
                → constant_at hidden (y ++ r) ≡ sign_word_at (operators hidden) (y ++ r)
            first_sign [] hs ho = cc
            first_sign (b ∷ y) hs ho =
                let k = (and_parts (is_sign b) (list_all is_sign y) hs).0 in
                by-byte b (y ++ r) false true (differs is_sign 34 b refl k) k

      bare : Bare_word n x → constant_at hidden (x ++ r) ≡ Got n r
      bare b =
          let k = bare_symbol-byte hidden ConSymbol n x b in
          ap (λ z. constant_at hidden (z ++ r)) k.is
          ∙ by-byte k.byte (k.rest ++ r) false false (differs is_letter 34 k.byte refl k.tells)
          (letter-sign k.byte k.tells)
          ∙ ap (λ z. bare_symbol_at hidden ConSymbol (z ++ r)) (sym k.is)
          ∙ (bare_symbol-reads hidden nt ConSymbol constant_symbols).complete n x r b (word-end r e)

  pub constant-reads : Reads (SaysConstant hidden) IsConstantEnd (constant_at hidden)
  constant-reads = record { complete = constant-complete; follows = constant-follows }
