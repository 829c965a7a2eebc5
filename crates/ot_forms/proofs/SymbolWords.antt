-- The words of symbols of one kind, which are constants or type operators: quoted, or bare.
use Rattle.std.specs.Prelude.{◌≡◌, ◌<◌, ℕ, ◌==◌, ◌&&◌, not, Bool, true, false, cond, ◌⊎◌, Option, Some, None}
use Rattle.std.specs.Prelude.{List, [], ◌∷◌, ◌++◌, length, suc, codes}
use Rattle.std.specs.List.{list_all}
use Rattle.std.specs.Option.{unwrap_or}
use Rattle.std.proofs.Common.{refl, sym, ◌∙◌, ap, subst, inl, inr, lit<, arith}
use Rattle.std.proofs.lemmas.Bool.{and_parts, not-true}
use Rattle.ot_logic.specs.Names.{Name, IsName, spelled}
use Rattle.ot_logic.specs.Trees.{Symbol}
use Rattle.ot_forms.specs.Words.{is_letter, is_inner, is_part, is_bare, is_short, dotted, base}
use Rattle.ot_forms.specs.Words.{symbol_name, same_kind, is_hidden, is_taken, IsNotation}
use Rattle.ot_forms.specs.Reading.{Reading, next, kept, literal_at, bare_at}
use Rattle.ot_forms.specs.Reading.{quoted_at, with_base, settled, bare_symbol_at}
use Rattle.ot_forms.proofs.Readers.{Reads, Joined, Image, Kept, Extends, Begins, Is, Any}
use Rattle.ot_forms.proofs.Readers.{join, mapped-reads, kept-reads, literal-reads, weaken}
use Rattle.ot_forms.proofs.Types.{IsEnd}
use Rattle.ot_forms.proofs.BareWords.{SaysBare, bare-reads}
use Rattle.ot_forms.proofs.Spellings.{inside, with_space, no_bare_space, SaysQuoted, quoted-reads, bare-byte}
use Rattle.ot_forms.proofs.Padding.{letters, padded, bare-padded, named-padded, dotted-padded, not-hidden, base_bytes}
use Rattle.ot_forms.proofs.Hiding.{IsFound, with_base-some, with_base-none, not_taken-none, taken-base, hidden-taken}

base-space : (n : Name) → (c : List ℕ) × (base (with_space n) ≡ c ++ codes " ")
base-space [] = ([], refl)
base-space (c ∷ []) = (c, refl)
base-space (c ∷ d ∷ []) = (d, refl)
base-space (c ∷ d ∷ e ∷ es) = base-space (d ∷ e ∷ es)

pub and_false : (p : Bool) → (p && false) ≡ false
and_false true = refl
and_false false = refl

-- a word with a dot is no part
dot-inner : (c z : List ℕ) → list_all is_inner (c ++ 46 ∷ z) ≡ false
dot-inner [] z = refl
dot-inner (b ∷ c) z = ap (λ t. is_inner b && t) (dot-inner c z) ∙ and_false (is_inner b)

pub dot-part : (c z : List ℕ) → is_part (c ++ 46 ∷ z) ≡ false
dot-part [] z = refl
dot-part (b ∷ c) z = ap (λ t. is_letter b && t) (dot-inner c z) ∙ and_false (is_letter b)

-- symbols of one kind
pub record IsKind (kind : Name → Symbol Name) : Type 0 where
  pub named : (n : Name) → symbol_name (kind n) ≡ n
  pub alike : (n m : Name) → same_kind (kind n) (kind m) ≡ true
  pub only : (n : Name) (s : Symbol Name) → same_kind (kind n) s ≡ true → s ≡ kind (symbol_name s)
  -- no base name with a space at its end or with a dot may stand alone
  pub unspaced : (n : Name) (c : List ℕ) → base n ≡ c ++ codes " " → is_short (kind n) ≡ false
  pub undotted : (n : Name) (c z : List ℕ) → base n ≡ c ++ 46 ∷ z → is_short (kind n) ≡ false

module _ (hidden : List (Symbol Name)) (kind : Name → Symbol Name) where
  abbrev pub is_worded : Name → Bool
  is_worded n = is_bare n && not (is_taken hidden (kind n) (dotted n))

  -- whether the word is the spelling
  abbrev pub spells : Name → Bool
  spells n = not (is_hidden hidden (kind n)) && not (is_worded n)

  pub record SaysSymbol (n : Name) (x : List ℕ) : Type 0 where
    pub named : IsName n
    pub text : x ≡ cond (is_hidden hidden (kind n)) (base n) (cond (is_worded n) (dotted n) (spelled n))

  abbrev pub quote_at : List ℕ → Reading Name
  quote_at s = next (literal_at (codes "\"") s) (λ _ r. quoted_at spells r)

  abbrev pub Kept_bare : Name → List ℕ → Type 0
  Kept_bare = Kept SaysBare (λ n. not (is_hidden hidden (kind n)))

  abbrev pub Bare_symbol : Name → List ℕ → Type 0
  Bare_symbol = Image (settled hidden kind) Kept_bare

  pub bare_symbol-byte : (n : Name) (x : List ℕ) → Bare_symbol n x → Begins is_letter true x
  bare_symbol-byte n x h = bare-byte h.from x h.says.says

abbrev pub is_quote : ℕ → Bool
is_quote b = b == 34

module _ (hidden : List (Symbol Name)) (nt : IsNotation hidden) (kind : Name → Symbol Name) (k : IsKind kind) where
  -- ---- bare words

  extend : (m : Name) (x : List ℕ) → SaysBare m x → Extends SaysBare (λ n. not (is_hidden hidden (kind n))) x
  extend m x h =
      let n = suc (base_bytes hidden) in
      record {
        value = padded n m;
        more = letters n;
        says = record {
          bare = bare-padded n m h.bare;
          named = named-padded n m h.named;
          text = ap (λ z. z ++ letters n) h.text ∙ dotted-padded n m h.named;
        };
        fine = ap not (not-hidden hidden kind m k.named h.named);
      }

  pub bare_symbol-reads : Reads (Bare_symbol hidden kind) IsEnd (bare_symbol_at hidden kind)
  bare_symbol-reads = mapped-reads (settled hidden kind) (Kept_bare hidden kind) IsEnd
      (λ s. kept (λ n. not (is_hidden hidden (kind n))) (bare_at s))
      (kept-reads SaysBare IsEnd bare_at (λ n. not (is_hidden hidden (kind n))) extend bare-reads)

  -- ---- quoted words

  not_hidden : (n : Name) → is_short (kind n) ≡ false → is_hidden hidden (kind n) ≡ false
  not_hidden n h = go (is_hidden hidden (kind n)) refl where
    go : (b : Bool) → is_hidden hidden (kind n) ≡ b → b ≡ false
    go true e = let w = nt.short (kind n) e in cc
    go false e = refl

  pub spaced : (n : Name) → spells hidden kind (with_space n) ≡ true
  spaced n =
      let b = base-space n in
      let h = not_hidden (with_space n) (k.unspaced (with_space n) b.0 b.1) in
      λ i. not (h i) && not (no_bare_space n i && not (is_taken hidden (kind (with_space n)) (dotted (with_space n))))

  abbrev pub Quoted : Name → List ℕ → Type 0
  Quoted = SaysQuoted (spells hidden kind) spaced

  abbrev pub Quote : Name → List ℕ → Type 0
  Quote = Joined (Is (codes "\"")) (λ _. Quoted)

  some-quoted : Quoted (codes " " ∷ []) (codes " \"")
  some-quoted = record { named = lit< tt; fine = spaced ([] ∷ []); text = refl }

  pub some-quote : Quote (codes " " ∷ []) (codes "\" \"")
  some-quote = record { one = tt; front = codes "\""; back = codes " \""; says = refl; then = some-quoted; is = refl }

  pub quote-reads : Reads Quote IsEnd (quote_at hidden kind)
  quote-reads = weaken Quote Any IsEnd (quote_at hidden kind) (λ _ _. tt)
      (join (Is (codes "\"")) (λ _. Quoted) Any Any (literal_at (codes "\""))
      (λ _ r. quoted_at (spells hidden kind) r)
      (literal-reads (codes "\"")) (λ _. quoted-reads (spells hidden kind) spaced)
      (λ _. (codes " " ∷ [], codes " \"", some-quoted)) (λ _ _ _ _ _ _. tt))

  pub quote-byte : (n : Name) (x : List ℕ) → Quote n x → Begins is_quote true x
  quote-byte n x h = record { byte = 34; rest = h.back; is = h.is ∙ ap (λ z. z ++ h.back) h.says; tells = refl }

  pub quote-says : (n : Name) (x : List ℕ) → Quote n x → SaysSymbol hidden kind n x
  quote-says n x q =
      let w = q.then in
      let e = and_parts (not (is_hidden hidden (kind n))) (not (is_worded hidden kind n)) w.fine in
      let nh = not-true (is_hidden hidden (kind n)) e.0 in
      let nb = not-true (is_worded hidden kind n) e.1 in
      record {
        named = w.named;
        text = q.is ∙ ap (λ z. z ++ q.back) q.says ∙ w.text
            ∙ (λ i. cond (sym nh i) (base n) (cond (sym nb i) (dotted n) (spelled n)));
      }

  -- ---- what a bare word says

  -- a hidden symbol has a namespace
  pub inner : (n : Name) → is_hidden hidden (kind n) ≡ true → 1 < length n
  inner n h = subst (λ z. 1 < length z) (k.named n) (nt.inner (kind n) h)

  settled-says : (m : Name) (x : List ℕ) → Kept_bare hidden kind m x
      → SaysSymbol hidden kind (settled hidden kind m) x
  settled-says [] x h = absurd (let w = h.says.named in omega (arith, w))
  settled-says (c ∷ []) x h = go (with_base hidden (kind (c ∷ [])) c) refl where
    go : (o : Option Name) → with_base hidden (kind (c ∷ [])) c ≡ o → SaysSymbol hidden kind (unwrap_or o (c ∷ [])) x
    go (Some n) e =
        let f = with_base-some hidden (kind (c ∷ [])) c n e in
        let is = k.only (c ∷ []) f.symbol f.kind ∙ ap kind f.name in
        let hid : is_hidden hidden (kind n) ≡ true = subst (λ s. is_hidden hidden s ≡ true) is f.hides in
        let two = inner n hid in
        record {
          named = omega (arith, two);
          text = h.says.text ∙ f.base_is
              ∙ (λ i. cond (sym hid i) (base n) (cond (is_worded hidden kind n) (dotted n) (spelled n)));
        }
    go None e =
        let nh = not-true (is_hidden hidden (kind (c ∷ []))) h.fine in
        let free = with_base-none hidden (kind (c ∷ [])) c e in
        record {
          named = lit< tt;
          text = h.says.text
              ∙ (λ i. cond (sym nh i) c (cond (sym h.says.bare i && not (sym free i)) c (spelled (c ∷ []))));
        }
  settled-says (c ∷ d ∷ ds) x h =
      let n = c ∷ d ∷ ds in
      let nh = not-true (is_hidden hidden (kind n)) h.fine in
      let free = not_taken (is_taken hidden (kind n) (dotted n)) refl in
      record {
        named = omega arith;
        text = h.says.text
            ∙ (λ i. cond (sym nh i) (base n) (cond (sym h.says.bare i && not (sym free i)) (dotted n) (spelled n)));
      }
    where
      not_taken : (b : Bool) → is_taken hidden (kind (c ∷ d ∷ ds)) (dotted (c ∷ d ∷ ds)) ≡ b → b ≡ false
      not_taken true e =
          let t = taken-base hidden (kind (c ∷ d ∷ ds)) (dotted (c ∷ d ∷ ds)) e in
          let n = symbol_name t.symbol in
          let short : is_short (kind n) ≡ true = subst (λ s. is_short s ≡ true) (k.only (c ∷ d ∷ ds) t.symbol t.kind)
          (nt.short t.symbol t.hides) in
          let long = k.undotted n c (dotted (d ∷ ds)) (sym t.base_is) in
          cc
      not_taken false e = refl

  pub bare-says : (n : Name) (x : List ℕ) → Bare_symbol hidden kind n x → SaysSymbol hidden kind n x
  bare-says n x b = subst (λ m. SaysSymbol hidden kind m x) (sym b.is) (settled-says b.from x b.says)

  -- ---- which word a symbol has

  single : (c : List ℕ) → is_hidden hidden (kind (c ∷ [])) ≡ false
  single c = go (is_hidden hidden (kind (c ∷ []))) refl where
    go : (b : Bool) → is_hidden hidden (kind (c ∷ [])) ≡ b → b ≡ false
    go true e = let w : 1 < 1 = inner (c ∷ []) e in absurd (omega arith)
    go false e = refl

  -- a hidden symbol is found by its base name
  finds : (n : Name) → is_hidden hidden (kind n) ≡ true → with_base hidden (kind (base n ∷ [])) (base n) ≡ Some n
  finds n h = go (with_base hidden (kind (base n ∷ [])) (base n)) refl where
    found : (m : Name) → IsFound hidden (kind (base n ∷ [])) (base n) m → m ≡ n
    found m f =
        let is = k.only (base n ∷ []) f.symbol f.kind in
        let alike : same_kind f.symbol (kind n) ≡ true =
        subst (λ s. same_kind s (kind n) ≡ true) (sym is) (k.alike (symbol_name f.symbol) n) in
        let bases = ap base f.name ∙ sym f.base_is ∙ ap base (sym (k.named n)) in
        sym f.name ∙ nt.alone f.symbol (kind n) f.hides h alike bases ∙ k.named n

    go : (o : Option Name) → with_base hidden (kind (base n ∷ [])) (base n) ≡ o → o ≡ Some n
    go (Some m) e = ap Some (found m (with_base-some hidden (kind (base n ∷ [])) (base n) m e))
    go None e =
        let free = with_base-none hidden (kind (base n ∷ [])) (base n) e in
        let s = kind (base n ∷ []) in
        let own = hidden-taken hidden (kind n) s (k.alike (base n ∷ []) n) h in
        let taken : is_taken hidden s (base n) ≡ true =
        subst (λ m. is_taken hidden s (base m) ≡ true) (k.named n) own in
        cc

  pub hidden-bare : (n : Name) (x : List ℕ) → is_hidden hidden (kind n) ≡ true → is_part (base n) ≡ true → x ≡ base n
      → Bare_symbol hidden kind n x
  hidden-bare n x e part q = record {
    from = base n ∷ [];
    says = record {
      says = record { bare = λ i. part i && true; named = lit< tt; text = q };
      fine = ap not (single (base n));
    };
    is = ap (λ o. unwrap_or o (base n ∷ [])) (sym (finds n e));
  }

  itself : (n : Name) → is_taken hidden (kind n) (dotted n) ≡ false → n ≡ settled hidden kind n
  itself [] e = refl
  itself (c ∷ []) e = ap (λ o. unwrap_or o (c ∷ [])) (sym (not_taken-none hidden (kind (c ∷ [])) c e))
  itself (c ∷ d ∷ ds) e = refl

  -- the word of a symbol that isn't hidden
  pub shown-word : (n : Name) (x : List ℕ) → IsName n → is_hidden hidden (kind n) ≡ false
      → x ≡ cond (is_worded hidden kind n) (dotted n) (spelled n) → Quote n x ⊎ Bare_symbol hidden kind n x
  shown-word n x named nh q = go (is_worded hidden kind n) refl q where
    go : (b : Bool) → is_worded hidden kind n ≡ b → x ≡ cond b (dotted n) (spelled n)
        → Quote n x ⊎ Bare_symbol hidden kind n x
    go true e q =
        let w = and_parts (is_bare n) (not (is_taken hidden (kind n) (dotted n))) e in
        inr (record {
          from = n;
          says = record { says = record { bare = w.0; named = named; text = q }; fine = ap not nh };
          is = itself n (not-true (is_taken hidden (kind n) (dotted n)) w.1);
        })
    go false e q = inl (record {
      one = tt;
      front = codes "\"";
      back = inside n ++ 34 ∷ [];
      says = refl;
      then = record { named = named; fine = λ i. not (nh i) && not (e i); text = refl };
      is = q;
    })
