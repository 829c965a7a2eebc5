-- The words of type operators.
use Rattle.std.specs.Prelude.{◌≡◌, ℕ, ◌==◌, ◌||◌, Bool, true, false, cond, List, [], ◌∷◌, codes}
use Rattle.std.proofs.Common.{refl, sym, ◌∙◌, ap, inl, inr}
use Rattle.ot_logic.specs.Names.{Name, IsName, spelled}
use Rattle.ot_logic.specs.Trees.{Symbol, ConSymbol, OpSymbol}
use Rattle.ot_forms.specs.Words.{is_letter, is_part, dotted, base, symbol_name}
use Rattle.ot_forms.specs.Words.{same_kind, is_hidden, word, IsNotation}
use Rattle.ot_forms.specs.Reading.{NoForm, Got, Halted, next, quoted_at, bare_symbol_at, is_spelled, operator_at}
use Rattle.ot_forms.proofs.Readers.{Reads, Begins, Either, picked, told, pick, same-reads}
use Rattle.ot_forms.proofs.Types.{IsEnd, SaysWord, differs, starts_word}
use Rattle.ot_forms.proofs.Spellings.{no_part_space}
use Rattle.ot_forms.proofs.SymbolWords.{IsKind, SaysSymbol, Bare_symbol, Quote}
use Rattle.ot_forms.proofs.SymbolWords.{is_worded, quote_at, is_quote, dot-part}
use Rattle.ot_forms.proofs.SymbolWords.{bare_symbol-reads, bare_symbol-byte, some-quote, quote-reads}
use Rattle.ot_forms.proofs.SymbolWords.{quote-byte, quote-says, bare-says, hidden-bare, shown-word}

operator_symbols : IsKind OpSymbol
operator_symbols = record {
  named = λ n. refl;
  alike = λ n m. refl;
  only = only;
  unspaced = λ n c e. ap is_part e ∙ no_part_space c;
  undotted = λ n c z e. ap is_part e ∙ dot-part c z;
}
  where
    only : (n : Name) (s : Symbol Name) → same_kind (OpSymbol n) s ≡ true → s ≡ OpSymbol (symbol_name s)
    only n (OpSymbol m) e = refl
    only n (ConSymbol m) e = cc

or-right : (p : Bool) → (p || true) ≡ true
or-right true = refl
or-right false = refl

module _ (hidden : List (Symbol Name)) (nt : IsNotation hidden) where
  abbrev Quote_word : Name → List ℕ → Type 0
  Quote_word = Quote hidden nt OpSymbol operator_symbols

  abbrev Bare_word : Name → List ℕ → Type 0
  Bare_word = Bare_symbol hidden OpSymbol

  abbrev Word_text : Name → List ℕ → Type 0
  Word_text = Either Quote_word Bare_word IsEnd (quote_at hidden OpSymbol) (bare_symbol_at hidden OpSymbol) is_quote

  as_quote : (n : Name) (x : List ℕ) → Quote_word n x → Word_text n x
  as_quote n x w = inl (w, quote-byte hidden nt OpSymbol operator_symbols n x w)

  as_bare : (n : Name) (x : List ℕ) → Bare_word n x → Word_text n x
  as_bare n x w =
      let k = bare_symbol-byte hidden OpSymbol n x w in
      inr (w, record { byte = k.byte; rest = k.rest; is = k.is; tells = differs is_letter 34 k.byte refl k.tells })

  says-word : (n : Name) (x : List ℕ) → SaysWord hidden n x → Word_text n x
  says-word n x h = hides (is_hidden hidden (OpSymbol n)) refl h.text where
    hides : (b : Bool) → is_hidden hidden (OpSymbol n) ≡ b
        → x ≡ cond b (base n) (cond (is_worded hidden OpSymbol n) (dotted n) (spelled n))
        → Word_text n x
    hides true e q = as_bare n x (hidden-bare hidden nt OpSymbol operator_symbols n x e (nt.short (OpSymbol n) e) q)
    hides false e q = elim (shown-word hidden nt OpSymbol operator_symbols n x h.named e q)
        [ inl w ↦ as_quote n x w | inr w ↦ as_bare n x w ]

  word-says : (n : Name) (x : List ℕ) → Word_text n x → SaysWord hidden n x
  word-says n x h = as_word (elim h [
    | inl q ↦ quote-says hidden nt OpSymbol operator_symbols n x q.0
    | inr b ↦ bare-says hidden nt OpSymbol operator_symbols n x b.0
  ]) where
    as_word : SaysSymbol hidden OpSymbol n x → SaysWord hidden n x
    as_word w = record { named = w.named; text = w.text }

  pub word-starts : (n : Name) → IsName n → Begins starts_word true (word hidden (OpSymbol n))
  word-starts n h = elim (says-word n (word hidden (OpSymbol n)) (record { named = h; text = refl })) [
    | inl q ↦
        let k = q.1 in
        record {
          byte = k.byte;
          rest = k.rest;
          is = k.is;
          tells = ap (λ t. is_letter k.byte || t) k.tells
              ∙ or-right (is_letter k.byte);
        }
    | inr b ↦
        let k = bare_symbol-byte hidden OpSymbol n (word hidden (OpSymbol n)) b.0 in
        record { byte = k.byte; rest = k.rest; is = k.is; tells = ap (λ t. t || (k.byte == 34)) k.tells }
  ]

  pub operator-reads : Reads (SaysWord hidden) IsEnd (operator_at hidden)
  operator-reads = told Word_text (SaysWord hidden) IsEnd (operator_at hidden)
      (same-reads Word_text IsEnd
      (picked Quote_word Bare_word IsEnd (quote_at hidden OpSymbol) (bare_symbol_at hidden OpSymbol) is_quote)
      (operator_at hidden) same
      (pick Quote_word Bare_word IsEnd (quote_at hidden OpSymbol) (bare_symbol_at hidden OpSymbol) is_quote
      (codes " " ∷ []) (codes "\" \"")
      (as_quote (codes " " ∷ []) (codes "\" \"") (some-quote hidden nt OpSymbol operator_symbols))
      (quote-reads hidden nt OpSymbol operator_symbols) (bare_symbol-reads hidden nt OpSymbol operator_symbols)
      (λ n x h. let k = quote-byte hidden nt OpSymbol operator_symbols n x h in
      record { byte = k.byte; rest = k.rest; is = k.is })
      (λ n x h. let k = bare_symbol-byte hidden OpSymbol n x h in
      record { byte = k.byte; rest = k.rest; is = k.is })))
      word-says says-word
    where
      same : (s : List ℕ) → operator_at hidden s
          ≡ picked Quote_word Bare_word IsEnd (quote_at hidden OpSymbol) (bare_symbol_at hidden OpSymbol) is_quote s
      same [] = refl
      same (b ∷ s) = go (b == 34) refl where
        go : (t : Bool) → (b == 34) ≡ t → cond t (quoted_at (λ n. is_spelled hidden (OpSymbol n)) s)
            (bare_symbol_at hidden OpSymbol (b ∷ s))
            ≡ cond t (quote_at hidden OpSymbol (b ∷ s)) (bare_symbol_at hidden OpSymbol (b ∷ s))
        go true e = λ i. next (cond (sym e i) (Got tt s) (Halted NoForm (b ∷ s)))
            (λ _ r. quoted_at (λ n. is_spelled hidden (OpSymbol n)) r)
        go false e = refl
