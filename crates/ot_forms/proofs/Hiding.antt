-- Hidden symbols, by their base names.
use Rattle.std.specs.Prelude.{◌≡◌, ℕ, ◌||◌, ◌&&◌, Bool, true, false, cond, List, [], ◌∷◌, Some, None}
use Rattle.std.proofs.Common.{refl, ◌∙◌, ap}
use Rattle.std.proofs.lemmas.Bool.{and_parts}
use Rattle.std.proofs.lemmas.Slice.Eq.{bytes_eq-Decides}
use Rattle.ot_logic.specs.Names.{Name, same_name, same_name-Decides}
use Rattle.ot_logic.specs.Trees.{Symbol, ConSymbol, OpSymbol}
use Rattle.ot_forms.specs.Words.{base, symbol_name, same_kind, same_symbol, same_text, is_hidden, is_taken}
use Rattle.ot_forms.specs.Reading.{with_base}

same-kind : (s : Symbol Name) → same_kind s s ≡ true
same-kind (ConSymbol n) = refl
same-kind (OpSymbol n) = refl

same-itself : (s : Symbol Name) → same_symbol s s ≡ true
same-itself s = λ i. same-kind s i && (same_name-Decides (symbol_name s) (symbol_name s)).1 refl i

or-right : (p : Bool) → (p || true) ≡ true
or-right true = refl
or-right false = refl

-- what is found by its base name
pub record IsFound (hidden : List (Symbol Name)) (s : Symbol Name) (x : List ℕ) (n : Name) : Type 0 where
  pub symbol : Symbol Name
  pub name : symbol_name symbol ≡ n
  pub kind : same_kind s symbol ≡ true
  pub base_is : x ≡ base n
  pub hides : is_hidden hidden symbol ≡ true

pub with_base-some : (hidden : List (Symbol Name)) (s : Symbol Name) (x : List ℕ) (n : Name)
    → with_base hidden s x ≡ Some n → IsFound hidden s x n
with_base-some [] s x n e = cc
with_base-some (t ∷ h) s x n e = go (with_base-some h s x n) (same_kind s t && same_text x (base (symbol_name t)))
    refl e where
      go : (with_base h s x ≡ Some n → IsFound h s x n) → (b : Bool)
          → (same_kind s t && same_text x (base (symbol_name t))) ≡ b → cond b (Some (symbol_name t)) (with_base h s x)
          ≡ Some n → IsFound (t ∷ h) s x n
      go ih true q k = let w = and_parts (same_kind s t) (same_text x (base (symbol_name t))) q in
          let e : symbol_name t ≡ n = cc in
          record {
            symbol = t;
            name = e;
            kind = w.0;
            base_is = (bytes_eq-Decides x (base (symbol_name t))).0 w.1
                ∙ ap base e;
            hides = λ i. same-itself t i || is_hidden h t;
          }
      go ih false q k = let w = ih k in
          record {
            symbol = w.symbol;
            name = w.name;
            kind = w.kind;
            base_is = w.base_is;
            hides = ap (λ b. same_symbol w.symbol t || b) w.hides ∙ or-right (same_symbol w.symbol t);
          }

pub with_base-none : (hidden : List (Symbol Name)) (s : Symbol Name) (x : List ℕ) → with_base hidden s x ≡ None
    → is_taken hidden s x ≡ false
with_base-none [] s x e = refl
with_base-none (t ∷ h) s x e = go (with_base-none h s x) (same_kind s t && same_text x (base (symbol_name t))) refl
    e where
      go : (with_base h s x ≡ None → is_taken h s x ≡ false) → (b : Bool)
          → (same_kind s t && same_text x (base (symbol_name t))) ≡ b → cond b (Some (symbol_name t)) (with_base h s x)
          ≡ None → (b || is_taken h s x) ≡ false
      go ih true q k = cc
      go ih false q k = ih k

pub not_taken-none : (hidden : List (Symbol Name)) (s : Symbol Name) (x : List ℕ) → is_taken hidden s x ≡ false
    → with_base hidden s x ≡ None
not_taken-none [] s x e = refl
not_taken-none (t ∷ h) s x e = go (not_taken-none h s x) (same_kind s t && same_text x (base (symbol_name t))) e where
  go : (is_taken h s x ≡ false → with_base h s x ≡ None) → (b : Bool) → (b || is_taken h s x) ≡ false
      → cond b (Some (symbol_name t)) (with_base h s x) ≡ None
  go ih true k = cc
  go ih false k = ih k

-- a text is taken only by a hidden symbol's base name
pub record IsTakenBy (hidden : List (Symbol Name)) (s : Symbol Name) (x : List ℕ) : Type 0 where
  pub symbol : Symbol Name
  pub kind : same_kind s symbol ≡ true
  pub hides : is_hidden hidden symbol ≡ true
  pub base_is : x ≡ base (symbol_name symbol)

pub taken-base : (hidden : List (Symbol Name)) (s : Symbol Name) (x : List ℕ) → is_taken hidden s x ≡ true
    → IsTakenBy hidden s x
taken-base [] s x e = cc
taken-base (t ∷ h) s x e = go (taken-base h s x) (same_kind s t && same_text x (base (symbol_name t))) refl e where
  go : (is_taken h s x ≡ true → IsTakenBy h s x) → (b : Bool) → (same_kind s t && same_text x (base (symbol_name t)))
      ≡ b → (b || is_taken h s x) ≡ true → IsTakenBy (t ∷ h) s x
  go ih true q k = let w = and_parts (same_kind s t) (same_text x (base (symbol_name t))) q in
      record {
        symbol = t;
        kind = w.0;
        hides = λ i. same-itself t i || is_hidden h t;
        base_is = (bytes_eq-Decides x (base (symbol_name t))).0 w.1;
      }
  go ih false q k = let w = ih k in
      record {
        symbol = w.symbol;
        kind = w.kind;
        hides = ap (λ b. same_symbol w.symbol t || b) w.hides
            ∙ or-right (same_symbol w.symbol t);
        base_is = w.base_is;
      }

-- a hidden symbol takes its base name
pub hidden-taken : (hidden : List (Symbol Name)) (s r : Symbol Name) → same_kind r s ≡ true
    → is_hidden hidden s ≡ true → is_taken hidden r (base (symbol_name s)) ≡ true
hidden-taken [] s r k e = cc
hidden-taken (t ∷ h) s r k e = go (hidden-taken h s r k) (same_symbol s t) refl e where
  trans : (a b c : Symbol Name) → same_kind a b ≡ true → same_kind b c ≡ true → same_kind a c ≡ true
  trans (ConSymbol a) (ConSymbol b) (ConSymbol c) p q = refl
  trans (OpSymbol a) (OpSymbol b) (OpSymbol c) p q = refl
  trans (ConSymbol a) (ConSymbol b) (OpSymbol c) p q = cc
  trans (OpSymbol a) (OpSymbol b) (ConSymbol c) p q = cc
  trans (ConSymbol a) (OpSymbol b) c p q = cc
  trans (OpSymbol a) (ConSymbol b) c p q = cc

  go : (is_hidden h s ≡ true → is_taken h r (base (symbol_name s)) ≡ true) → (b : Bool) → same_symbol s t ≡ b
      → (b || is_hidden h s) ≡ true → is_taken (t ∷ h) r (base (symbol_name s)) ≡ true
  go ih true q e =
      let w = and_parts (same_kind s t) (same_name (symbol_name s) (symbol_name t)) q in
      let n = (same_name-Decides (symbol_name s) (symbol_name t)).0 w.1 in
      λ i. (trans r s t k w.0 i && (bytes_eq-Decides (base (symbol_name s)) (base (symbol_name t))).1 (ap base n) i)
      || is_taken h r (base (symbol_name s))
  go ih false q e = ap (λ b. (same_kind r t && same_text (base (symbol_name s)) (base (symbol_name t))) || b) (ih e)
      ∙ or-right (same_kind r t && same_text (base (symbol_name s)) (base (symbol_name t)))
