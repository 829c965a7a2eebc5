-- The hidden symbols of a run are a notation.
use Rattle.std.specs.Prelude.{◌≡◌, ◌<◌, not, ◌||◌, ◌&&◌, Bool, true, false, cond, List, [], ◌∷◌, length}
use Rattle.std.specs.List.{list_all, list_any, filter}
use Rattle.std.proofs.Common.{refl, sym, ◌∙◌, ap, subst, inl, inr, arith}
use Rattle.std.proofs.lemmas.Bool.{and_parts}
use Rattle.std.proofs.lemmas.Slice.Eq.{bytes_eq-Decides}
use Rattle.ot_logic.specs.Names.{Name, IsName, same_name, same_name-Decides}
use Rattle.ot_logic.specs.Lists.{IsMember}
use Rattle.ot_logic.specs.Trees.{Symbol, ConSymbol, OpSymbol}
use Rattle.ot_forms.specs.Words.{namespace, base, symbol_name, same_kind, same_symbol, is_short}
use Rattle.ot_forms.specs.Words.{is_shown, is_alike, is_hidden_in, hidden_symbols, is_hidden}
use Rattle.ot_forms.specs.Words.{IsNotation}
use Rattle.ot_logic.proofs.Members.{member_from_any}

-- what a test finds among those that are kept
pub record IsAmong {X : Type 0} (test p : X → Bool) (xs : List X) : Type 0 where
  pub found : X
  pub tells : test found ≡ true
  pub kept : p found ≡ true
  pub member : IsMember found xs

any-filter : {X : Type 0} (test p : X → Bool) (xs : List X) → list_any test (filter p xs) ≡ true → IsAmong test p xs
any-filter test p [] e = cc
any-filter test p (x ∷ xs) e = go (any-filter test p xs) (p x) refl e where
  further : IsAmong test p xs → IsAmong test p (x ∷ xs)
  further w = record { found = w.found; tells = w.tells; kept = w.kept; member = inr w.member }

  first : (list_any test (filter p xs) ≡ true → IsAmong test p xs) → p x ≡ true → (t : Bool) → test x ≡ t
      → (t || list_any test (filter p xs)) ≡ true → IsAmong test p (x ∷ xs)
  first ih k true q e = record { found = x; tells = q; kept = k; member = inl refl }
  first ih k false q e = further (ih e)

  go : (list_any test (filter p xs) ≡ true → IsAmong test p xs) → (t : Bool) → p x ≡ t
      → list_any test (cond t (x ∷ filter p xs) (filter p xs)) ≡ true → IsAmong test p (x ∷ xs)
  go ih true k e = first ih k (test x) refl e
  go ih false k e = further (ih e)

all-member : {X : Type 0} (test : X → Bool) (xs : List X) (x : X) → list_all test xs ≡ true → IsMember x xs
    → test x ≡ true
all-member test [] x e h = absurd h
all-member test (y ∷ ys) x e h = let w = and_parts (test y) (list_all test ys) e in
    elim h [ inl p ↦ ap test (sym p) ∙ w.0 | inr k ↦ all-member test ys x w.1 k ]

one-symbol : (s t : Symbol Name) → same_symbol s t ≡ true → s ≡ t
one-symbol (ConSymbol n) (ConSymbol m) e = ap ConSymbol ((same_name-Decides n m).0 e)
one-symbol (OpSymbol n) (OpSymbol m) e = ap OpSymbol ((same_name-Decides n m).0 e)
one-symbol (ConSymbol n) (OpSymbol m) e = cc
one-symbol (OpSymbol n) (ConSymbol m) e = cc

longer-name : (n : Name) → 0 < length (namespace n) → 1 < length n
longer-name [] h = absurd (omega arith)
longer-name (c ∷ []) h = absurd (omega arith)
longer-name (c ∷ d ∷ ds) h = omega arith

module _ (shown : List Name) (named : (n : Name) → IsMember n shown → IsName n) (symbols : List (Symbol Name)) where
  abbrev hides : Symbol Name → Bool
  hides = is_hidden_in shown symbols

  pub record IsHiding (s : Symbol Name) : Type 0 where
    pub shown_is : is_shown shown s ≡ true
    pub short : is_short s ≡ true
    pub alone : list_all (λ t. not (is_alike s t && is_shown shown t) || same_symbol s t) symbols ≡ true
    pub member : IsMember s symbols

  hiding : (s : Symbol Name) → is_hidden (hidden_symbols shown symbols) s ≡ true → IsHiding s
  hiding s e =
      let w = any-filter (same_symbol s) hides symbols e in
      let q = one-symbol s w.found w.tells in
      let k : hides s ≡ true = ap hides q ∙ w.kept in
      let a = and_parts (is_shown shown s)
      (is_short s && list_all (λ t. not (is_alike s t && is_shown shown t) || same_symbol s t) symbols) k in
      let b = and_parts (is_short s)
      (list_all (λ t. not (is_alike s t && is_shown shown t) || same_symbol s t) symbols) a.1 in
      record { shown_is = a.0; short = b.0; alone = b.1; member = subst (λ z. IsMember z symbols) (sym q) w.member }

  one_name : (s t : Symbol Name) → IsHiding s → IsHiding t → same_kind s t ≡ true
      → base (symbol_name s) ≡ base (symbol_name t) → symbol_name s ≡ symbol_name t
  one_name s t h k c e =
      let at = all-member (λ u. not (is_alike s u && is_shown shown u) || same_symbol s u) symbols t h.alone
      k.member in
      let like : is_alike s t ≡ true = λ i. c i && (bytes_eq-Decides (base (symbol_name s)) (base (symbol_name t))).1
      e i in
      let test : (not (true && true) || same_symbol s t) ≡ true =
      (λ i. not (sym like i && sym k.shown_is i) || same_symbol s t) ∙ at in
      ap symbol_name (one-symbol s t test)

  -- no two of one kind have one base name; each has a namespace; each base name may stand alone
  pub is-notation : IsNotation (hidden_symbols shown symbols)
  is-notation = record {
    short = λ s e. (hiding s e).short;
    inner = λ s e. let h = hiding s e in
        let w = member_from_any (same_name (namespace (symbol_name s))) shown h.shown_is in
        let q = (same_name-Decides (namespace (symbol_name s)) w.0).0 w.1 in
        longer-name (symbol_name s) (let k = named w.0 w.2 in let l = ap length q in omega (arith, k, l));
    alone = λ s t e f c b. one_name s t (hiding s e) (hiding t f) c b;
  }
