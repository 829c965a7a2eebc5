-- A symbol is alone among shown symbols where one name holds its base name.
use Rattle.std.specs.Prelude.{◌≡◌, ◌<◌, ◌+◌, ℕ, Bool, true, false, cond, not, ◌&&◌, ◌||◌}
use Rattle.std.specs.Prelude.{List, [], ◌∷◌, Option, Some, None, map, length, drop}
use Rattle.std.specs.List.{list_all}
use Rattle.std.specs.Option.{option_map}
use Rattle.std.specs.Borrow.{Bor}
use Rattle.std.specs.Str.{bytes_eq}
use Rattle.std.specs.Cmp.Lexicographic.{bytes_decides}
use Rattle.std.proofs.Common.{refl, sym, ◌∙◌, ap, get_or, drop-cons, add-one}
use Rattle.ot_logic.specs.Names.{Name, same_name, same_name-Decides}
use Rattle.ot_logic.specs.Trees.{Symbol, ConSymbol, OpSymbol}
use Rattle.std.specs.List.{list_any}
use Rattle.ot_forms.specs.Words.{is_shown, same_kind, same_text, base, namespace, symbol_name}
use Rattle.ot_parse.specs.declared.bases.Holder.{Holder}
use Rattle.ot_parse.specs.declared.notation.WordKind.{WordKind}
use Rattle.ot_parse.specs.Symbols.{symbol_of, kind_test}
use Rattle.ot_parse.proofs.Rivals.{name-of, kind-of}
use Rattle.ot_parse.specs.Bases.{one_more, is_sole, holder_of, holder_with, holders_among, is_no_rival}

-- ---- two tests
and-true : (b : Bool) → b ≡ (b && true)
and-true true = refl
and-true false = refl

and-same : (b : Bool) → b ≡ (b && b)
and-same true = refl
and-same false = refl

and-three : (a b c : Bool) → ((a && b) && c) ≡ (a && (b && c))
and-three true b c = refl
and-three false b c = refl

turned : (x y : List ℕ) → same_text x y ≡ same_text y x
turned x y = go (same_text x y) (same_text y x) refl refl where
  go : (a b : Bool) → same_text x y ≡ a → same_text y x ≡ b → a ≡ b
  go true true h k = refl
  go false false h k = refl
  go true false h k = sym ((bytes_decides y x).1 (sym ((bytes_decides x y).0 h))) ∙ k
  go false true h k = sym h ∙ (bytes_decides x y).1 (sym ((bytes_decides y x).0 k))

-- ---- a name more
joined : (n m : Name) (o : Option (Option Name)) → is_sole n (Some (one_more o m)) ≡ (is_sole n o && same_name n m)
joined n m None = refl
joined n m (Some None) = refl
joined n m (Some (Some p)) = go (same_name p m) refl where
  apart : (b : Bool) → same_name n p ≡ b → same_name p m ≡ false → false ≡ (b && same_name n m)
  apart false k h = refl
  apart true k h = sym h ∙ ap (λ z. same_name z m) (sym ((same_name-Decides n p).0 k))

  go : (b : Bool) → same_name p m ≡ b → is_sole n (Some (cond b (Some m) None)) ≡ (same_name n p && same_name n m)
  go true h = and-same (same_name n m) ∙ ap (λ z. same_name n z && same_name n m) (sym ((same_name-Decides p m).0 h))
  go false h = apart (same_name n p) refl h

-- ---- a symbol more
module _ (shown : List Name) (z s : Symbol Name) (kind : (t : Symbol Name) → same_kind z t ≡ same_kind s t) where
  abbrev n : Name
  n = symbol_name s

  one : (o : Option (Option Name)) (t : Symbol Name) → is_sole n (holder_with shown z (base n) o t)
      ≡ (is_sole n o && is_no_rival shown s t)
  one o t =
      (λ i. is_sole n
      (cond ((kind t i && is_shown shown t) && turned (base (symbol_name t)) (base n) i)
      (Some (one_more o (symbol_name t))) o)) ∙ go (same_kind s t) (same_text (base n) (base (symbol_name t)))
      (is_shown shown t) where
        go : (k b c : Bool) → is_sole n (cond ((k && c) && b) (Some (one_more o (symbol_name t))) o)
            ≡ (is_sole n o && (not ((k && b) && c) || (k && same_name n (symbol_name t))))
        go true true true = joined n (symbol_name t) o
        go true true false = and-true (is_sole n o)
        go true false true = and-true (is_sole n o)
        go true false false = and-true (is_sole n o)
        go false true c = and-true (is_sole n o)
        go false false c = and-true (is_sole n o)

  all : (o : Option (Option Name)) (ts : List (Symbol Name)) → is_sole n (holders_among shown z (base n) o ts)
      ≡ (is_sole n o && list_all (is_no_rival shown s) ts)
  all o [] = and-true (is_sole n o)
  all o (t ∷ ts) = all (holder_with shown z (base n) o t) ts ∙ ap (λ b. b && list_all (is_no_rival shown s) ts)
      (one o t) ∙ and-three (is_sole n o) (is_no_rival shown s t) (list_all (is_no_rival shown s) ts)

pub alone-constant : (shown : List Name) (n : Name) (ts : List (Symbol Name))
    → is_sole n (holders_among shown (ConSymbol []) (base n) None ts) ≡ list_all (is_no_rival shown (ConSymbol n)) ts
alone-constant shown n ts = all shown (ConSymbol []) (ConSymbol n) kind None ts where
  kind : (t : Symbol Name) → same_kind (ConSymbol []) t ≡ same_kind (ConSymbol n) t
  kind (ConSymbol m) = refl
  kind (OpSymbol m) = refl

pub alone-type : (shown : List Name) (n : Name) (ts : List (Symbol Name))
    → is_sole n (holders_among shown (OpSymbol []) (base n) None ts) ≡ list_all (is_no_rival shown (OpSymbol n)) ts
alone-type shown n ts = all shown (OpSymbol []) (OpSymbol n) kind None ts where
  kind : (t : Symbol Name) → same_kind (OpSymbol []) t ≡ same_kind (OpSymbol n) t
  kind (ConSymbol m) = refl
  kind (OpSymbol m) = refl

-- ---- the symbols one after another
pub among-step : (shown : List Name) (s : Symbol Name) (text : List ℕ) (xs : List (WordKind × Name)) (i : ℕ)
    (x : WordKind × Name) (o p : Option (Option Name)) → i < length xs → x ≡ get_or xs i x
    → p ≡ holder_with shown s text o (symbol_of x)
    → holders_among shown s text p (map symbol_of (drop (i + 1) xs)) ≡ holders_among shown s text o
    (map symbol_of (drop i xs))
among-step shown s text xs i x o p h e q =
    ap (λ r. holders_among shown s text r (map symbol_of (drop (i + 1) xs))) q
    ∙ ap (λ y. holders_among shown s text (holder_with shown s text o (symbol_of y))
    (map symbol_of (drop (i + 1) xs))) e
    ∙ sym (ap (λ ys. holders_among shown s text o (map symbol_of ys)) cut)
  where
    cut : drop i xs ≡ get_or xs i x ∷ drop (i + 1) xs
    cut = rw (add-one, drop-cons xs i x)

module _ (shown : List Name) (k l : WordKind) (m : Name) (text : List ℕ) where
  with-is : (o : Option (Option Name)) → holder_with shown (symbol_of (k, [])) text o (symbol_of (l, m)) ≡ cond
      ((kind_test k l && list_any (same_name (namespace m)) shown) && same_text (base m) text) (Some (one_more o m)) o
  with-is o =
      λ i. cond ((kind-of k l [] m i && list_any (same_name (namespace (name-of l m i))) shown)
      && same_text (base (name-of l m i)) text) (Some (one_more o (name-of l m i))) o

  pub other-kind : (o : Option (Option Name)) → kind_test k l ≡ false
      → o ≡ holder_with shown (symbol_of (k, [])) text o (symbol_of (l, m))
  other-kind o h =
      ap (λ b. cond ((b && list_any (same_name (namespace m)) shown) && same_text (base m) text) (Some (one_more o m))
      o) (sym h) ∙ sym (with-is o)

  not-both : (b c : Bool) (o p : Option (Option Name)) → o ≡ cond ((b && false) && c) p o
  not-both true c o p = refl
  not-both false c o p = refl

  pub other-shown : (o : Option (Option Name)) → list_any (same_name (namespace m)) shown ≡ false
      → o ≡ holder_with shown (symbol_of (k, [])) text o (symbol_of (l, m))
  other-shown o h = not-both (kind_test k l) (same_text (base m) text) o (Some (one_more o m))
      ∙ ap (λ b. cond ((kind_test k l && b) && same_text (base m) text) (Some (one_more o m)) o) (sym h)
      ∙ sym (with-is o)

  pub added : (f : List ℕ → Option (Option Name)) (w : Option Name) (new : Option (Option Name))
      → kind_test k l ≡ true → list_any (same_name (namespace m)) shown ≡ true → w ≡ one_more (f (base m)) m
      → new ≡ cond (bytes_eq (base m) text) (Some w) (f text)
      → new ≡ holder_with shown (symbol_of (k, [])) text (f text) (symbol_of (l, m))
  added f w new h g e q = q ∙ go (bytes_eq (base m) text) refl
      ∙ (λ i. cond ((sym h i && sym g i) && same_text (base m) text) (Some (one_more (f text) m)) (f text))
      ∙ sym (with-is (f text)) where
        go : (b : Bool) → bytes_eq (base m) text ≡ b → cond b (Some w) (f text) ≡ cond b (Some (one_more (f text) m))
            (f text)
        go true d = ap Some e ∙ ap (λ z. Some (one_more (f z) m)) ((bytes_decides (base m) text).0 d)
        go false d = refl

-- a holder that is looked up
pub looked-up : (o : Option Holder) (p : Option (Bor Holder)) → option_map (λ h. h.now) p ≡ o
    → option_map (λ h. holder_of h.now) p ≡ option_map holder_of o
looked-up o None e = ap (option_map holder_of) e
looked-up o (Some h) e = ap (option_map holder_of) e

-- after a change
pub changed : (new old : Option Holder) (b : Bool) (v : Holder) → new ≡ cond b (Some v) old → option_map holder_of new
    ≡ cond b (Some (holder_of v)) (option_map holder_of old)
changed new old true v e = ap (option_map holder_of) e
changed new old false v e = ap (option_map holder_of) e
