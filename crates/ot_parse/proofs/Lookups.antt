-- Hidden symbols that are looked up by their names and base names.
use Rattle.std.specs.Prelude.{◌≡◌, ◌<◌, ◌≤◌, ℕ, Bool, true, false, cond, ◌&&◌, ◌||◌}
use Rattle.std.specs.Prelude.{◌==◌, nat_le, List, [], ◌∷◌, ◌++◌, map, length, Some, None}
use Rattle.std.specs.List.{list_any, list_all}
use Rattle.std.specs.Option.{unwrap_or}
use Rattle.std.proofs.Common.{refl, sym, ◌∙◌, ap, arith, get_or}
use Rattle.std.proofs.lemmas.Bool.{and_parts}
use Rattle.ot_logic.specs.Names.{Name}
use Rattle.ot_logic.specs.Trees.{Symbol, ConSymbol, OpSymbol}
use Rattle.ot_forms.specs.Words.{IsNotation, is_letter, is_inner, is_sign, is_part, is_operator}
use Rattle.ot_forms.specs.Words.{is_short, dotted, base, symbol_name, same_kind, same_text, is_taken}
use Rattle.ot_forms.specs.Reading.{with_base, settled, ended}
use Rattle.ot_forms.proofs.Hiding.{taken-base}
use Rattle.ot_parse.specs.declared.notation.WordKind.{WordKind}
use Rattle.ot_parse.specs.declared.notation.WordKind.TheVariants as kinds
use Rattle.ot_parse.specs.Symbols.{symbol_of}

pub based-kind : (h : List (Symbol Name)) (k : WordKind) (n m : Name) (x : List ℕ) → with_base h (symbol_of (k, n)) x
    ≡ with_base h (symbol_of (k, m)) x
based-kind [] k n m x = refl
based-kind (t ∷ h) kinds.Con n m x =
    ap (λ o. cond (same_kind (ConSymbol n) t && same_text x (base (symbol_name t))) (Some (symbol_name t)) o)
    (based-kind h kinds.Con n m x)
    ∙ ap (λ b. cond (b && same_text x (base (symbol_name t))) (Some (symbol_name t)) (with_base h (ConSymbol m) x))
    (same t) where
      same : (t : Symbol Name) → same_kind (ConSymbol n) t ≡ same_kind (ConSymbol m) t
      same (ConSymbol j) = refl
      same (OpSymbol j) = refl
based-kind (t ∷ h) kinds.TyOp n m x =
    ap (λ o. cond (same_kind (OpSymbol n) t && same_text x (base (symbol_name t))) (Some (symbol_name t)) o)
    (based-kind h kinds.TyOp n m x)
    ∙ ap (λ b. cond (b && same_text x (base (symbol_name t))) (Some (symbol_name t)) (with_base h (OpSymbol m) x))
    (same t) where
      same : (t : Symbol Name) → same_kind (OpSymbol n) t ≡ same_kind (OpSymbol m) t
      same (ConSymbol j) = refl
      same (OpSymbol j) = refl

-- ---- a bare word of two parts or more is no base name
all-left : (p : ℕ → Bool) (x y : List ℕ) → list_all p (x ++ y) ≡ true → list_all p y ≡ true
all-left p [] y h = h
all-left p (b ∷ x) y h = all-left p x y (and_parts (p b) (list_all p (x ++ y)) h).1

part-inner : (x : List ℕ) → is_part x ≡ true → list_all is_inner x ≡ true
part-inner [] h = cc
part-inner (b ∷ x) h =
    let w = and_parts (is_letter b) (list_all is_inner x) h in
    λ i. (ap (λ t. t || ((nat_le 48 b && nat_le b 57) || (b == 95))) w.0) i && w.1 i

no-part : (c x : List ℕ) → is_part (c ++ 46 ∷ x) ≡ true → ⊥
no-part c x h = let e = all-left is_inner c (46 ∷ x) (part-inner (c ++ 46 ∷ x) h) in cc

no-signs : (c x : List ℕ) → is_operator (c ++ 46 ∷ x) ≡ true → ⊥
no-signs [] x h = cc
no-signs (b ∷ c) x h = let e =
    all-left is_sign (b ∷ c) (46 ∷ x) (and_parts (list_all is_sign (b ∷ (c ++ 46 ∷ x))) _ h).0 in cc

no-short : (t : Symbol Name) (c x : List ℕ) → base (symbol_name t) ≡ c ++ 46 ∷ x → is_short t ≡ true → ⊥
no-short (ConSymbol n) c x e h = go (is_part (base n)) refl h where
  go : (b : Bool) → is_part (base n) ≡ b → (b || is_operator (base n)) ≡ true → ⊥
  go true p k = no-part c x (ap is_part (sym e) ∙ p)
  go false p k = no-signs c x (ap is_operator (sym e) ∙ k)
no-short (OpSymbol n) c x e h = no-part c x (ap is_part (sym e) ∙ h)

pub not-taken : (h : List (Symbol Name)) → IsNotation h → (s : Symbol Name) (c d : List ℕ) (ds : Name)
    → is_taken h s (dotted (c ∷ d ∷ ds)) ≡ false
not-taken h nt s c d ds = go (is_taken h s (dotted (c ∷ d ∷ ds))) refl where
  go : (b : Bool) → is_taken h s (dotted (c ∷ d ∷ ds)) ≡ b → b ≡ false
  go true e = let w = taken-base h s (dotted (c ∷ d ∷ ds)) e in
      absurd (no-short w.symbol c (dotted (d ∷ ds)) (sym w.base_is) (nt.short w.symbol w.hides))
  go false e = refl

-- no name of one component, as the code sees it
pub several-taken : {X : Type 0} (f : X → List ℕ) (h : List (Symbol Name)) → IsNotation h
    → (s : Symbol Name) (n : Name) (xs : List X) → map f xs ≡ n → 0 < length xs → ((x : X) → xs ≡ x ∷ [] → ⊥)
    → is_taken h s (dotted n) ≡ false
several-taken f h nt s n [] e k w = absurd (omega arith)
several-taken f h nt s n (x ∷ []) e k w = absurd (w x refl)
several-taken f h nt s n (x ∷ y ∷ xs) e k w = ap (λ z. is_taken h s (dotted z)) (sym e)
    ∙ not-taken h nt s (f x) (f y) (map f xs)

pub any-map : {X Y : Type 0} (p : Y → Bool) (f : X → Y) (xs : List X) → list_any (λ x. p (f x)) xs
    ≡ list_any p (map f xs)
any-map p f [] = refl
any-map p f (x ∷ xs) = ap (λ b. p (f x) || b) (any-map p f xs)

-- ---- over the code's list, from the front
pub name-of : (k : WordKind) (n : Name) → symbol_name (symbol_of (k, n)) ≡ n
name-of kinds.Con n = refl
name-of kinds.TyOp n = refl

-- ---- a text of one component is looked up
pub single-settled : {X : Type 0} (f : X → List ℕ) (h : List (Symbol Name)) (k : WordKind) (n m : Name) (x : X)
    → map f (x ∷ []) ≡ n → with_base h (symbol_of (k, [])) (f x) ≡ Some m → m ≡ settled h (λ j. symbol_of (k, j)) n
single-settled f h k n m x e w = sym (ap (λ o. unwrap_or o (f x ∷ [])) (based-kind h k (f x ∷ []) [] (f x) ∙ w))
    ∙ ap (settled h (λ j. symbol_of (k, j))) e

pub single-kept : {X : Type 0} (f : X → List ℕ) (h : List (Symbol Name)) (k : WordKind) (n : Name) (x : X)
    → map f (x ∷ []) ≡ n → with_base h (symbol_of (k, [])) (f x) ≡ None → n ≡ settled h (λ j. symbol_of (k, j)) n
single-kept f h k n x e w = sym e ∙ sym (ap (λ o. unwrap_or o (f x ∷ [])) (based-kind h k (f x ∷ []) [] (f x) ∙ w))
    ∙ ap (settled h (λ j. symbol_of (k, j))) e

pub one-item : {X : Type 0} (xs : List X) (x : X) → 1 ≤ length xs → length xs < 2 → x ≡ get_or xs 0 x → xs ≡ x ∷ []
one-item [] x h k e = absurd (omega (arith, h))
one-item (y ∷ []) x h k e = ap (λ z. z ∷ []) (sym e)
one-item (y ∷ z ∷ xs) x h k e = absurd (omega (arith, k))

pub ended-other : (x : List ℕ) (n : Name) (cs : List (List ℕ × Name)) → 0 < length x → ended ((x, n) ∷ cs) ≡ ended cs
ended-other [] n cs h = absurd (omega (arith, h))
ended-other (b ∷ x) n cs h = refl
