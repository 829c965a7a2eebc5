-- A bare word goes on to one that is no hidden symbol's.
use Rattle.std.specs.Prelude.{◌≡◌, ◌≤◌, ℕ, zero, suc, ◌+◌, ◌||◌, Bool, true, false, List, [], ◌∷◌, ◌++◌, length}
use Rattle.std.specs.List.{list_all}
use Rattle.std.proofs.Common.{refl, ◌∙◌, ap, append_assoc, length-append, arith}
use Rattle.std.proofs.lemmas.Bool.{and_parts, and_from}
use Rattle.ot_logic.specs.Names.{Name, IsName, same_name, same_name-Decides}
use Rattle.ot_logic.specs.Trees.{Symbol}
use Rattle.ot_forms.specs.Words.{is_letter, is_inner, is_part, is_bare, dotted, base}
use Rattle.ot_forms.specs.Words.{symbol_name, same_kind, same_symbol, is_hidden}

abbrev pub letters : ℕ → List ℕ
letters zero = []
letters (suc n) = 97 ∷ letters n

length-letters : (n : ℕ) → length (letters n) ≡ n
length-letters zero = refl
length-letters (suc n) = let e = length-letters n in omega (arith, e)

-- letters more at the end of the last component
abbrev pub padded : ℕ → Name → Name
padded n [] = []
padded n (c ∷ []) = (c ++ letters n) ∷ []
padded n (c ∷ d ∷ ds) = c ∷ padded n (d ∷ ds)

inner-letters : (c : List ℕ) (n : ℕ) → list_all is_inner c ≡ true → list_all is_inner (c ++ letters n) ≡ true
inner-letters [] zero h = refl
inner-letters [] (suc n) h = inner-letters [] n refl
inner-letters (b ∷ c) n h = let w = and_parts (is_inner b) (list_all is_inner c) h in
    and_from (is_inner b) (list_all is_inner (c ++ letters n)) w.0 (inner-letters c n w.1)

part-letters : (c : List ℕ) (n : ℕ) → is_part c ≡ true → is_part (c ++ letters n) ≡ true
part-letters [] n h = cc
part-letters (b ∷ c) n h = let w = and_parts (is_letter b) (list_all is_inner c) h in
    and_from (is_letter b) (list_all is_inner (c ++ letters n)) w.0 (inner-letters c n w.1)

pub bare-padded : (n : ℕ) (m : Name) → is_bare m ≡ true → is_bare (padded n m) ≡ true
bare-padded n [] h = refl
bare-padded n (c ∷ []) h = let w = and_parts (is_part c) true h in
    and_from (is_part (c ++ letters n)) true (part-letters c n w.0) refl
bare-padded n (c ∷ d ∷ ds) h = let w = and_parts (is_part c) (is_bare (d ∷ ds)) h in
    and_from (is_part c) (is_bare (padded n (d ∷ ds))) w.0 (bare-padded n (d ∷ ds) w.1)

pub named-padded : (n : ℕ) (m : Name) → IsName m → IsName (padded n m)
named-padded n [] h = h
named-padded n (c ∷ []) h = omega arith
named-padded n (c ∷ d ∷ ds) h = omega arith

pub dotted-padded : (n : ℕ) (m : Name) → IsName m → dotted m ++ letters n ≡ dotted (padded n m)
dotted-padded n [] h = absurd (omega arith)
dotted-padded n (c ∷ []) h = refl
dotted-padded n (c ∷ d ∷ []) h = append_assoc c (46 ∷ d) (letters n)
dotted-padded n (c ∷ d ∷ e ∷ es) h = append_assoc c (46 ∷ dotted (d ∷ e ∷ es)) (letters n)
    ∙ ap (λ z. c ++ 46 ∷ z) (dotted-padded n (d ∷ e ∷ es) (omega arith))

base-padded : (n : ℕ) (m : Name) → IsName m → n ≤ length (base (padded n m))
base-padded n [] h = absurd (omega arith)
base-padded n (c ∷ []) h = let e = length-append c (letters n) in let f = length-letters n in omega (arith, e, f)
base-padded n (c ∷ d ∷ []) h = base-padded n (d ∷ []) (omega arith)
base-padded n (c ∷ d ∷ e ∷ es) h = base-padded n (d ∷ e ∷ es) (omega arith)

-- no base name of a hidden symbol is as long
abbrev pub base_bytes : List (Symbol Name) → ℕ
base_bytes [] = 0
base_bytes (t ∷ h) = length (base (symbol_name t)) + base_bytes h

hidden-within : (h : List (Symbol Name)) (s : Symbol Name) → is_hidden h s ≡ true → length (base (symbol_name s))
    ≤ base_bytes h
hidden-within [] s e = cc
hidden-within (t ∷ h) s e = go (hidden-within h s) (same_symbol s t) refl e where
  go : (is_hidden h s ≡ true → length (base (symbol_name s)) ≤ base_bytes h) → (b : Bool) → same_symbol s t ≡ b
      → (b || is_hidden h s) ≡ true → length (base (symbol_name s)) ≤ base_bytes (t ∷ h)
  go ih true q k =
      let w = and_parts (same_kind s t) (same_name (symbol_name s) (symbol_name t)) q in
      let p : length (base (symbol_name s)) ≡ length (base (symbol_name t)) =
      ap (λ n. length (base n)) ((same_name-Decides (symbol_name s) (symbol_name t)).0 w.1) in
      omega arith
  go ih false q k = let w = ih k in omega (arith, w)

-- with so many letters it isn't hidden
pub not-hidden : (h : List (Symbol Name)) (kind : Name → Symbol Name) (m : Name)
    → ((n : Name) → symbol_name (kind n) ≡ n) → IsName m → is_hidden h (kind (padded (suc (base_bytes h)) m)) ≡ false
not-hidden h kind m of_kind hm = go (is_hidden h (kind (padded (suc (base_bytes h)) m))) refl where
  go : (b : Bool) → is_hidden h (kind (padded (suc (base_bytes h)) m)) ≡ b → b ≡ false
  go true e =
      let p = hidden-within h (kind (padded (suc (base_bytes h)) m)) e in
      let q : length (base (symbol_name (kind (padded (suc (base_bytes h)) m)))) ≡ length (base (padded (suc (base_bytes h)) m)) = ap (λ n. length (base n)) (of_kind (padded (suc (base_bytes h)) m)) in
      let r = base-padded (suc (base_bytes h)) m hm in
      absurd (omega (arith, p, q, r))
  go false e = refl
