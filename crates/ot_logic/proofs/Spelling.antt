-- Laws of the spelling of a name.
use Rattle.std.proofs.Common.{◌≡◌, ◌≤◌, ◌-◌, ◌⊎◌, inl, inr, ℕ, List, [], ◌∷◌, ◌++◌, length, take, drop}
use Rattle.std.proofs.Common.{get_or, map, append_assoc, append-nil, sym, ap, subst, ◌∙◌, refl, arith}
use Rattle.std.specs.Prelude.{Some}
use Rattle.std.specs.List.{flat_map, AllByRecursion}
use Rattle.std.proofs.lemmas.Bool.Decides.{eqb_tells}
use Rattle.std.proofs.lemmas.List.{take_at, take-take, take_rest, length-append, length-map}
use Rattle.ot_logic.specs.Names.{Name, Item, Plain, Escaped, item_text, item_byte, item_of, further_text}
use Rattle.ot_logic.specs.Names.{IsItem, IsNeeded, IsName, joined, spelled, SpellsPlainly, KeepsFront}
use Rattle.ot_logic.specs.Reading.{name_read}
use Rattle.ot_logic.proofs.Reading.{spells-name_read}

-- ---- items

-- a byte that needs a backslash, or one that needs none
item_cases : (b : ℕ) → ((item_of b ≡ Escaped b) × IsNeeded (Escaped b)) ⊎ ((item_of b ≡ Plain b) × IsItem (Plain b))
item_cases b = elim (eqb_tells b 34) [
  | inl e ↦ inl (rw e.0 refl, inl e.1)
  | inr n ↦ elim (eqb_tells b 92) [
    | inl e ↦ inl (rw (n.0, e.0) refl, inr (inl e.1))
    | inr m ↦ elim (eqb_tells b 46) [
      | inl e ↦ inl (rw (n.0, m.0, e.0) refl, inr (inr e.1))
      | inr o ↦ inr (rw (n.0, m.0, o.0) refl, (n.1, m.1, o.1))
    ]
  ]
]

-- what needs a backslash does not stand for itself
needed_item : (b : ℕ) → IsNeeded (Escaped b) → IsItem (Plain b) → ⊥
needed_item b n h = elim n [ inl e ↦ h.0 e | inr m ↦ elim m [ inl e ↦ h.1 e | inr e ↦ h.2 e ] ]

one_item : (i : Item) → IsItem i → IsNeeded i → item_of (item_byte i) ≡ i
one_item (Plain b) h n = elim (item_cases b) [ inl p ↦ absurd (needed_item b p.1 h) | inr p ↦ p.0 ]
one_item (Escaped b) h n = elim (item_cases b) [ inl p ↦ p.0 | inr p ↦ absurd (needed_item b n p.1) ]

item-byte : (b : ℕ) → item_byte (item_of b) ≡ b
item-byte b = elim (item_cases b) [ inl p ↦ ap item_byte p.0 | inr p ↦ ap item_byte p.0 ]

item-IsItem : (b : ℕ) → IsItem (item_of b)
item-IsItem b = elim (item_cases b) [ inl p ↦ subst IsItem (sym p.0) tt | inr p ↦ subst IsItem (sym p.0) p.1 ]

item-IsNeeded : (b : ℕ) → IsNeeded (item_of b)
item-IsNeeded b = elim (item_cases b) [ inl p ↦ subst IsNeeded (sym p.0) p.1 | inr p ↦ subst IsNeeded (sym p.0) tt ]

-- ---- lists of them
map-each : {X Y : Type 0} (f : X → Y) (P : Y → Type 0) → ((x : X) → P (f x)) → (xs : List X)
    → AllByRecursion P (map f xs)
map-each f P h [] = tt
map-each f P h (x ∷ xs) = (h x, map-each f P h xs)

map-back : {X Y : Type 0} (f : X → Y) (g : Y → X) → ((x : X) → g (f x) ≡ x) → (xs : List X) → map g (map f xs) ≡ xs
map-back f g h [] = refl
map-back f g h (x ∷ xs) = let e = h x in let es = map-back f g h xs in cc

-- the same where the elements have two properties
map-back_at : {X Y : Type 0} (f : X → Y) (g : Y → X) (P Q : X → Type 0) → ((x : X) → P x → Q x → g (f x) ≡ x)
    → (xs : List X) → AllByRecursion P xs → AllByRecursion Q xs → map g (map f xs) ≡ xs
map-back_at f g P Q h [] p q = refl
map-back_at f g P Q h (x ∷ xs) p q = let e = h x p.0 q.0 in let es = map-back_at f g P Q h xs p.1 q.1 in cc

-- ---- the spelling

-- it spells the name
pub spelled-plain : (name : Name) → IsName name → SpellsPlainly (spelled name) name
spelled-plain name some = record {
  spells = record {
    items = map (map item_of) name;
    some = omega (arith, length-map name (map item_of));
    each = map-each (map item_of) (AllByRecursion IsItem) (map-each item_of IsItem item-IsItem) name;
    text_is = refl;
    name_is = sym (map-back (map item_of) (map item_byte) (map-back item_of item_byte item-byte) name);
  };
  needed = map-each (map item_of) (AllByRecursion IsNeeded) (map-each item_of IsNeeded item-IsNeeded) name;
}

-- no other text does so without a needless backslash
pub spelled-one : (text : List ℕ) (name : Name) → SpellsPlainly text name → text ≡ spelled name
spelled-one text name s =
    let back : map (map item_of) (map (map item_byte) s.spells.items) ≡ s.spells.items =
    map-back_at (map item_byte) (map item_of) (AllByRecursion IsItem) (AllByRecursion IsNeeded)
    (map-back_at item_byte item_of IsItem IsNeeded one_item) s.spells.items s.spells.each s.needed in
    s.spells.text_is ∙ ap (λ z. 34 ∷ joined z ++ 34 ∷ []) (sym back ∙ ap (map (map item_of)) (sym s.spells.name_is))

some-same : {X : Type 0} (x y : X) → Some x ≡ Some y → x ≡ y
some-same x y e = cc

-- no other name has it
pub spelled-apart : (a b : Name) → IsName a → IsName b → spelled a ≡ spelled b → a ≡ b
spelled-apart a b p q e =
    some-same a b (sym (spells-name_read (spelled a) a (spelled-plain a p).spells) ∙ ap name_read e
    ∙ spells-name_read (spelled b) b (spelled-plain b q).spells)

-- ---- the loops that write it

-- the first component, and each other behind a dot
pub joined-further : (c : List ℕ) (cs : Name) → joined (map (map item_of) (c ∷ cs))
    ≡ flat_map item_text (map item_of c) ++ flat_map further_text cs
joined-further c [] = sym (append-nil (flat_map item_text (map item_of c)))
joined-further c (d ∷ ds) = ap (λ z. flat_map item_text (map item_of c) ++ 46 ∷ z) (joined-further d ds)

-- the first component and the others, as the code writes them
pub joined-parts : {X : Type 0} (f : X → List ℕ) (xs : List X) (x : X) (old mid new : List ℕ) → 1 ≤ length xs
    → x ≡ get_or xs 0 x → mid ≡ old ++ flat_map item_text (map item_of (f x)) → new ≡ mid ++ flat_map further_text
    (map f (take (length xs - 1) (drop 1 xs))) → new ≡ old ++ joined (map (map item_of) (map f xs))
joined-parts f [] x old mid new some is e g = absurd (omega arith)
joined-parts f (y ∷ ys) x old mid new some is e g =
    g
    ∙ ap (λ z. z ++ flat_map further_text (map f (take (length (y ∷ ys) - 1) ys)))
    (e ∙ ap (λ z. old ++ flat_map item_text (map item_of (f z))) is)
    ∙ append_assoc old (flat_map item_text (map item_of (f y))) _
    ∙ ap (λ z. old ++ (flat_map item_text (map item_of (f y)) ++ flat_map further_text (map f z)))
    (take_rest (y ∷ ys) 1)
    ∙ ap (λ z. old ++ z) (sym (joined-further (f y) (map f ys)))

-- what keeps more keeps the front
pub KeepsFront-more : (old xs mid ys new : List ℕ) → mid ≡ old ++ xs → KeepsFront (mid ++ ys) new → KeepsFront old new
KeepsFront-more old xs mid ys new e h =
    let whole : mid ++ ys ≡ old ++ (xs ++ ys) = ap (λ z. z ++ ys) e ∙ append_assoc old xs ys in
    let le : length old ≤ length (mid ++ ys) = omega (arith, ap length whole, length-append old (xs ++ ys)) in
    sym (take-take (length old) (length (mid ++ ys)) new le) ∙ ap (take (length old)) (h ∙ whole)
    ∙ take_at old (xs ++ ys) (length old) refl
