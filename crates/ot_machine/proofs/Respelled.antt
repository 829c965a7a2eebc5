-- A name that a line spells can be said by a line.
use Rattle.std.proofs.Common.{◌≡◌, ℕ, ◌<◌, ◌≤◌, ◌⊎◌, inl, inr, List, [], ◌∷◌, ◌++◌}
use Rattle.std.proofs.Common.{length, map, refl, sym, ap, subst, arith, length-append}
use Rattle.std.specs.List.{flat_map, AllByRecursion}
use Rattle.std.proofs.lemmas.Bool.Decides.{eqb_tells}
use Rattle.std.proofs.lemmas.List.{length-map}
use Rattle.ot_logic.specs.Lists.{IsMember}
use Rattle.ot_logic.specs.Names.{Name, Spells, Item, Plain, Escaped, item_text}
use Rattle.ot_logic.specs.Names.{item_byte, item_of, IsItem, joined, spelled}
use Rattle.ot_scan.specs.Lines.{IsLineText}
use Rattle.ot_machine.specs.Writable.{IsWritable}
use Rattle.ot_logic.proofs.Members.{IsMember-cases, IsMember-left, IsMember-right}

-- ---- a spelling without needless backslashes
-- a byte with a backslash, or without
of-cases : (b : ℕ) → (item_of b ≡ Escaped b) ⊎ (item_of b ≡ Plain b)
of-cases b = elim (eqb_tells b 34) [
  | inl e ↦ inl (rw e.0 refl)
  | inr n ↦ elim (eqb_tells b 92) [
    | inl e ↦ inl (rw (n.0, e.0) refl)
    | inr m ↦ elim (eqb_tells b 46) [ inl e ↦ inl (rw (n.0, m.0, e.0) refl) | inr o ↦ inr (rw (n.0, m.0, o.0) refl) ]
  ]
]

plain-of : (b : ℕ) → IsItem (Plain b) → item_of b ≡ Plain b
plain-of b h = elim (eqb_tells b 34) [
  | inl e ↦ absurd (h.0 e.1)
  | inr n ↦ elim (eqb_tells b 92) [
    | inl e ↦ absurd (h.1 e.1)
    | inr m ↦ elim (eqb_tells b 46) [ inl e ↦ absurd (h.2 e.1) | inr o ↦ rw (n.0, m.0, o.0) refl ]
  ]
]

abbrev again : Item → Item
again i = item_of (item_byte i)

item-short : (i : Item) → IsItem i → length (item_text (again i)) ≤ length (item_text i)
item-short (Plain b) h = let e = ap (λ j. length (item_text j)) (plain-of b h) in omega arith
item-short (Escaped b) h = elim (of-cases b) [
  | inl e ↦ (let f : length (item_text (item_of b)) ≡ 2 = ap (λ j. length (item_text j)) e in omega arith)
  | inr e ↦ (let f : length (item_text (item_of b)) ≡ 1 = ap (λ j. length (item_text j)) e in omega arith)
]

item-broken : (i : Item) → IsItem i → IsMember 10 (item_text (again i)) → IsMember 10 (item_text i)
item-broken (Plain b) h m = subst (λ j. IsMember 10 (item_text j)) (plain-of b h) m
item-broken (Escaped b) h m = elim (of-cases b) [
  | inl e ↦ subst (λ j. IsMember 10 (item_text j)) e m
  | inr e ↦ inr (subst (λ j. IsMember 10 (item_text j)) e m)
]

abbrev respelled : List Item → List Item
respelled is = map item_of (map item_byte is)

part-short : (is : List Item) → AllByRecursion IsItem is → length (flat_map item_text (respelled is))
    ≤ length (flat_map item_text is)
part-short [] h = omega arith
part-short (i ∷ is) h =
    let a = item-short i h.0 in
    let b = part-short is h.1 in
    let c = length-append (item_text (again i)) (flat_map item_text (respelled is)) in
    let d = length-append (item_text i) (flat_map item_text is) in
    omega arith

part-broken : (is : List Item) → AllByRecursion IsItem is → IsMember 10 (flat_map item_text (respelled is))
    → IsMember 10 (flat_map item_text is)
part-broken [] h m = elim m [ ]
part-broken (i ∷ is) h m = elim (IsMember-cases 10 (item_text (again i)) (flat_map item_text (respelled is)) m) [
  | inl a ↦ IsMember-left 10 (item_text i) (flat_map item_text is) (item-broken i h.0 a)
  | inr b ↦ IsMember-right 10 (item_text i) (flat_map item_text is) (part-broken is h.1 b)
]

abbrev names_of : List (List Item) → List (List Item)
names_of cs = map (map item_of) (map (map item_byte) cs)

joined-short : (cs : List (List Item)) → AllByRecursion (AllByRecursion IsItem) cs → length (joined (names_of cs))
    ≤ length (joined cs)
joined-short [] h = omega arith
joined-short (c ∷ []) h = part-short c h.0
joined-short (c ∷ d ∷ cs) h =
    let a = part-short c h.0 in
    let b = joined-short (d ∷ cs) h.1 in
    let e = length-append (flat_map item_text (respelled c)) (46 ∷ joined (names_of (d ∷ cs))) in
    let f = length-append (flat_map item_text c) (46 ∷ joined (d ∷ cs)) in
    omega arith

joined-broken : (cs : List (List Item)) → AllByRecursion (AllByRecursion IsItem) cs
    → IsMember 10 (joined (names_of cs)) → IsMember 10 (joined cs)
joined-broken [] h m = elim m [ ]
joined-broken (c ∷ []) h m = part-broken c h.0 m
joined-broken (c ∷ d ∷ cs) h m =
    elim (IsMember-cases 10 (flat_map item_text (respelled c)) (46 ∷ joined (names_of (d ∷ cs))) m) [
      | inl a ↦ IsMember-left 10 (flat_map item_text c) (46 ∷ joined (d ∷ cs)) (part-broken c h.0 a)
      | inr b ↦ IsMember-right 10 (flat_map item_text c) (46 ∷ joined (d ∷ cs))
          (elim b [ inl e ↦ inl e | inr n ↦ inr (joined-broken (d ∷ cs) h.1 n) ])
    ]

pub name-of-line : (text : List ℕ) (n : Name) → Spells text n → IsLineText text → IsWritable n
name-of-line text n s line =
    let short : length text ≤ 65535 = line.short in
    let is : List (List Item) = s.items in
    let spelling_is : spelled n ≡ 34 ∷ joined (names_of is) ++ 34 ∷ [] = ap spelled s.name_is in
    let a = joined-short is s.each in
    let b = length-append (joined (names_of is)) (34 ∷ []) in
    let c = length-append (joined is) (34 ∷ []) in
    let d : length text ≡ length (34 ∷ joined is ++ 34 ∷ []) = ap length s.text_is in
    let e : length (spelled n) ≡ length (34 ∷ joined (names_of is) ++ 34 ∷ []) = ap length spelling_is in
    let some : 0 < length is = s.some in
    let f : length n ≡ length (map (map item_byte) is) = ap length s.name_is in
    let g : length (map (map item_byte) is) ≡ length is = length-map is (map item_byte) in
    record {
      named = omega arith;
      line = record {
        short = omega arith;
        one = λ m. line.one
            (subst (λ l. IsMember 10 l) (sym s.text_is) (back is s.each (subst (λ l. IsMember 10 l) spelling_is m)));
      };
    }
  where
    back : (is : List (List Item)) → AllByRecursion (AllByRecursion IsItem) is
        → IsMember 10 (34 ∷ joined (names_of is) ++ 34 ∷ []) → IsMember 10 (34 ∷ joined is ++ 34 ∷ [])
    back is h (inl e) = inl e
    back is h (inr m) = elim (IsMember-cases 10 (joined (names_of is)) (34 ∷ []) m) [
      | inl a ↦ inr (IsMember-left 10 (joined is) (34 ∷ []) (joined-broken is h a))
      | inr b ↦ inr (IsMember-right 10 (joined is) (34 ∷ []) b)
    ]
