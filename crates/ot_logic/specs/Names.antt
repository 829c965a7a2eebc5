-- Names, and the quoted texts that spell them.
use Rattle.std.specs.Prelude.{◌≡◌, ◌≢◌, ◌<◌, ◌==◌, ◌||◌, ◌⊎◌, ℕ, Bool, true, List, []}
use Rattle.std.specs.Prelude.{◌∷◌, ◌++◌, map, take, length, if◌then◌else◌, nat_eq, refl}
use Rattle.std.specs.List.{flat_map, AllByRecursion}
use Rattle.std.specs.Bool.{Decides}
use Rattle.std.specs.Hash as fed
use Rattle.std.specs.Cmp.Lexicographic.{pointwise}
use Rattle.std.proofs.Common.{ap}
use Rattle.std.proofs.lemmas.Slice.Eq.{slice_eq-Decides, bytes_eq-Decides}

-- a name: its components, each a list of bytes, the base name last
abbrev pub Name : Type 0
Name = List (List ℕ)

-- a name has a component
abbrev pub IsName : Name → Type 0
IsName n = 0 < length n

-- whether two names are one
abbrev pub same_name : Name → Name → Bool
same_name = pointwise (pointwise nat_eq)

pub same_name-Decides : (a b : Name) → Decides (same_name a b) (a ≡ b)
same_name-Decides a b = slice_eq-Decides bytes_eq-Decides a b (same_name a b) refl

-- equal names hash alike
pub same_name-hashes : (a b : Name) → same_name a b ≡ true → fed.slice (fed.slice fed.u8) a
    ≡ fed.slice (fed.slice fed.u8) b
same_name-hashes a b h = ap (fed.slice (fed.slice fed.u8)) ((same_name-Decides a b).0 h)

-- ---- spelling

-- a byte for itself, or behind a backslash
pub data Item : Type 0 where
  Plain : ℕ → Item
  Escaped : ℕ → Item

-- how an item is written
abbrev pub item_text : Item → List ℕ
item_text (Plain b) = b ∷ []
item_text (Escaped b) = 92 ∷ b ∷ []

-- the byte that an item stands for
abbrev pub item_byte : Item → ℕ
item_byte (Plain b) = b
item_byte (Escaped b) = b

-- a quote, a backslash and a dot don't stand for themselves
abbrev pub IsItem : Item → Type 0
IsItem (Plain b) = (b ≢ 34) × (b ≢ 92) × (b ≢ 46)
IsItem (Escaped b) = Unit {0}

-- component spellings with a dot between two
abbrev pub joined : List (List Item) → List ℕ
joined [] = []
joined (c ∷ []) = flat_map item_text c
joined (c ∷ d ∷ ds) = flat_map item_text c ++ 46 ∷ joined (d ∷ ds)

-- the text is a quote, component spellings joined by dots, and a quote, and they stand for the name's components
pub record Spells (text : List ℕ) (name : Name) : Type 0 where
  pub items : List (List Item)
  pub some : 0 < length items
  pub each : AllByRecursion (AllByRecursion IsItem) items
  pub text_is : text ≡ 34 ∷ joined items ++ 34 ∷ []
  pub name_is : name ≡ map (map item_byte) items

-- a front of the text that is shorter spells a name
abbrev pub HasShorter : List ℕ → Type 0
HasShorter text = (n : ℕ) × (n < length text) × (name : Name) × Spells (take n text) name

-- no front of the text spells a name
abbrev pub HasNone : List ℕ → Type 0
HasNone text = (n : ℕ) (name : Name) → Spells (take n text) name → ⊥

-- of the three answers no two hold of one text
pub record AreExclusive (text : List ℕ) : Type 0 where
  pub not_shorter : (name : Name) → Spells text name → HasShorter text → ⊥
  pub not_none : (name : Name) → Spells text name → HasNone text → ⊥
  pub shorter_not_none : HasShorter text → HasNone text → ⊥

-- one of them holds
abbrev pub HasAnswer : List ℕ → Type 0
HasAnswer text = ((name : Name) × Spells text name) ⊎ (HasShorter text ⊎ HasNone text)

-- a byte as an item that has a backslash only where it needs one
abbrev pub item_of : ℕ → Item
item_of b = if (b == 34) || ((b == 92) || (b == 46)) then Escaped b else Plain b

-- the one spelling of a name that has a backslash only before a quote, a backslash and a dot
abbrev pub spelled : Name → List ℕ
spelled n = 34 ∷ joined (map (map item_of) n) ++ 34 ∷ []

-- a component of a spelling behind the dot that stands before it
abbrev pub further_text : List ℕ → List ℕ
further_text c = 46 ∷ flat_map item_text (map item_of c)

-- a backslash stands only before a quote, a backslash or a dot
abbrev pub IsNeeded : Item → Type 0
IsNeeded (Plain b) = Unit {0}
IsNeeded (Escaped b) = (b ≡ 34) ⊎ ((b ≡ 92) ⊎ (b ≡ 46))

-- the text spells the name without a needless backslash
pub record SpellsPlainly (text : List ℕ) (name : Name) : Type 0 where
  pub spells : Spells text name
  pub needed : AllByRecursion (AllByRecursion IsNeeded) spells.items

-- the text that was there stands before what was added
abbrev pub KeepsFront : List ℕ → List ℕ → Type 0
KeepsFront old new = take (length old) new ≡ old
