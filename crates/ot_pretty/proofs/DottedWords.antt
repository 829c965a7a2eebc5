-- The words of symbols and variables, piece by piece.
use Rattle.std.specs.Prelude.{◌≡◌, ℕ, ◌+◌, ◌<◌, ◌≤◌, Bool, true, false, cond}
use Rattle.std.specs.Prelude.{not, ◌&&◌, List, [], ◌∷◌, ◌++◌, map, length, codes}
use Rattle.std.specs.Global.{Vec}
use Rattle.std.proofs.Common.{refl, sym, ◌∙◌, ap, append-nil, drop, get_or}
use Rattle.std.proofs.Math.ListN.{drop_of_length-le}
use Rattle.ot_logic.specs.Names.{Name, spelled}
use Rattle.ot_logic.specs.Trees.{Symbol}
use Rattle.ot_forms.specs.Words.{is_hidden, is_taken, is_bare, dotted, base, symbol_name, word}
use Rattle.ot_forms.specs.Reading.{is_spelled}
use Rattle.ot_text.specs.Separated.{separator}
use Rattle.ot_parse.specs.declared.notation.WordKind.{WordKind}
use Rattle.ot_parse.specs.Symbols.{symbol_of}
use Rattle.ot_parse.proofs.Lookups.{name-of}
use Rattle.ot_logic.proofs.Elements.{drop-item}

-- ---- the word of a symbol, by its kind and its name

-- the word, by the two tests
abbrev word_by : Bool → Bool → Name → List ℕ
word_by hidden taken n = cond hidden (base n) (cond (is_bare n && not taken) (dotted n) (spelled n))

-- what is bare where the word isn't the spelling
plain-by : (a b c : Bool) → a ≡ false → (not a && not b) ≡ c → b ≡ not c
plain-by true b c h g = absurd cc
plain-by false true c h g = ap not g
plain-by false false c h g = ap not g

module _ (hidden : List (Symbol Name)) (k : WordKind) (n : Name) where
  abbrev symbol : Symbol Name
  symbol = symbol_of (k, n)

  name-is : n ≡ symbol_name symbol
  name-is = sym (name-of k n)

  word-is : word_by (is_hidden hidden symbol) (is_taken hidden symbol (dotted n)) n ≡ word hidden symbol
  word-is = λ i. word_by (is_hidden hidden symbol) (is_taken hidden symbol (dotted (name-is i))) (name-is i)

  pub hidden-word : is_hidden hidden symbol ≡ true → base n ≡ word hidden symbol
  hidden-word h = ap (λ b. word_by b (is_taken hidden symbol (dotted n)) n) (sym h) ∙ word-is

  abbrev plain : Bool
  plain = is_bare n && not (is_taken hidden symbol (dotted n))

  spelled-is : is_spelled hidden symbol ≡ (not (is_hidden hidden symbol) && not plain)
  spelled-is = λ i. not (is_hidden hidden symbol)
      && not (is_bare (name-of k n i) && not (is_taken hidden symbol (dotted (name-of k n i))))

  word-so : (b : Bool) → is_hidden hidden symbol ≡ false → is_spelled hidden symbol ≡ b
      → cond (not b) (dotted n) (spelled n) ≡ word hidden symbol
  word-so b h g =
      ap (λ c. cond c (dotted n) (spelled n))
      (sym (plain-by (is_hidden hidden symbol) plain b h (sym spelled-is ∙ g)))
      ∙ ap (λ c. cond c (base n) (cond plain (dotted n) (spelled n))) (sym h) ∙ word-is

  pub spelled-word : is_hidden hidden symbol ≡ false → is_spelled hidden symbol ≡ true
      → spelled n ≡ word hidden symbol
  spelled-word h g = word-so true h g

  pub dotted-word : is_hidden hidden symbol ≡ false → is_spelled hidden symbol ≡ false → dotted n ≡ word hidden symbol
  dotted-word h g = word-so false h g

-- ---- components with a dot between two
abbrev pub bytes_of : Vec ℕ → List ℕ
bytes_of v = v.items

-- the components from the first or from a further one on
abbrev pub dotted_from : Bool → Name → List ℕ
dotted_from true n = dotted n
dotted_from false [] = []
dotted_from false (c ∷ cs) = 46 ∷ dotted (c ∷ cs)

dotted-first : (b : Bool) (c : List ℕ) (cs : Name) → dotted_from b (c ∷ cs) ≡ separator b (codes ".") ++ c
    ++ dotted_from false cs
dotted-first true c [] = sym (append-nil c)
dotted-first true c (d ∷ ds) = refl
dotted-first false c [] = sym (append-nil (46 ∷ c))
dotted-first false c (d ∷ ds) = refl

dotted-none : (b : Bool) → dotted_from b [] ≡ []
dotted-none true = refl
dotted-none false = refl

pub dotted-rest : (b : Bool) (cs : List (Vec ℕ)) (i : ℕ) (c : Vec ℕ) (text : List ℕ) → i < length cs
    → c ≡ get_or cs i c → text ≡ c.items
    → dotted_from b (map bytes_of (drop i cs)) ≡ separator b (codes ".") ++ text
    ++ dotted_from false (map bytes_of (drop (i + 1) cs))
dotted-rest b cs i c text h e p =
    ap (λ xs. dotted_from b (map bytes_of xs)) (drop-item cs i c h e)
    ∙ dotted-first b c.items (map bytes_of (drop (i + 1) cs))
    ∙ ap (λ x. separator b (codes ".") ++ x ++ dotted_from false (map bytes_of (drop (i + 1) cs))) (sym p)

pub dotted-end : (b : Bool) (cs : List (Vec ℕ)) (i : ℕ) → length cs ≤ i → dotted_from b (map bytes_of (drop i cs))
    ≡ []
dotted-end b cs i h = ap (λ xs. dotted_from b (map bytes_of xs)) (drop_of_length-le cs h) ∙ dotted-none b
