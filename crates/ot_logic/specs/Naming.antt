-- What name a number stands for under a list of names.
use Rattle.std.specs.List.{All}
use Rattle.std.specs.Prelude.{codes, ◌≡◌, ℕ, zero, suc, nat_eq, cond, List, [], ◌∷◌, map, slice_get, Some}
use Rattle.ot_logic.specs.Lists.{AreDistinct}
use Rattle.ot_logic.specs.Names.{Name, same_name, IsName}
use Rattle.ot_logic.specs.Table.{Extends, IsInjective}
use Rattle.ot_logic.specs.Trees.{Alphabet}

-- names themselves, with the primitive symbols "->", "bool" and "="
abbrev pub names : Alphabet Name
names = record {
  same = same_name;
  arrow = (45 ∷ 62 ∷ []) ∷ [];
  bool_name = (98 ∷ 111 ∷ 111 ∷ 108 ∷ []) ∷ [];
  equals = (61 ∷ []) ∷ [];
}

-- numbers of names: the first three are the primitive symbols
abbrev pub numbers : Alphabet ℕ
numbers = record { same = nat_eq; arrow = 0; bool_name = 1; equals = 2 }

-- ---- every number has a name, and every name one number
-- the list after xs, in an order in which each list comes once
unfoldable pub longer : List ℕ → List ℕ
longer [] = []
longer (y ∷ ys) = suc y ∷ ys

unfoldable pub next : List ℕ → List ℕ
next [] = 0 ∷ []
next (zero ∷ xs) = longer (next xs)
next (suc x ∷ xs) = 0 ∷ x ∷ xs

unfoldable pub list_of : ℕ → List ℕ
list_of zero = []
list_of (suc n) = next (list_of n)

unfoldable pub swap : Name → Name → Name → Name
swap x y z = cond (same_name z x) y (cond (same_name z y) x z)

-- a naming g, changed so that the numbers from k on have the names ns
unfoldable pub settle : (ℕ → Name) → ℕ → List Name → ℕ → Name
settle g k [] = g
settle g k (n ∷ ns) = settle (λ i. swap (g k) n (g i)) (suc k) ns

-- the name of a number: its place in the list; a number outside has some other name, and each name one number
unfoldable pub name_of : List Name → ℕ → Name
name_of ns = settle (λ i. map list_of (list_of i)) 0 ns

-- distinct names that begin with the primitive symbols
pub record IsNames (ns : List Name) : Type 0 where
  pub distinct : AreDistinct ns
  pub arrow : slice_get ns 0 ≡ Some names.arrow
  pub bool_name : slice_get ns 1 ≡ Some names.bool_name
  pub equals : slice_get ns 2 ≡ Some names.equals

-- the names that have fixed numbers in each table: the primitive symbols, and the two variables of a defined type
abbrev pub first_names : List Name
first_names = (codes "->" ∷ []) ∷ (codes "bool" ∷ []) ∷ (codes "=" ∷ []) ∷ (codes "a" ∷ []) ∷ (codes "r" ∷ []) ∷ []

-- what holds of each table of names: each name once, each with a component, and the first names at their numbers
pub record IsNameTable (ns : List Name) : Type 0 where
  pub injective : IsInjective ns
  pub each : All IsName ns
  pub first : Extends first_names ns
