-- What a number stands for, in a table that grows.
use Rattle.std.proofs.Common.{◌≡◌, ℕ, ◌<◌, List, [], ◌∷◌, length, Some, refl, sym, ap, ◌∙◌}
use Rattle.std.specs.List.{All}
use Rattle.std.proofs.lemmas.Option.{get_or_from_slice_get, slice_get_within}
use Rattle.std.proofs.lemmas.List.Elements.{All-head, All-tail}
use Rattle.ot_logic.specs.Names.{Name}
use Rattle.ot_logic.specs.Trees.{Ty, Tm}
use Rattle.ot_logic.specs.Table.{Extends, IsInjective}
use Rattle.ot_log_nodes.specs.Items.{Item, NameItem, TypeItem, TermItem, as_name, as_type, as_term, IsName, IsType}
use Rattle.ot_log_nodes.specs.Items.{IsTerm, HasName, HasType, HasTerm, name_at, type_at, term_at, types_at}

-- the name, the type, the term of a number
pub name-is : (ts : List Item) (i : ℕ) (n : Name) → IsName ts i n → name_at ts i ≡ n
name-is ts i n h = ap as_name (get_or_from_slice_get ts i (NameItem n) (NameItem []) h)

pub type-is : (ts : List Item) (i : ℕ) (t : Ty Name) → IsType ts i t → type_at ts i ≡ t
type-is ts i t h = ap as_type (get_or_from_slice_get ts i (TypeItem t) (NameItem []) h)

pub term-is : (ts : List Item) (i : ℕ) (t : Tm Name) → IsTerm ts i t → term_at ts i ≡ t
term-is ts i t h = ap as_term (get_or_from_slice_get ts i (TermItem t) (NameItem []) h)

pub has-name : (ts : List Item) (i : ℕ) (n : Name) → IsName ts i n → HasName ts i
has-name ts i n h = h ∙ ap (λ m. Some (NameItem m)) (sym (name-is ts i n h))

pub has-type : (ts : List Item) (i : ℕ) (t : Ty Name) → IsType ts i t → HasType ts i
has-type ts i t h = h ∙ ap (λ m. Some (TypeItem m)) (sym (type-is ts i t h))

pub has-term : (ts : List Item) (i : ℕ) (t : Tm Name) → IsTerm ts i t → HasTerm ts i
has-term ts i t h = h ∙ ap (λ m. Some (TermItem m)) (sym (term-is ts i t h))

-- a number of a table has its place
pub name-within : (ts : List Item) (i : ℕ) → HasName ts i → i < length ts
name-within ts i h = slice_get_within ts i _ h

pub type-within : (ts : List Item) (i : ℕ) → HasType ts i → i < length ts
type-within ts i h = slice_get_within ts i _ h

pub term-within : (ts : List Item) (i : ℕ) → HasTerm ts i → i < length ts
term-within ts i h = slice_get_within ts i _ h

-- ---- a table that grows
module _ (ts us : List Item) (e : Extends ts us) where
  pub name-stays : (i : ℕ) → HasName ts i → name_at us i ≡ name_at ts i
  name-stays i h = name-is us i (name_at ts i) (e.keeps i _ h)

  pub type-stays : (i : ℕ) → HasType ts i → type_at us i ≡ type_at ts i
  type-stays i h = type-is us i (type_at ts i) (e.keeps i _ h)

  pub term-stays : (i : ℕ) → HasTerm ts i → term_at us i ≡ term_at ts i
  term-stays i h = term-is us i (term_at ts i) (e.keeps i _ h)

  pub still-name : (i : ℕ) → HasName ts i → HasName us i
  still-name i h = has-name us i (name_at ts i) (e.keeps i _ h)

  pub still-type : (i : ℕ) → HasType ts i → HasType us i
  still-type i h = has-type us i (type_at ts i) (e.keeps i _ h)

  pub still-term : (i : ℕ) → HasTerm ts i → HasTerm us i
  still-term i h = has-term us i (term_at ts i) (e.keeps i _ h)

  pub types-stay : (is : List ℕ) → All (HasType ts) is → types_at us is ≡ types_at ts is
  types-stay [] h = refl
  types-stay (i ∷ is) h =
      let head = type-stays i (All-head (HasType ts) i is h) in
      let tail = types-stay is (All-tail (HasType ts) i is h) in
      cc

  pub still-types : (is : List ℕ) → All (HasType ts) is → All (HasType us) is
  still-types is h = λ k d within. still-type _ (h k d within)

-- ---- each thing has one number
module _ (ts : List Item) (one : IsInjective ts) where
  pub name-one : (i j : ℕ) → HasName ts i → HasName ts j → name_at ts i ≡ name_at ts j → i ≡ j
  name-one i j g h e = one.same i j _ g (h ∙ ap (λ n. Some (NameItem n)) (sym e))

  pub type-one : (i j : ℕ) → HasType ts i → HasType ts j → type_at ts i ≡ type_at ts j → i ≡ j
  type-one i j g h e = one.same i j _ g (h ∙ ap (λ n. Some (TypeItem n)) (sym e))

  pub term-one : (i j : ℕ) → HasTerm ts i → HasTerm ts j → term_at ts i ≡ term_at ts j → i ≡ j
  term-one i j g h e = one.same i j _ g (h ∙ ap (λ n. Some (TermItem n)) (sym e))

  pub types-one : (is js : List ℕ) → All (HasType ts) is → All (HasType ts) js → types_at ts is ≡ types_at ts js
      → is ≡ js
  types-one [] [] g h p = refl
  types-one [] (j ∷ js) g h p = cc
  types-one (i ∷ is) [] g h p = cc
  types-one (i ∷ is) (j ∷ js) g h p =
      let heads : type_at ts i ≡ type_at ts j = cc in
      let tails : types_at ts is ≡ types_at ts js = cc in
      let head : i ≡ j = type-one i j (All-head (HasType ts) i is g) (All-head (HasType ts) j js h) heads in
      let tail = types-one is js (All-tail (HasType ts) i is g) (All-tail (HasType ts) j js h) tails in
      cc
