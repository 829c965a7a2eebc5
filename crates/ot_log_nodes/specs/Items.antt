-- What the numbers of the table stand for: names, types and nameless terms.
use Rattle.std.specs.Prelude.{◌≡◌, ℕ, List, [], ◌∷◌, slice_get, slice_index_or, Some, refl, ◌⊎◌}
use Rattle.std.specs.Coded.{Coded, code_by, coded⊎}
use Rattle.std.proofs.Common.{inl, inr}
use Rattle.ot_logic.specs.Names.{Name}
use Rattle.ot_logic.specs.Naming.{names}
use Rattle.ot_logic.specs.Trees.{Ty, Tys, TyVar, NoTys, MoreTys, Tm, Bound}
use Rattle.ot_logic.specs.Codes.{coded_name, coded_ty, coded_tm}

-- a name, a type or a nameless term
pub data Item : Type 0 where
  NameItem : Name → Item
  TypeItem : Ty Name → Item
  TermItem : Tm Name → Item

-- an item is stored as one of three
abbrev Parts : Type 0
Parts = Name ⊎ (Ty Name ⊎ Tm Name)

abbrev parts_of : Item → Parts
parts_of (NameItem n) = inl n
parts_of (TypeItem t) = inr (inl t)
parts_of (TermItem t) = inr (inr t)

abbrev item_of : Parts → Item
item_of (inl n) = NameItem n
item_of (inr (inl t)) = TypeItem t
item_of (inr (inr t)) = TermItem t

pub item_of-parts_of : (x : Item) → item_of (parts_of x) ≡ x
item_of-parts_of (NameItem n) = refl
item_of-parts_of (TypeItem t) = refl
item_of-parts_of (TermItem t) = refl

abbrev pub coded_item : Coded Item
coded_item = code_by Parts (coded⊎ coded_name (coded⊎ (coded_ty coded_name) (coded_tm coded_name))) parts_of item_of
    item_of-parts_of

-- ---- what a number stands for

abbrev pub IsName : List Item → ℕ → Name → Type 0
IsName ts i n = slice_get ts i ≡ Some (NameItem n)

abbrev pub IsType : List Item → ℕ → Ty Name → Type 0
IsType ts i t = slice_get ts i ≡ Some (TypeItem t)

abbrev pub IsTerm : List Item → ℕ → Tm Name → Type 0
IsTerm ts i t = slice_get ts i ≡ Some (TermItem t)

-- the name, the type and the term of a number that has one
abbrev pub as_name : Item → Name
as_name (NameItem n) = n
as_name _ = []

abbrev pub as_type : Item → Ty Name
as_type (TypeItem t) = t
as_type _ = TyVar []

abbrev pub as_term : Item → Tm Name
as_term (TermItem t) = t
as_term _ = Bound 0

abbrev pub name_at : List Item → ℕ → Name
name_at ts i = as_name (slice_index_or ts i (NameItem []))

abbrev pub type_at : List Item → ℕ → Ty Name
type_at ts i = as_type (slice_index_or ts i (NameItem []))

abbrev pub term_at : List Item → ℕ → Tm Name
term_at ts i = as_term (slice_index_or ts i (NameItem []))

-- the number is that of a name, of a type, of a term
abbrev pub HasName : List Item → ℕ → Type 0
HasName ts i = IsName ts i (name_at ts i)

abbrev pub HasType : List Item → ℕ → Type 0
HasType ts i = IsType ts i (type_at ts i)

abbrev pub HasTerm : List Item → ℕ → Type 0
HasTerm ts i = IsTerm ts i (term_at ts i)

-- the types of the numbers, one after another
abbrev pub types_at : List Item → List ℕ → Tys Name
types_at ts [] = NoTys
types_at ts (i ∷ is) = MoreTys (type_at ts i) (types_at ts is)

-- the names that have fixed numbers in each table
abbrev pub first_items : List Item
first_items = NameItem names.arrow ∷ NameItem names.bool_name ∷ NameItem names.equals ∷ []
