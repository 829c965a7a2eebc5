-- Types of nameless terms under binders, and what is remembered of them.
use Rattle.std.specs.Prelude.{◌≡◌, ◌&&◌, ℕ, Bool, true, false, nat_eq, nat_le, List, map, Option, None, Some}
use Rattle.std.specs.Map.{lookup}
use Rattle.ot_logic.specs.Names.{Name}
use Rattle.ot_logic.specs.Naming.{names}
use Rattle.ot_logic.specs.Trees.{Ty, Tm, Free, Con, Bound, App, Abs}
use Rattle.ot_logic.specs.Hol.{type_in, depth_ty}
use Rattle.ot_log_format.specs.Steps.{log_depth, has_types_within}
use Rattle.ot_log_nodes.specs.Items.{Item, HasType, HasTerm, type_at, term_at}
use Rattle.ot_log_nodes.specs.Lists.{types_of, AreBinders}
use Rattle.ot_log_nodes.specs.Places.{ArePlaceTables}
use Rattle.ot_log_nodes.specs.declared.table.typing.Typed.{Typed}
use Rattle.ot_log_nodes.specs.declared.table.typing.Scope.{Scope}
use Rattle.ot_log_nodes.specs.declared.table.typing.Entries.{Entries}

-- whether the term has no parts
abbrev pub is_leaf : Tm Name → Bool
is_leaf (Free v) = true
is_leaf (Con n t) = true
is_leaf (Bound j) = true
is_leaf (App f x) = false
is_leaf (Abs t b) = false

-- the types of the numbers
abbrev pub binders_at : List Item → List ℕ → List (Ty Name)
binders_at ts is = map (type_at ts) is

-- the type of the term under binders, and whether the type of each part is within the limit
pub record HasTyping (ts : List Item) (l : List (Ty Name)) (t : Tm Name) (r : Typed) : Type 0 where
  pub number : HasType ts r.ty
  pub type : type_in names l t ≡ Some (type_at ts r.ty)
  pub parts : r.within ≡ has_types_within names l t

-- or it has no type
abbrev pub IsTyping : List Item → List (Ty Name) → Tm Name → Option Typed → Type 0
IsTyping ts l t None = type_in names l t ≡ None
IsTyping ts l t (Some r) = HasTyping ts l t r

-- the typing of a term of this type, whose parts are so
pub record IsTyped (ts : List Item) (ty : ℕ) (parts_within : Bool) (r : Typed) : Type 0 where
  pub number : r.ty ≡ ty
  pub all : r.within ≡ (nat_le (depth_ty names (type_at ts ty)) log_depth && parts_within)

-- under these binders the term has the same type, and so have its parts
pub record IsCut (ts : List Item) (l : List (Ty Name)) (t : Tm Name) (is : List ℕ) : Type 0 where
  pub type : type_in names (binders_at ts is) t ≡ type_in names l t
  pub parts : has_types_within names (binders_at ts is) t ≡ has_types_within names l t

-- whether two terms under binders are one
abbrev pub same_scope : Scope → Scope → Bool
same_scope s r = nat_eq s.id r.id && nat_eq s.binders r.binders

-- the typing is that of the term under the binders
pub record IsTypingOf (ts : List Item) (ls : List (List (ℕ × ℕ))) (s : Scope) (r : Typed) : Type 0 where
  pub term : HasTerm ts s.id
  pub binders : AreBinders ts ls s.binders
  pub typing : HasTyping ts (binders_at ts (types_of ls s.binders)) (term_at ts s.id) r

-- each typing that is kept is that of its term
pub record AreTypings (ts : List Item) (e : Entries) : Type 0 where
  pub places : ArePlaceTables ts e.lists e.places
  pub known : (s : Scope) (r : Typed) → lookup (same_scope s) e.types.entries ≡ Some r → IsTypingOf ts e.lists s r
