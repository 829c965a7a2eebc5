-- What the code's values stand for, and what is kept of their types.
use Rattle.std.specs.Prelude.{◌≡◌, ℕ, suc, max, min, Bool, false}
use Rattle.std.specs.Prelude.{slice_get, Option, Some, None, Result, Ok, Err}
use Rattle.ot_logic.specs.Names.{Name}
use Rattle.ot_logic.specs.Naming.{names}
use Rattle.ot_logic.specs.Trees.{Ty, Tm, App}
use Rattle.ot_logic.specs.Hol.{bool_ty, type_in, depth_tm, depth_limit, has_shallow_types}
use Rattle.ot_logic.specs.declared.memory.Memory.{Memory}
use Rattle.ot_forms.specs.Meaning.{Around, types_around, is_typed}
use Rattle.ot_parse.specs.declared.values.Value.{Value}
use Rattle.ot_parse.specs.declared.values.Meant.{Meant as Part}
use Rattle.ot_parse.specs.declared.values.Meant.TheVariants as parts
use Rattle.ot_logic.specs.PlainTrees.{type_of_tree, term_of_tree}
use Rattle.ot_parse.specs.Meant.{Meaning, wholly}

-- the depth over two parts, no more than one past the nesting limit
abbrev pub deeper : ℕ → ℕ → ℕ
deeper a b = min (suc (max a b)) (suc depth_limit)

-- what a value keeps of its term, under these abstractions
pub record IsValue (l : Around) (v : Value) : Type 0 where
  pub typed : type_in names (types_around l) (term_of_tree v.term) ≡ Some (type_of_tree v.ty)
  pub depth : v.depth ≡ min (depth_tm names (term_of_tree v.term)) (suc depth_limit)
  pub shallow : v.has_shallow_types ≡ has_shallow_types names (types_around l) (term_of_tree v.term)

-- the abstraction of this number is over a variable of this type
abbrev pub IsBoundTo : Around → ℕ → Ty Name → Type 0
IsBoundTo l k t = slice_get (types_around l) k ≡ Some t

abbrev pub IsMeant : Around → Part → Type 0
IsMeant l (parts.Value v) = IsValue l v
IsMeant l (parts.Wrong k f) = Unit {0}

abbrev pub meant_of : Part → Meaning
meant_of (parts.Value v) = Ok (term_of_tree v.term)
meant_of (parts.Wrong k f) = Err (k, f)

-- a proposition, unless it is wrong
abbrev pub IsProposition : Part → Type 0
IsProposition (parts.Value v) = type_of_tree v.ty ≡ bool_ty names
IsProposition (parts.Wrong k f) = Unit {0}

-- the code's part has this meaning
pub record Means (l : Around) (m : Meaning) (p : Part) : Type 0 where
  pub means : meant_of p ≡ m
  pub kept : IsMeant l p

abbrev pub IsWholly : Around → Bool → ℕ → Meaning → Part → Type 0
IsWholly l wanted k m p = Means l (wholly l wanted k m) p

abbrev pub IsMade : Around → Meaning → Result Part Memory → Type 0
IsMade l m (Ok p) = Means l m p
IsMade l m (Err e) = Unit {0}

-- a term, unless it has no type
abbrev pub IsRelated : Around → Tm Name → Result (Option Value) Memory → Type 0
IsRelated l t (Ok (Some v)) = (term_of_tree v.term ≡ t) × IsValue l v
IsRelated l t (Ok None) = is_typed l t ≡ false
IsRelated l t (Err e) = Unit {0}

abbrev pub IsApplied : Around → Tm Name → Tm Name → Result (Option Value) Memory → Type 0
IsApplied l f x = IsRelated l (App f x)

-- an application of this type
pub record IsAppliedAs (l : Around) (f x : Tm Name) (t : Ty Name) (v : Value) : Type 0 where
  pub term : term_of_tree v.term ≡ App f x
  pub type : type_of_tree v.ty ≡ t
  pub kept : IsValue l v
