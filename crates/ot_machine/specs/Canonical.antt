-- The canonical origins of types and terms of a kernel, in a session that grows.
use Rattle.std.specs.Prelude.{◌≡◌, ◌<◌, ◌&&◌, ℕ, suc, Bool, nat_eq, cond, List, [], ◌∷◌, length, Some}
use Rattle.std.specs.List.{All}
use Rattle.std.specs.Cmp.Lexicographic.{pointwise}
use Rattle.std.specs.Map.{lookup}
use Rattle.ot_logic.specs.Names.{Name}
use Rattle.ot_logic.specs.Naming.{names}
use Rattle.ot_logic.specs.Trees.{Variable, Named, NVar, NConst, NApp, NAbs}
use Rattle.ot_logic.specs.Hol.{same_var}
use Rattle.ot_kernel.specs.State.{type_at, variable_at, named_at}
use Rattle.ot_trace.specs.Origins.{Origin}
use Rattle.ot_view.specs.Nodes.{IsKey}
use Rattle.ot_machine.specs.Occurrences.{AreOccurrences}
use Rattle.ot_machine.specs.Version5.{canon_ty, var_origin, var_term, const_term, app, lam, numbered_variable}
use Rattle.ot_machine.specs.declared.makers.canonical.Binder.{Binder}
use Rattle.ot_machine.specs.declared.makers.canonical.Part.{Part}
use Rattle.ot_machine.specs.declared.makers.canonical.Known.{Known}
use Rattle.ot_machine.specs.declared.session.Session.{Session}
use Rattle.ot_machine.specs.Meaning.{origin_of}

-- the variables of binders, each with the origin of the one that stands for it, the innermost first
abbrev pub Binders : Type 0
Binders = List (Variable Name × Origin Name)

-- what a variable becomes
abbrev pub variable_in : Binders → Variable Name → Origin Name
variable_in [] v = var_origin v.name v.ty
variable_in (b ∷ bs) v = cond (same_var names v b.0) b.1 (variable_in bs v)

-- a named term under k abstractions
abbrev pub canon_in : ℕ → Binders → Named Name → Origin Name
canon_in k bs (NVar v) = var_term (variable_in bs v)
canon_in k bs (NConst n t) = const_term n t
canon_in k bs (NApp f x) = app (canon_in k bs f) (canon_in k bs x)
canon_in k bs (NAbs v b) = lam (numbered_variable k v.ty) (canon_in (suc k) ((v, numbered_variable k v.ty) ∷ bs) b)

-- what the code's binders stand for
abbrev pub binders_at : Session → List Binder → Binders
binders_at s [] = []
binders_at s (b ∷ bs) = (variable_at s.kernel b.variable, origin_of s b.step) ∷ binders_at s bs

-- the binder's numbers are of the session
abbrev pub IsBinderIn : Session → Binder → Type 0
IsBinderIn s b = IsKey s.kernel b.variable × (b.step < length s.trace)

-- each step that is kept is that of its type
pub record AreTypes (s : Session) (es : List (ℕ × ℕ)) : Type 0 where
  pub known : (t i : ℕ) → lookup (nat_eq t) es ≡ Some i → (t < length s.kernel.types) × (i < length s.trace)
      × (origin_of s i ≡ canon_ty (type_at s.kernel t))

-- the tests of keys
abbrev pub same_binder : Binder → Binder → Bool
same_binder b c = (nat_eq b.variable.name c.variable.name && nat_eq b.variable.ty c.variable.ty)
    && nat_eq b.step c.step

abbrev pub same_part : Part → Part → Bool
same_part p q = nat_eq p.id q.id && (nat_eq p.depth q.depth && pointwise same_binder p.binders.items q.binders.items)

-- what a step of a part is
pub record IsStepOf (s : Session) (p : Part) (i : ℕ) : Type 0 where
  pub id : p.id < length s.kernel.terms
  pub step : i < length s.trace
  pub binders : All (IsBinderIn s) p.binders.items
  pub origin : origin_of s i ≡ canon_in p.depth (binders_at s p.binders.items) (named_at s.kernel.terms p.id)

-- each step that is kept is that of its part
pub record AreTerms (s : Session) (es : List (Part × ℕ)) : Type 0 where
  pub known : (p : Part) (i : ℕ) → lookup (same_part p) es ≡ Some i → IsStepOf s p i

pub record AreKnown (s : Session) (k : Known) : Type 0 where
  pub types : AreTypes s k.types.entries
  pub terms : AreTerms s k.terms.entries
  pub free : AreOccurrences s.kernel k.free.entries
