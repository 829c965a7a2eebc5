-- What occurs in types and terms.
use Rattle.std.specs.Prelude.{ℕ, List, [], ◌∷◌, ◌++◌, map}
use Rattle.std.specs.List.{All}
use Rattle.ot_logic.specs.Names.{Name}
use Rattle.ot_logic.specs.Lists.{IsMember, IsPart, IsSameSet}
use Rattle.ot_logic.specs.Trees.{Ty, Tys, TyVar, TyOp, NoTys, MoreTys, Variable, Tm, Free, Con}
use Rattle.ot_logic.specs.Trees.{Bound, App, Abs, Sequent, Definition, ConDef, ListDef, TyDef}
use Rattle.ot_log_nodes.specs.Items.{Item, HasName, name_at, type_at, term_at}
use Rattle.ot_log_nodes.specs.Changing.{variable_at, HasVariable}
use Rattle.ot_log_rules.specs.declared.parts.Mark.{Mark}
use Rattle.ot_log_rules.specs.declared.parts.Mark.TheVariants as mark
use Rattle.ot_log_rules.specs.declared.parts.Parts.{Parts}

-- a type variable, a type operator, a constant or a free variable that occurs
pub data Occurring : Type 0 where
  TypeVar : Name → Occurring
  Operator : Name → Occurring
  Constant : Name → Occurring
  FreeVar : Variable Name → Occurring

abbrev mutual
  pub marks_ty : Ty Name → List Occurring
  marks_ty (TyVar n) = TypeVar n ∷ []
  marks_ty (TyOp n ts) = Operator n ∷ marks_all ts

  pub marks_all : Tys Name → List Occurring
  marks_all NoTys = []
  marks_all (MoreTys t ts) = marks_ty t ++ marks_all ts

abbrev pub marks_tm : Tm Name → List Occurring
marks_tm (Free v) = FreeVar v ∷ marks_ty v.ty
marks_tm (Con n t) = Constant n ∷ marks_ty t
marks_tm (Bound k) = []
marks_tm (App f x) = marks_tm f ++ marks_tm x
marks_tm (Abs t b) = marks_ty t ++ marks_tm b

abbrev pub marks_each : List (Tm Name) → List Occurring
marks_each [] = []
marks_each (t ∷ ts) = marks_tm t ++ marks_each ts

abbrev pub marks_sequent : Sequent Name → List Occurring
marks_sequent q = marks_each q.hyps ++ marks_tm q.concl

abbrev pub marks_sequents : List (Sequent Name) → List Occurring
marks_sequents [] = []
marks_sequents (q ∷ qs) = marks_sequent q ++ marks_sequents qs

-- what occurs in the premise of a definition
abbrev pub marks_premise : Definition Name → List Occurring
marks_premise (ConDef n t) = marks_tm t
marks_premise (ListDef ps q) = marks_sequent q
marks_premise (TyDef n abs rep vs q) = marks_sequent q

-- ---- by number

abbrev pub mark_at : List Item → Mark → Occurring
mark_at ts (mark.TypeVar n) = TypeVar (name_at ts n)
mark_at ts (mark.Operator n) = Operator (name_at ts n)
mark_at ts (mark.Constant n) = Constant (name_at ts n)
mark_at ts (mark.Variable v) = FreeVar (variable_at ts v)

abbrev pub HasMark : List Item → Mark → Type 0
HasMark ts (mark.TypeVar n) = HasName ts n
HasMark ts (mark.Operator n) = HasName ts n
HasMark ts (mark.Constant n) = HasName ts n
HasMark ts (mark.Variable v) = HasVariable ts v

abbrev pub marks_at : List Item → Parts → List Occurring
marks_at ts p = map (mark_at ts) p.marks.keys

-- what occurs in each type and term that was gone over is there
pub record IsGoneOver (ts : List Item) (p : Parts) : Type 0 where
  pub marks : All (HasMark ts) p.marks.keys
  pub types : (i : ℕ) → IsMember i p.types.keys → IsPart (marks_ty (type_at ts i)) (marks_at ts p)
  pub terms : (i : ℕ) → IsMember i p.terms.keys → IsPart (marks_tm (term_at ts i)) (marks_at ts p)

-- just these were added
pub record Gathers (ts : List Item) (ms : List Occurring) (old new : Parts) : Type 0 where
  pub gone : IsGoneOver ts new
  pub all : IsSameSet (marks_at ts old ++ ms) (marks_at ts new)

-- just these are there
pub record IsOf (ts : List Item) (ms : List Occurring) (p : Parts) : Type 0 where
  pub has : All (HasMark ts) p.marks.keys
  pub all : IsSameSet ms (marks_at ts p)
