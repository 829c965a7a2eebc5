-- The table of terms over the table of types.
use Rattle.std.specs.Prelude.{◌≡◌, ◌↔◌, ℕ, ◌<◌, ◌≤◌, max, Bool, true, List}
use Rattle.std.specs.Prelude.{map, length, slice_get, slice_index_or, Some}
use Rattle.ot_logic.specs.Trees.{Ty, TyVar, Variable, Named, NVar, NConst, NApp, NAbs}
use Rattle.ot_logic.specs.Hol.{is_shallow}
use Rattle.ot_logic.specs.NamedTerms.{named_type, named_depth, nameless}
use Rattle.ot_logic.specs.Naming.{numbers}
use Rattle.ot_logic.specs.Bounds.{names_in, names_in_terms}
use Rattle.ot_logic.specs.Table.{Extends, IsInjective}
use Rattle.ot_logic.specs.Interned.{trees_of, IsSound}
use Rattle.ot_type.specs.TypeTable.{type_at, IsTypeTable}
use Rattle.ot_shape.specs.Shape.{class_of}
use Rattle.ot_class.specs.Class.{ClassTable, class_at, IsNumber, AreOnce}
use Rattle.ot_class.specs.Spelled.{spelled, IsOver}
use Rattle.ot_term.specs.Term.{TermTable}
use Rattle.ot_term.specs.declared.term.VarKey.{VarKey}
use Rattle.ot_term.specs.declared.term.TermNode.{TermNode}
use Rattle.ot_term.specs.declared.term.TermNode.TheVariants.{Var, Const, App, Abs}
use Rattle.ot_term.specs.declared.table.NodeInfo.{NodeInfo}

-- the tree of a number of the table
abbrev pub term_at : List (Named ℕ) → ℕ → Named ℕ
term_at ts i = slice_index_or ts i (NConst 0 (TyVar 0))

-- the variable of a key
abbrev pub variable_of : List (Ty ℕ) → VarKey → Variable ℕ
variable_of tys v = record { name = v.name; ty = type_at tys v.ty }

-- the tree of a node
abbrev pub term_of : List (Ty ℕ) → List (Named ℕ) → TermNode → Named ℕ
term_of tys ts (Var v) = NVar (variable_of tys v)
term_of tys ts (Const n t) = NConst n (type_at tys t)
term_of tys ts (App f x) = NApp (term_at ts f) (term_at ts x)
term_of tys ts (Abs v b) = NAbs (variable_of tys v) (term_at ts b)

-- the node's numbers are of the tables
abbrev pub AreBelow : ℕ → ℕ → TermNode → Type 0
AreBelow types terms (Var v) = v.ty < types
AreBelow types terms (Const n t) = t < types
AreBelow types terms (App f x) = (f < terms) × (x < terms)
AreBelow types terms (Abs v b) = (v.ty < types) × (b < terms)

-- whether a named term is within the nesting limit, which is a matter of its nameless form alone
abbrev pub is_within_limit : Named ℕ → Bool
is_within_limit t = is_shallow numbers (nameless numbers t)

-- k is the number of the tree's type and d the tree's depth; the tree is within the nesting limit
pub record Suits (tys : List (Ty ℕ)) (t : Named ℕ) (k d : ℕ) : Type 0 where
  pub below : k < length tys
  pub typed : named_type numbers t ≡ Some (type_at tys k)
  pub depth : d ≡ named_depth numbers t
  pub limit : is_within_limit t ≡ true

-- c is the number of the tree's class, which is kept over numbers of types
pub record IsClassOf (tys : List (Ty ℕ)) (cs : ClassTable) (t : Named ℕ) (c : ℕ) : Type 0 where
  pub within : IsNumber cs c
  pub over : IsOver (length tys) (class_at cs c)
  pub form : spelled tys (class_at cs c) ≡ class_of numbers t

-- what stands beside a node
pub record IsBeside (tys : List (Ty ℕ)) (cs : ClassTable) (ts : List (Named ℕ)) (n : TermNode) (b : NodeInfo) : Type
    0 where
  pub suits : Suits tys (term_of tys ts n) b.ty b.depth
  pub class : IsClassOf tys cs (term_of tys ts n) b.class

-- the trees of the entries
abbrev pub terms_of : List (Ty ℕ) → List (TermNode × NodeInfo) → List (Named ℕ)
terms_of tys es = trees_of (term_of tys) es

-- the numbers of the entries' classes
abbrev pub classes_of : List (TermNode × NodeInfo) → List ℕ
classes_of = map (λ e. e.1.class)

-- each number of a type and of a term keeps its tree, and each term its class
pub record Grows (old new : TermTable) : Type 0 where
  pub types : Extends old.types new.types
  pub terms : Extends old.terms new.terms
  pub classes : Extends old.classes new.classes

-- no name from the number k on is new
pub record NamesUpTo (k : ℕ) (old new : TermTable) : Type 0 where
  pub types : names_in new.types ≤ max (names_in old.types) k
  pub terms : names_in_terms new.terms ≤ max (max (names_in old.types) (names_in_terms old.terms)) k

-- what holds of each table: each type and each term once, each term well typed and within the nesting limit, and the
-- classes of two terms one exactly where their nameless forms are
pub record IsTermTable (t : TermTable) : Type 0 where
  pub types : IsTypeTable t.types
  pub injective : IsInjective t.terms
  pub typed : (i : ℕ) (u : Named ℕ) → slice_get t.terms i ≡ Some u → (ty : Ty ℕ) × (named_type numbers u ≡ Some ty)
  pub limit : (i : ℕ) (u : Named ℕ) → slice_get t.terms i ≡ Some u → is_within_limit u ≡ true
  pub classed : length t.classes ≡ length t.terms
  pub alike : (i j c d : ℕ) → slice_get t.classes i ≡ Some c → slice_get t.classes j ≡ Some d
      → (c ≡ d) ↔ (nameless numbers (term_at t.terms i) ≡ nameless numbers (term_at t.terms j))

-- the table has grown, by names below k alone
pub record IsGrownTo (k : ℕ) (old new : TermTable) : Type 0 where
  pub grows : Grows old new
  pub names : NamesUpTo k old new
  pub table : IsTermTable new

-- what the nodes keep, over the trees of the types and the classes
abbrev pub AreTermNodes : List (Ty ℕ) → ClassTable → List (TermNode × NodeInfo) → List (Named ℕ) → Type 0
AreTermNodes tys cs es ts = IsSound (term_of tys) (AreBelow (length tys)) (IsBeside tys cs) es ts

-- what the fields keep, with what callers may know of the trees
pub record IsTermSound (tys : List (Ty ℕ)) (cs : ClassTable) (es : List (TermNode × NodeInfo))
    (ts : List (Named ℕ)) : Type 0 where
  pub nodes : AreTermNodes tys cs es ts
  pub forms : AreOnce cs
  pub table : IsTermTable (record { types = tys; terms = ts; classes = classes_of es })
