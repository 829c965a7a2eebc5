-- A walk that puts a substitution into a term, node by node, and renames binders on the way.
use Rattle.std.specs.Prelude.{◌≡◌, ℕ, suc, ◌<◌, ◌≤◌, List, [], ◌∷◌, length, max}
use Rattle.ot_logic.specs.Lists.{IsMember}
use Rattle.ot_logic.specs.Names.{Name}
use Rattle.ot_logic.specs.Trees.{Tm}
use Rattle.ot_logic.specs.Hol.{TypeMap, type_at as type_for, inst, bind}
use Rattle.ot_logic.specs.NamedTerms.{Renaming, image, nameless}
use Rattle.ot_logic.specs.Naming.{numbers, IsNameTable}
use Rattle.ot_logic.specs.Bounds.{names_in, names_in_terms}
use Rattle.ot_logic.specs.Table.{Extends}
use Rattle.ot_laws.specs.Walk.{NamedMap, nameless_map}
use Rattle.ot_type.specs.TypeTable.{type_at}
use Rattle.ot_term.specs.Term.{TermTable}
use Rattle.ot_term.specs.TermTable.{term_at, Grows, IsTermTable}
use Rattle.ot_term.specs.declared.term.VarKey.{VarKey}
use Rattle.ot_subst.specs.Substitution.{Substitution, type_part, named_part, IsSubstOf}
use Rattle.ot_subst.specs.Renamed.{renaming_of}

-- what a nameless term becomes: types by s, and of its free variables those that are renamed by r, the others by m
abbrev pub carried : TypeMap numbers → NamedMap numbers → Renaming numbers → Tm ℕ → Tm ℕ
carried s m r = bind numbers (type_for numbers s) (image numbers r s (nameless_map numbers m))

-- the same by number
abbrev pub becomes : TermTable → Substitution → List (VarKey × VarKey) → Tm ℕ → Tm ℕ
becomes t s r = carried (type_part t s) (named_part t s) (renaming_of t.types r)

-- the number is that of a term with this nameless form
pub record HasForm (t : TermTable) (id : ℕ) (x : Tm ℕ) : Type 0 where
  pub within : id < length t.terms
  pub form : nameless numbers (term_at t.terms id) ≡ x

-- a binder that was renamed: its new type is the instance of the old one
pub record IsRenamed (t : TermTable) (s : Substitution) (p : VarKey × VarKey) : Type 0 where
  pub from : p.0.ty < length t.types
  pub to : p.1.ty < length t.types
  pub typed : type_at t.types p.1.ty ≡ inst numbers (type_part t s) (type_at t.types p.0.ty)

-- one more than the greatest number of a new binder's name
abbrev pub bound_of : List (VarKey × VarKey) → ℕ
bound_of [] = 0
bound_of (p ∷ r) = max (suc p.1.name) (bound_of r)

-- no name of the table is from the number k on
pub record NamesBelow (k : ℕ) (t : TermTable) : Type 0 where
  pub types : names_in t.types ≤ k
  pub terms : names_in_terms t.terms ≤ k

-- the numbers are of the table
pub record AreReady (t : TermTable) (s : Substitution) (r : List (VarKey × VarKey)) : Type 0 where
  pub table : IsTermTable t
  pub subst : IsSubstOf t s
  pub binders : (p : VarKey × VarKey) → IsMember p r → IsRenamed t s p

-- what a walk is given: the names of the table, and of the binders that were renamed, are below k
pub record IsSetUp (k : ℕ) (t : TermTable) (s : Substitution) (r : List (VarKey × VarKey)) : Type 0 where
  pub ready : AreReady t s r
  pub names : NamesBelow k t
  pub bound : bound_of r ≤ k

-- names and terms have only grown
pub record IsLater (ns ms : List Name) (t u : TermTable) : Type 0 where
  pub extends : Extends ns ms
  pub name_table : IsNameTable ns → IsNameTable ms
  pub grows : Grows t u
  pub table : IsTermTable u
  pub names : NamesBelow (length ms) u
