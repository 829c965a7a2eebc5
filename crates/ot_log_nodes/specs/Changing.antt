-- What is done to a nameless term throughout: a variable closed, a place opened, or a substitution; and what is
-- remembered of the parts that were worked on.
use Rattle.std.specs.Prelude.{◌≡◌, ◌&&◌, ℕ, suc, Bool, ◌==◌, if◌then◌else◌, nat_eq, List, map, Some}
use Rattle.std.specs.Map.{lookup}
use Rattle.std.specs.List.{All}
use Rattle.ot_logic.specs.Names.{Name}
use Rattle.ot_logic.specs.Naming.{names}
use Rattle.ot_logic.specs.Trees.{Ty, Variable, Tm}
use Rattle.ot_logic.specs.Hol.{TypeMap, TermMap, inst, inst_all, type_at as image_of, close_at, open_at, subst_tm}
use Rattle.ot_log_nodes.specs.Items.{Item, IsType, IsTerm, HasName, HasType, HasTerm, name_at, type_at, types_at, term_at}
use Rattle.ot_log_nodes.specs.declared.node.VariableNode.{VariableNode}
use Rattle.ot_log_nodes.specs.declared.table.change.Change.{Change}
use Rattle.ot_log_nodes.specs.declared.table.change.Change.TheVariants as change
use Rattle.ot_log_nodes.specs.declared.table.change.Place.{Place}
use Rattle.ot_log_nodes.specs.declared.table.change.Done.{Done}

-- the variable becomes the place of an abstraction around; the term takes such a place; or types and terms take the
-- places of type variables and variables
pub data Changing : Type 0 where
  Closing : Variable Name → Changing
  Opening : Tm Name → Changing
  Putting : TypeMap names → TermMap names → Changing

-- the term under so many abstractions of the whole
abbrev pub changed : Changing → ℕ → Tm Name → Tm Name
changed (Closing v) k t = close_at names k v t
changed (Opening u) k t = open_at names k u t
changed (Putting s m) k t = subst_tm names s m t

-- a type in it
abbrev pub retyped : Changing → Ty Name → Ty Name
retyped (Closing v) t = t
retyped (Opening u) t = t
retyped (Putting s m) t = inst names s t

-- how many abstractions stand around the body of one; to a substitution it is the same
abbrev pub inner : Changing → ℕ → ℕ
inner (Closing v) k = suc k
inner (Opening u) k = suc k
inner (Putting s m) k = k

-- by the change of the code
abbrev pub inner_of : Change → ℕ → ℕ
inner_of (change.Close v) k = suc k
inner_of (change.Open u) k = suc k
inner_of (change.Put s m) k = k

-- the number of a place j with the number id, changed
abbrev pub opened_at : Change → (k j id : ℕ) → ℕ
opened_at (change.Close v) k j id = id
opened_at (change.Open u) k j id = if j == k then u else id
opened_at (change.Put s m) k j id = id

-- ---- by numbers of a table

abbrev pub variable_at : List Item → VariableNode → Variable Name
variable_at ts v = record { name = name_at ts v.name; ty = type_at ts v.ty }

abbrev pub type_map : List Item → List (ℕ × ℕ) → TypeMap names
type_map ts es = map (λ p. (name_at ts p.0, type_at ts p.1)) es

abbrev pub term_map : List Item → List (VariableNode × ℕ) → TermMap names
term_map ts es = map (λ p. (variable_at ts p.0, term_at ts p.1)) es

abbrev pub changing : List Item → Change → Changing
changing ts (change.Close v) = Closing (variable_at ts v)
changing ts (change.Open u) = Opening (term_at ts u)
changing ts (change.Put s m) = Putting (type_map ts s.entries) (term_map ts m.entries)

-- the numbers of pairs are those of names and types, of variables and terms
abbrev pub HasVariable : List Item → VariableNode → Type 0
HasVariable ts v = HasName ts v.name × HasType ts v.ty

abbrev pub HasTypes : List Item → List (ℕ × ℕ) → Type 0
HasTypes ts es = All (λ p. HasName ts p.0 × HasType ts p.1) es

abbrev pub HasTerms : List Item → List (VariableNode × ℕ) → Type 0
HasTerms ts es = All (λ p. HasVariable ts p.0 × HasTerm ts p.1) es

abbrev pub HasChange : List Item → Change → Type 0
HasChange ts (change.Close v) = HasVariable ts v
HasChange ts (change.Open u) = HasTerm ts u
HasChange ts (change.Put s m) = HasTypes ts s.entries × HasTerms ts m.entries

-- ---- what is remembered

-- whether two places are one
abbrev pub same_place : Place → Place → Bool
same_place p q = nat_eq p.depth q.depth && nat_eq p.id q.id

-- each type that is kept is the instance of its type
pub record AreInstances (ts : List Item) (s : TypeMap names) (es : List (ℕ × ℕ)) : Type 0 where
  pub known : (k v : ℕ) → lookup (nat_eq k) es ≡ Some v → HasType ts k × IsType ts v (inst names s (type_at ts k))

-- the second numbers are those of the instances of the first ones' types
pub record HasInstances (ts us : List Item) (s : TypeMap names) (ids found : List ℕ) : Type 0 where
  pub types : types_at us found ≡ inst_all names (image_of names s) (types_at ts ids)
  pub each : All (HasType us) found

-- each term that is kept is its place's term, changed
pub record AreChanged (ts : List Item) (c : Changing) (es : List (Place × ℕ)) : Type 0 where
  pub known : (p : Place) (r : ℕ) → lookup (same_place p) es ≡ Some r
      → HasTerm ts p.id × IsTerm ts r (changed c p.depth (term_at ts p.id))

-- the types of a substitution alone are kept
abbrev pub AreRetyped : List Item → Changing → List (ℕ × ℕ) → Type 0
AreRetyped ts (Closing v) es = Unit {0}
AreRetyped ts (Opening u) es = Unit {0}
AreRetyped ts (Putting s m) es = AreInstances ts s es

pub record IsDone (ts : List Item) (c : Changing) (d : Done) : Type 0 where
  pub types : AreRetyped ts c d.types.entries
  pub terms : AreChanged ts c d.terms.entries
