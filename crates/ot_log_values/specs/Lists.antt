-- Numbers of a node table that stand for the elements of a list that a step made.
use Rattle.std.specs.Prelude.{◌≡◌, ℕ, List, [], ◌∷◌, map, Result, Ok}
use Rattle.std.specs.List.{All}
use Rattle.ot_logic.specs.Names.{Name}
use Rattle.ot_logic.specs.Naming.{names}
use Rattle.ot_logic.specs.Faults.{Fault}
use Rattle.ot_logic.specs.Answers.{◌>>=◌}
use Rattle.ot_logic.specs.Hol.{TypeMap, TermMap}
use Rattle.ot_logic.specs.Trees.{Variable}
use Rattle.ot_log_nodes.specs.Items.{Item, HasName, HasType, HasTerm, name_at, type_at, term_at}
use Rattle.ot_log_nodes.specs.Changing.{variable_at, type_map, term_map, HasVariable, HasTypes, HasTerms}
use Rattle.ot_log_nodes.specs.declared.node.VariableNode.{VariableNode}
use Rattle.ot_trace.specs.Origins.{Origin}
use Rattle.ot_machine.specs.Objects.{Object, Objects, list, no_objects, more_objects}
use Rattle.ot_machine.specs.Places.{as_list, as_name, as_type, as_term, as_each}
use Rattle.ot_machine.specs.DefinitionLists.{definition_pair}
use Rattle.ot_machine.specs.Substitutions.{maps_of}
use Rattle.ot_machine.specs.Values.{value}
use Rattle.ot_machine.specs.Meaning.{origin_of}
use Rattle.ot_machine.specs.declared.session.Session.{Session}

-- the value of an origin, where it has one, is a list that reads as this
pub record ReadsAs {A : Type 0} (read : Objects → Result A (Fault Name)) (o : Origin Name) (x : A) : Type 0 where
  pub is : (v : Object) → value o ≡ Ok v → (as_list v >>= read) ≡ Ok x

-- the numbers of a table that stand for the elements of a list, each of which is read as one
pub record AreEachOf {X A : Type 0} (Has : List Item → X → Type 0) (value_at : List Item → X → A)
    (as_one : Object → Result A (Fault Name)) (s : Session) (ts : List Item) (step : ℕ) (xs : List X) : Type 0 where
  pub has : All (Has ts) xs
  pub read : ReadsAs (as_each as_one) (origin_of s step) (map (value_at ts) xs)

-- the names of a list
abbrev pub AreNamesOf : Session → List Item → ℕ → List ℕ → Type 0
AreNamesOf = AreEachOf HasName name_at as_name

-- the types of a list
abbrev pub AreTypesOf : Session → List Item → ℕ → List ℕ → Type 0
AreTypesOf = AreEachOf HasType type_at as_type

-- the terms of a list
abbrev pub AreTermsOf : Session → List Item → ℕ → List ℕ → Type 0
AreTermsOf = AreEachOf HasTerm term_at as_term

-- a name and a variable
abbrev pub HasPair : List Item → ℕ × VariableNode → Type 0
HasPair ts p = HasName ts p.0 × HasVariable ts p.1

abbrev pub pair_at : List Item → ℕ × VariableNode → Name × Variable Name
pair_at ts p = (name_at ts p.0, variable_at ts p.1)

-- the names and variables of a list of constants that are defined together
abbrev pub ArePairsOf : Session → List Item → ℕ → List (ℕ × VariableNode) → Type 0
ArePairsOf = AreEachOf HasPair pair_at definition_pair

-- the maps of a substitution, where the list reads as such
pub record AreMapsOf (s : Session) (ts : List Item) (step : ℕ)
    (types : List (ℕ × ℕ)) (terms : List (VariableNode × ℕ)) : Type 0 where
  pub has_types : HasTypes ts types
  pub has_terms : HasTerms ts terms
  pub read : (v : Object) (maps : TypeMap names × TermMap names) → value (origin_of s step) ≡ Ok v
      → (as_list v >>= maps_of) ≡ Ok maps
      → maps ≡ (type_map ts types, term_map ts terms)

-- ---- the origins of a list's elements

-- the objects are the values of the origins, one by one
abbrev pub AreValues : List (Origin Name) → Objects → Type 0
AreValues [] no_objects = Unit {0}
AreValues (o ∷ os) (more_objects v vs) = (value o ≡ Ok v) × AreValues os vs
AreValues _ _ = ⊥

-- the value of an origin, where it has one, is the list of the values of these
pub record AreElementsOf (o : Origin Name) (os : List (Origin Name)) : Type 0 where
  pub are : (v : Object) → value o ≡ Ok v → (vs : Objects) × (v ≡ list vs) × AreValues os vs
