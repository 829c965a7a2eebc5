-- Pairs of numbers that stand for lists of two, as they are read one by one.
use Rattle.std.specs.Prelude.{◌≡◌, ℕ, Bool, List, [], ◌∷◌, ◌++◌, is_some, Result, Ok, if◌then◌else◌}
use Rattle.std.specs.Map.{lookup}
use Rattle.ot_logic.specs.Names.{Name}
use Rattle.ot_logic.specs.Faults.{Fault}
use Rattle.ot_logic.specs.Trees.{Ty, Variable, Tm}
use Rattle.ot_logic.specs.Table.{Extends}
use Rattle.ot_log_nodes.specs.Items.{Item, HasName, HasType, HasTerm, name_at, type_at, term_at}
use Rattle.ot_log_nodes.specs.Changing.{variable_at, HasVariable}
use Rattle.ot_log_nodes.specs.declared.node.VariableNode.{VariableNode}
use Rattle.ot_machine.specs.Objects.{Object}
use Rattle.ot_machine.specs.Values.{value}
use Rattle.ot_machine.specs.Meaning.{origin_of}
use Rattle.ot_machine.specs.declared.session.Session.{Session}

-- the numbers of a table that stand for what is read of the object of a step
pub record IsOneOf {X A : Type 0} (Has : List Item → X → Type 0) (value_at : List Item → X → A)
    (as_one : Object → Result A (Fault Name)) (s : Session) (ts : List Item) (step : ℕ) (x : X) : Type 0 where
  pub has : Has ts x
  pub read : (v : Object) → value (origin_of s step) ≡ Ok v → as_one v ≡ Ok (value_at ts x)

-- a name and a type
abbrev pub HasTypePair : List Item → ℕ × ℕ → Type 0
HasTypePair ts p = HasName ts p.0 × HasType ts p.1

abbrev pub type_pair_at : List Item → ℕ × ℕ → Name × Ty Name
type_pair_at ts p = (name_at ts p.0, type_at ts p.1)

-- a variable and a term
abbrev pub HasTermPair : List Item → VariableNode × ℕ → Type 0
HasTermPair ts p = HasVariable ts p.0 × HasTerm ts p.1

abbrev pub term_pair_at : List Item → VariableNode × ℕ → Variable Name × Tm Name
term_pair_at ts p = (variable_at ts p.0, term_at ts p.1)

-- what stands in the table stays in one that grew
abbrev pub Stays : {X A : Type 0} → (List Item → X → Type 0) → (List Item → X → A) → Type 0
Stays {X} Has value_at = (ts us : List Item) → Extends ts us → (x : X) → Has ts x
    → Has us x × (value_at us x ≡ value_at ts x)

-- ---- of several pairs for one key the first alone

-- the pairs, and one more at the end unless there is one for its key
abbrev pub with_first : {K V : Type 0} → (K → K → Bool) → List (K × V) → K × V → List (K × V)
with_first same ps p = if is_some (lookup (same p.0) ps) then ps else ps ++ p ∷ []

abbrev pub add_firsts : {K V : Type 0} → (K → K → Bool) → List (K × V) → List (K × V) → List (K × V)
add_firsts same ps [] = ps
add_firsts same ps (q ∷ qs) = add_firsts same (with_first same ps q) qs

abbrev pub all_first : {K V : Type 0} → (K → K → Bool) → List (K × V) → List (K × V)
all_first same ps = add_firsts same [] ps
