-- Numbers of a node table that stand for what steps of a trace made.
use Rattle.std.specs.Prelude.{◌≡◌, ℕ, List, [], ◌∷◌, Result, Ok}
use Rattle.ot_logic.specs.Names.{Name}
use Rattle.ot_logic.specs.Faults.{Fault}
use Rattle.ot_logic.specs.Answers.{◌>>=◌}
use Rattle.ot_logic.specs.declared.command.Cmd.{Cmd}
use Rattle.ot_log_nodes.specs.Items.{Item, HasName, HasType, HasTerm, name_at, type_at, term_at}
use Rattle.ot_log_nodes.specs.Changing.{variable_at, HasVariable}
use Rattle.ot_log_nodes.specs.declared.node.VariableNode.{VariableNode}
use Rattle.ot_trace.specs.Origins.{Origin, Origins, Make, NoOrigins, MoreOrigins, make_one}
use Rattle.ot_machine.specs.Objects.{Object, Objects, name, list, a_type, variable, term, no_objects, more_objects}
use Rattle.ot_machine.specs.Places.{as_list}
use Rattle.ot_machine.specs.Values.{value}
use Rattle.ot_machine.specs.Meaning.{origin_of}
use Rattle.ot_machine.specs.declared.session.Session.{Session}

-- the value of an origin, where it has one, is this object
pub record Makes (o : Origin Name) (x : Object) : Type 0 where
  pub is : (v : Object) → value o ≡ Ok v → v ≡ x

-- there is something
abbrev pub HasResult : {A E : Type 0} → Result A E → Type 0
HasResult {A} r = (x : A) × (r ≡ Ok x)

-- the origin has a value, of which something is read
abbrev pub Reads : {A : Type 0} → (Object → Result A (Fault Name)) → Origin Name → Type 0
Reads read o = HasResult (value o >>= read)

-- of a list, by its elements
abbrev pub of_list : {A : Type 0} → (Objects → Result A (Fault Name)) → Object → Result A (Fault Name)
of_list read v = as_list v >>= read

-- a word made it
abbrev pub IsMake : Origin Name → Type 0
IsMake (Make w os) = Unit {0}
IsMake _ = ⊥

-- the value is a list of two
pub record IsPair (o : Origin Name) : Type 0 where
  pub first : Object
  pub second : Object
  pub is : value o ≡ Ok (list (more_objects first (more_objects second no_objects)))

-- the number is that of the name of a step
pub record IsNameOf (s : Session) (ts : List Item) (step id : ℕ) : Type 0 where
  pub has : HasName ts id
  pub is : value (origin_of s step) ≡ Ok (name (name_at ts id))

-- the number is that of the type that a step made
pub record IsTypeOf (s : Session) (ts : List Item) (step id : ℕ) : Type 0 where
  pub has : HasType ts id
  pub made : Makes (origin_of s step) (a_type (type_at ts id))

-- the numbers are those of the variable that a step made
pub record IsVariableOf (s : Session) (ts : List Item) (step : ℕ) (v : VariableNode) : Type 0 where
  pub has : HasVariable ts v
  pub made : Makes (origin_of s step) (variable (variable_at ts v))

-- the number is that of the term that a step made
pub record IsTermOf (s : Session) (ts : List Item) (step id : ℕ) : Type 0 where
  pub has : HasTerm ts id
  pub made : Makes (origin_of s step) (term (term_at ts id))

-- the number is that of the name of a symbol that a step made by this word
pub record IsSymbolOf (s : Session) (ts : List Item) (w : Cmd) (step id : ℕ) : Type 0 where
  pub has : HasName ts id
  pub spelled : Origin Name
  pub is : origin_of s step ≡ make_one w spelled
  pub name_is : value spelled ≡ Ok (name (name_at ts id))

-- ---- by its word

abbrev pub origins_of : Session → List ℕ → Origins Name
origins_of s [] = NoOrigins
origins_of s (i ∷ is) = MoreOrigins (origin_of s i) (origins_of s is)

-- a word made the step of these steps
abbrev pub IsMadeOf : Session → Cmd → List ℕ → ℕ → Type 0
IsMadeOf s w is step = origin_of s step ≡ Make w (origins_of s is)
