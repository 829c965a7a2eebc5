-- The value of an origin: the object that its commands give when they are applied to the values of the operands.
use Rattle.std.specs.Prelude.{◌-◌, ◌==◌, ℕ, zero, suc, List, [], ◌∷◌, length, map}
use Rattle.std.specs.Prelude.{Result, Ok, Err, slice_get, nat_lt, if◌then◌else◌}
use Rattle.ot_logic.specs.Names.{Name}
use Rattle.ot_logic.specs.Naming.{names}
use Rattle.ot_logic.specs.Trees.{Definition}
use Rattle.ot_logic.specs.Hol.{theorems}
use Rattle.ot_logic.specs.Faults.{Fault, StackEmpty}
use Rattle.ot_logic.specs.Answers.{◌>>=◌, unless, some_or}
use Rattle.ot_logic.specs.declared.command.Cmd.{Cmd}
use Rattle.ot_logic.specs.declared.command.Cmd.TheVariants as words
use Rattle.ot_kernel.specs.Defining.{Defining, const_definition, list_definition, type_definition}
use Rattle.ot_trace.specs.Origins.{Origin, Origins, Number, Named, Make, Define, Outcome, NoOrigins, MoreOrigins}
use Rattle.ot_machine.specs.Objects.{Object, number, name, theorem}
use Rattle.ot_machine.specs.Places.{as_name, as_list, as_term, as_theorem, as_each}
use Rattle.ot_machine.specs.DefinitionLists.{pairs_of}
use Rattle.ot_machine.specs.Makers.{Read, Maker, arity, made_by, maker}

-- an origin without a value
abbrev pub no_value : {A : Type 0} → Result A (Fault Name)
no_value = Err StackEmpty

-- the value at a place, 0 at the top, which is the end of the list
abbrev pub value_at : ℕ → List Object → Read
value_at n vs = if nat_lt n (length vs) then some_or StackEmpty (slice_get vs (length vs - suc n)) else no_value

-- what a maker makes of exactly its operands
abbrev pub applied : Maker → List Object → Read
applied m vs = do
  _ ← unless StackEmpty (length vs == arity m)
  made_by m (λ n. value_at n vs)

-- the values, where there are all
abbrev pub all_values : List Read → Result (List Object) (Fault Name)
all_values [] = Ok []
all_values (r ∷ rs) = r >>= λ v. all_values rs >>= λ vs. Ok (v ∷ vs)

-- what a word makes of values
abbrev pub combined : Cmd → List Read → Read
combined w rs = all_values rs >>= applied (maker w)

-- ---- what a word defines after the definitions ds, of the operands at their places; names of symbols as they are

abbrev pub const_defined : List (Definition Name) → (ℕ → Read) → Defining names
const_defined ds at = do
  t ← at 0 >>= as_term
  n ← at 1 >>= as_name
  const_definition names ds n t

abbrev pub list_defined : List (Definition Name) → (ℕ → Read) → Defining names
list_defined ds at = do
  th ← at 0 >>= as_theorem
  os ← at 1 >>= as_list
  pairs ← pairs_of os
  list_definition names ds (map (λ p. p.0) pairs) (map (λ p. p.1) pairs) th

abbrev pub type_defined : List (Definition Name) → (ℕ → Read) → Defining names
type_defined ds at = do
  th ← at 0 >>= as_theorem
  vars ← at 1 >>= as_list >>= as_each as_name
  rep ← at 2 >>= as_name
  abs ← at 3 >>= as_name
  n ← at 4 >>= as_name
  type_definition names ds n abs rep vars th

abbrev pub defined_by : Cmd → List (Definition Name) → (ℕ → Read) → Defining names
defined_by words.DefineConst ds at = const_defined ds at
defined_by words.DefineConstList ds at = list_defined ds at
defined_by words.DefineTypeOp ds at = type_defined ds at
defined_by _ ds at = no_value

-- how many operands a word has that defines
abbrev pub definition_arity : Cmd → ℕ
definition_arity words.DefineTypeOp = 5
definition_arity _ = 2

-- of exactly its operands
abbrev pub defines : Cmd → List (Definition Name) → List Object → Defining names
defines w ds vs = do
  _ ← unless StackEmpty (length vs == definition_arity w)
  defined_by w ds (λ n. value_at n vs)

-- the j-th theorem of a definition, counted from 1
abbrev pub theorem_of : ℕ → Definition Name → Read
theorem_of zero d = no_value
theorem_of (suc j) d = some_or StackEmpty (slice_get (theorems names d) j) >>= λ q. Ok (theorem q)

-- ---- the value

abbrev mutual
  -- an axiom its own sequent; a definition is no object
  pub value : Origin Name → Read
  value (Number k) = Ok (number k)
  value (Named n) = Ok (name n)
  value (Make w os) = values os >>= applied (maker w)
  value (Define w os) = no_value
  value (Outcome j d) = definition_of [] d >>= theorem_of j

  pub values : Origins Name → Result (List Object) (Fault Name)
  values NoOrigins = Ok []
  values (MoreOrigins o os) = value o >>= λ v. values os >>= λ vs. Ok (v ∷ vs)

  -- the definition that is accepted after the definitions ds
  pub definition_of : List (Definition Name) → Origin Name → Defining names
  definition_of ds (Number k) = no_value
  definition_of ds (Named n) = no_value
  definition_of ds (Make w os) = no_value
  definition_of ds (Define w os) = values os >>= defines w ds
  definition_of ds (Outcome j d) = no_value
