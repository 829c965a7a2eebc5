-- What stands at a place of the stack, of which kind.
use Rattle.std.specs.Prelude.{◌-◌, ℕ, suc, ℤ, List, [], ◌∷◌, ◌++◌, take, drop, length}
use Rattle.std.specs.Prelude.{map, Result, Ok, Err, slice_get, nat_lt, if◌then◌else◌}
use Rattle.ot_logic.specs.Names.{Name}
use Rattle.ot_logic.specs.Trees.{Ty, Tys, NoTys, MoreTys, Variable, Tm, Sequent}
use Rattle.ot_logic.specs.Faults.{Fault, StackEmpty, WrongKind}
use Rattle.ot_logic.specs.Answers.{◌>>=◌, some_or}
use Rattle.ot_logic.specs.declared.kind.Kind.{Kind}
use Rattle.ot_logic.specs.declared.kind.Kind.TheVariants as kinds
use Rattle.ot_machine.specs.Objects.{Object, Objects, number, name, list, type_op, a_type, constant}
use Rattle.ot_machine.specs.Objects.{variable, term, theorem, no_objects, more_objects, kind_of}
use Rattle.ot_trace.specs.Origins.{Origin, Origins, from_list}
use Rattle.ot_machine.specs.States.{Entry}

-- what stands at a place, 0 at the top
abbrev pub entry_at : ℕ → List Entry → Result Entry (Fault Name)
entry_at n stack = if nat_lt n (length stack) then some_or StackEmpty (slice_get stack (length stack - suc n)) else
    Err StackEmpty

abbrev pub object_at : ℕ → List Entry → Result Object (Fault Name)
object_at n stack = entry_at n stack >>= λ e. Ok e.object

-- the stack without the top n entries
abbrev pub dropped : ℕ → List Entry → List Entry
dropped n stack = take (length stack - n) stack

-- the top n entries, the lowest first
abbrev pub top : ℕ → List Entry → List Entry
top n stack = drop (length stack - n) stack

-- one more entry on the stack
abbrev pub pushed : Entry → List Entry → List Entry
pushed e stack = stack ++ e ∷ []

-- an entry in the place of the top n
abbrev pub replaced : ℕ → Entry → List Entry → List Entry
replaced n e stack = pushed e (dropped n stack)

-- entries in the place of the top n
abbrev pub exchanged : ℕ → List Entry → List Entry → List Entry
exchanged n es stack = dropped n stack ++ es

-- the origins of entries, as operands
abbrev pub origins_of : List Entry → Origins Name
origins_of es = from_list (map (λ e. e.origin) es)

-- ---- an object of one kind

abbrev pub wrong_kind : {A : Type 0} → Kind → Object → Result A (Fault Name)
wrong_kind wanted o = Err (WrongKind wanted (kind_of o))

abbrev pub as_number : Object → Result ℤ (Fault Name)
as_number (number k) = Ok k
as_number o = wrong_kind kinds.Num o

abbrev pub as_name : Object → Result Name (Fault Name)
as_name (name n) = Ok n
as_name o = wrong_kind kinds.Name o

abbrev pub as_list : Object → Result Objects (Fault Name)
as_list (list os) = Ok os
as_list o = wrong_kind kinds.List o

abbrev pub as_type_op : Object → Result Name (Fault Name)
as_type_op (type_op n) = Ok n
as_type_op o = wrong_kind kinds.TyOp o

abbrev pub as_type : Object → Result (Ty Name) (Fault Name)
as_type (a_type t) = Ok t
as_type o = wrong_kind kinds.Ty o

abbrev pub as_constant : Object → Result Name (Fault Name)
as_constant (constant n) = Ok n
as_constant o = wrong_kind kinds.Con o

abbrev pub as_variable : Object → Result (Variable Name) (Fault Name)
as_variable (variable v) = Ok v
as_variable o = wrong_kind kinds.Var o

abbrev pub as_term : Object → Result (Tm Name) (Fault Name)
as_term (term t) = Ok t
as_term o = wrong_kind kinds.Tm o

abbrev pub as_theorem : Object → Result (Sequent Name) (Fault Name)
as_theorem (theorem q) = Ok q
as_theorem o = wrong_kind kinds.Thm o

-- a list of one kind; the first element of another kind counts
abbrev pub as_each : {A : Type 0} → (Object → Result A (Fault Name)) → Objects → Result (List A) (Fault Name)
as_each as_one no_objects = Ok []
as_each as_one (more_objects o os) = as_one o >>= λ x. as_each as_one os >>= λ xs. Ok (x ∷ xs)

-- types as arguments
abbrev pub arguments : List (Ty Name) → Tys Name
arguments [] = NoTys
arguments (t ∷ ts) = MoreTys t (arguments ts)

-- ---- an object of one kind at a place

abbrev pub number_on : ℕ → List Entry → Result ℤ (Fault Name)
number_on n stack = object_at n stack >>= as_number

abbrev pub name_on : ℕ → List Entry → Result Name (Fault Name)
name_on n stack = object_at n stack >>= as_name

abbrev pub list_on : ℕ → List Entry → Result Objects (Fault Name)
list_on n stack = object_at n stack >>= as_list

abbrev pub type_op_on : ℕ → List Entry → Result Name (Fault Name)
type_op_on n stack = object_at n stack >>= as_type_op

abbrev pub type_on : ℕ → List Entry → Result (Ty Name) (Fault Name)
type_on n stack = object_at n stack >>= as_type

abbrev pub constant_on : ℕ → List Entry → Result Name (Fault Name)
constant_on n stack = object_at n stack >>= as_constant

abbrev pub variable_on : ℕ → List Entry → Result (Variable Name) (Fault Name)
variable_on n stack = object_at n stack >>= as_variable

abbrev pub term_on : ℕ → List Entry → Result (Tm Name) (Fault Name)
term_on n stack = object_at n stack >>= as_term

abbrev pub theorem_on : ℕ → List Entry → Result (Sequent Name) (Fault Name)
theorem_on n stack = object_at n stack >>= as_theorem

-- the elements of the list at a place, all of one kind
abbrev pub types_on : ℕ → List Entry → Result (List (Ty Name)) (Fault Name)
types_on n stack = list_on n stack >>= as_each as_type

abbrev pub terms_on : ℕ → List Entry → Result (List (Tm Name)) (Fault Name)
terms_on n stack = list_on n stack >>= as_each as_term

abbrev pub names_on : ℕ → List Entry → Result (List Name) (Fault Name)
names_on n stack = list_on n stack >>= as_each as_name

-- the list at a place, and its origin
abbrev pub list_entry : ℕ → List Entry → Result (Objects × Origin Name) (Fault Name)
list_entry n stack = do
  e ← entry_at n stack
  os ← as_list e.object
  Ok (os, e.origin)
