-- The commands of the article format: one row for each word.
use Rattle.std.specs.Prelude.{pos, ℕ, suc, List, [], ◌∷◌, ◌++◌, map, find, Option}
use Rattle.std.specs.Prelude.{Some, None, Bool, false, ◌||◌, Result, Ok, Err, cond}
use Rattle.std.specs.Ordering.{int_eq}
use Rattle.std.specs.FinMap as dictionaries
use Rattle.ot_logic.specs.Names.{Name}
use Rattle.ot_logic.specs.Naming.{names}
use Rattle.ot_logic.specs.Trees.{Sequent, Definition}
use Rattle.ot_logic.specs.Hol.{same_sequent, theorems}
use Rattle.ot_logic.specs.Faults.{Fault, VersionUnsupported, NoEntry, EmptyList, ExportMismatch}
use Rattle.ot_logic.specs.Answers.{◌>>=◌, unless, some_or}
use Rattle.ot_logic.specs.declared.command.Cmd.{Cmd}
use Rattle.ot_logic.specs.declared.command.Cmd.TheVariants as words
use Rattle.ot_kernel.specs.Defining.{Defining, const_definition, list_definition, type_definition}
use Rattle.ot_interp.specs.Interpretation.{renamed}
use Rattle.ot_machine.specs.Objects.{Object, Objects, list, type_op, constant, theorem, no_objects, more_objects}
use Rattle.ot_trace.specs.Origins.{Origin, Number, Named, Make, Define, Outcome, NoOrigins, from_list}
use Rattle.ot_trace.specs.Origins.{operand, make_two, constant_origin, type_op_origin, renamed_pairs}
use Rattle.ot_machine.specs.States.{Entry, Export, Given, Made, ArticleState, RunState, State, Context}
use Rattle.ot_machine.specs.Places.{entry_at, list_entry, object_at, top, pushed, dropped, replaced, exchanged}
use Rattle.ot_machine.specs.Places.{origins_of, number_on, name_on, list_on, term_on, theorem_on, terms_on, names_on}
use Rattle.ot_machine.specs.Makers.{arity, made_by, maker}
use Rattle.ot_machine.specs.DefinitionLists.{pairs_of}

-- ---- commands that change the stack alone

abbrev pub Row : Type 0
Row = Result (List Entry) (Fault Name)

abbrev pub nil_row : List Entry → Row
nil_row stack = Ok (pushed (record { object = list no_objects; origin = Make words.Nil NoOrigins }) stack)

abbrev pub pop_row : List Entry → Row
pop_row stack = do
  _ ← object_at 0 stack
  Ok (dropped 1 stack)

-- the first object of a list and the rest
abbrev pub first_of : Objects → Result (Object × Objects) (Fault Name)
first_of no_objects = Err EmptyList
first_of (more_objects o os) = Ok (o, os)

-- the head of a list, and on top its tail, each with the origin that stands in the list's cons tree
abbrev pub hd_tl_row : List Entry → Row
hd_tl_row stack = do
  l ← list_entry 0 stack
  parts ← first_of l.0
  Ok (exchanged 1 (record { object = parts.0; origin = operand 0 l.1 }
      ∷ record { object = list parts.1; origin = operand 1 l.1 } ∷ []) stack)

-- the number 6 alone is a version
abbrev pub version_row : List Entry → Row
version_row stack = do
  k ← number_on 0 stack
  _ ← unless (VersionUnsupported k) (int_eq k (pos 6))
  Ok (dropped 1 stack)

-- ---- commands that make one object of their operands

-- what a word makes of the entries on the top, with them as operands
abbrev pub made : Cmd → List Entry → Result Entry (Fault Name)
made w stack = do
  o ← made_by (maker w) (λ n. object_at n stack)
  Ok (record { object = o; origin = Make w (origins_of (top (arity (maker w)) stack)) })

-- in the place of its operands
abbrev pub making : Cmd → List Entry → Row
making w stack = do
  e ← made w stack
  Ok (replaced (arity (maker w)) e stack)

-- a constant and a type operator have the origin that their words give
abbrev pub constant_entry : Name → Entry
constant_entry n = record { object = constant n; origin = constant_origin (Named n) }

abbrev pub type_op_entry : Name → Entry
type_op_entry n = record { object = type_op n; origin = type_op_origin (Named n) }

abbrev pub type_op_row : Context → List Entry → Row
type_op_row c stack = do
  n ← name_on 0 stack
  Ok (replaced 1 (type_op_entry (renamed names c.interpretation.type_ops n)) stack)

abbrev pub const_row : Context → List Entry → Row
const_row c stack = do
  n ← name_on 0 stack
  Ok (replaced 1 (constant_entry (renamed names c.interpretation.constants n)) stack)

-- ---- what `axiom` takes

-- the first that is the sequent
abbrev pub given_as : Sequent Name → List Given → Option Given
given_as q = find (λ g. same_sequent names g.sequent q)

-- the assumption that is there, or a new one at the end
abbrev pub or_assumed : Option Given → Given → RunState → Given × RunState
or_assumed (Some a) g run = (a, run)
or_assumed None g run = (g, record run { assumptions = run.assumptions ++ g ∷ [] })

abbrev pub theorem_entry : Given → Entry
theorem_entry g = record { object = theorem g.sequent; origin = g.origin }

-- ---- commands that add a definition

abbrev pub definitions_of : List Made → List (Definition Name)
definitions_of = map (λ d. d.definition)

-- the theorems of the definition that d defines, from the j-th on
abbrev pub theorem_entries : Origin Name → ℕ → List (Sequent Name) → List Entry
theorem_entries d j [] = []
theorem_entries d j (q ∷ qs) = record { object = theorem q; origin = Outcome (suc j) d }
    ∷ theorem_entries d (suc j) qs

-- the theorems of the definition that a rule gives after those of the run, and the run with it at their end
abbrev pub defined : (List (Definition Name) → Defining names) → Origin Name → RunState
    → Result (List Entry × RunState) (Fault Name)
defined rule origin run = do
  d ← rule (definitions_of run.definitions)
  Ok (
    theorem_entries origin 0 (theorems names d),
    record run
        { definitions = run.definitions ++ record { definition = d; origin = origin } ∷ [] },
  )

-- the symbols that were defined and their theorems, in the place of the top n entries
abbrev pub with_defined : ℕ → List Entry → List Entry × RunState → State → State
with_defined n symbols made s =
    record { article = record s.article { stack = exchanged n (symbols ++ made.0) s.article.stack }; run = made.1 }

-- the origin at a place, 0 at the top; some origin where there is none
abbrev pub origin_at : ℕ → List Entry → Origin Name
origin_at n stack = origin_or (entry_at n stack)
  where
    origin_or : Result Entry (Fault Name) → Origin Name
    origin_or (Ok e) = e.origin
    origin_or (Err f) = Number (pos 0)

-- the origin of a constant's definition, its name as the context reads it
abbrev pub const_defining : Name → List Entry → Origin Name
const_defining m stack = Define words.DefineConst (from_list (Named m ∷ origin_at 0 stack ∷ []))

abbrev pub define_const_row : Context → State → Result State (Fault Name)
define_const_row c s = do
  t ← term_on 0 s.article.stack
  n ← name_on 1 s.article.stack
  let m = renamed names c.interpretation.constants n in
      defined (λ ds. const_definition names ds m t) (const_defining m s.article.stack) s.run
      >>= λ made. Ok (with_defined 2 (constant_entry m ∷ []) made s)

-- the origin of a type operator's definition, its names as the context reads them
abbrev pub type_defining : (op abs rep : Name) → List Entry → Origin Name
type_defining op abs rep stack = Define words.DefineTypeOp
    (from_list (Named op ∷ Named abs ∷ Named rep ∷ origin_at 1 stack ∷ origin_at 0 stack ∷ []))

-- from the top: the theorem, the list of type variables, and the names rep, abs and that of the operator
abbrev pub define_type_op_row : Context → State → Result State (Fault Name)
define_type_op_row c s = do
  th ← theorem_on 0 s.article.stack
  vars ← names_on 1 s.article.stack
  rep ← name_on 2 s.article.stack
  abs ← name_on 3 s.article.stack
  n ← name_on 4 s.article.stack
  let op = renamed names c.interpretation.type_ops n in
      let a = renamed names c.interpretation.constants abs in
      let r = renamed names c.interpretation.constants rep in
      defined (λ ds. type_definition names ds op a r vars th) (type_defining op a r s.article.stack) s.run
      >>= λ made. Ok (with_defined 5 (type_op_entry op ∷ constant_entry a ∷ constant_entry r ∷ []) made s)

-- a list of constants, with the cons tree of their origins
abbrev pub constants_of : List Name → Objects
constants_of [] = no_objects
constants_of (n ∷ ns) = more_objects (constant n) (constants_of ns)

abbrev pub constants_origin : List Name → Origin Name
constants_origin [] = Make words.Nil NoOrigins
constants_origin (n ∷ ns) = make_two words.Cons (constant_origin (Named n)) (constants_origin ns)

abbrev pub constants_entry : List Name → Entry
constants_entry ns = record { object = list (constants_of ns); origin = constants_origin ns }

-- the origin of the definition of a list of constants, their names as the context reads them
abbrev pub list_defining : Context → List Entry → Origin Name
list_defining c stack =
    Define words.DefineConstList
    (from_list (renamed_pairs (renamed names c.interpretation.constants) (origin_at 1 stack) ∷ origin_at 0 stack
    ∷ []))

-- the theorem is on the top, and the list with the names and the variables below it
abbrev pub define_const_list_row : Context → State → Result State (Fault Name)
define_const_list_row c s = do
  th ← theorem_on 0 s.article.stack
  os ← list_on 1 s.article.stack
  pairs ← pairs_of os
  let ns = map (λ p. renamed names c.interpretation.constants p.0) pairs in
      defined (λ ds. list_definition names ds ns (map (λ p. p.1) pairs) th) (list_defining c s.article.stack) s.run
      >>= λ made. Ok (with_defined 2 (constants_entry ns ∷ []) made s)

-- ---- commands that read or change the dictionary or the exports

-- the entry below the key stays, and the key goes
abbrev pub def_row : ArticleState → Result ArticleState (Fault Name)
def_row s = do
  k ← number_on 0 s.stack
  e ← entry_at 1 s.stack
  Ok (record s { stack = dropped 1 s.stack; dictionary = dictionaries.insert s.dictionary k e })

abbrev pub ref_row : ArticleState → Result ArticleState (Fault Name)
ref_row s = do
  k ← number_on 0 s.stack
  e ← some_or (NoEntry k) (dictionaries.get s.dictionary k)
  Ok (record s { stack = dropped 1 s.stack ++ e ∷ [] })

-- the entry under the key comes back to the stack, and goes from the dictionary
abbrev pub remove_row : ArticleState → Result ArticleState (Fault Name)
remove_row s = do
  k ← number_on 0 s.stack
  e ← some_or (NoEntry k) (dictionaries.get s.dictionary k)
  Ok (record s { stack = dropped 1 s.stack ++ e ∷ []; dictionary = dictionaries.remove s.dictionary k })

-- whether the sequent is exported already
abbrev pub is_exported : Sequent Name → List Export → Bool
is_exported q [] = false
is_exported q (e ∷ es) = same_sequent names q e.sequent || is_exported q es

-- a sequent is exported once, at its first place
abbrev pub exported : Export → List Export → List Export
exported e es = cond (is_exported e.sequent es) es (es ++ e ∷ [])

abbrev pub thm_row : ArticleState → Result ArticleState (Fault Name)
thm_row s = do
  p ← term_on 0 s.stack
  hyps ← terms_on 1 s.stack
  q ← theorem_on 2 s.stack
  _ ← unless ExportMismatch (same_sequent names q (record { hyps = hyps; concl = p }))
  Ok (record s {
    stack = dropped 3 s.stack;
    exports = exported
        (record {
          sequent = q;
          roots = record {
            theorem = origin_at 2 s.stack;
            list = origin_at 1 s.stack;
            term = origin_at 0 s.stack;
          };
        }) s.exports;
  })
