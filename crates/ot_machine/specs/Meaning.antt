-- What a machine stands for, over its session.
use Rattle.std.specs.Prelude.{◌≡◌, ◌<◌, ◌≤◌, ℕ, suc, ℤ, pos, List, [], ◌∷◌, ◌++◌, length}
use Rattle.std.specs.Prelude.{map, slice_get, slice_index_or, Option, Some, None}
use Rattle.std.specs.List.{All}
use Rattle.std.specs.Map.{lookup}
use Rattle.std.specs.Ordering.{int_cmp, int_eq}
use Rattle.std.specs.FinMap.{FinMap, from_entries}
use Rattle.ot_logic.specs.Table.{Extends}
use Rattle.ot_logic.specs.Hol.{depth_limit}
use Rattle.ot_logic.specs.Names.{Name}
use Rattle.ot_logic.specs.Trees.{Sequent, Definition}
use Rattle.ot_kernel.specs.State as kernel
use Rattle.ot_kernel.specs.Alike.{AreFirstPlaces}
use Rattle.ot_machine.specs.Objects.{Object, Objects, number, name, list, type_op, a_type, constant}
use Rattle.ot_machine.specs.Objects.{variable, term, theorem, no_objects, more_objects, nesting}
use Rattle.ot_machine.specs.States.{Entry, Export, Given, Made, Version, open_version}
use Rattle.ot_machine.specs.States.{version_5, version_6, ArticleState, RunState, State}
use Rattle.ot_trace.specs.Origins.{Origin, Origins, Number, Named, Make, Define}
use Rattle.ot_trace.specs.Origins.{Outcome, NoOrigins, MoreOrigins, map_origin}
use Rattle.ot_trace.specs.Trace as trace
use Rattle.ot_machine.specs.declared.object.Object as object
use Rattle.ot_machine.specs.declared.object.Object.TheVariants as objects
use Rattle.ot_machine.specs.declared.object.List as items
use Rattle.ot_machine.specs.declared.object.List.TheVariants as lists
use Rattle.ot_machine.specs.declared.object.Cell as cell
use Rattle.ot_machine.specs.declared.object.Command as code_command
use Rattle.ot_machine.specs.declared.object.Command.TheVariants as commands
use Rattle.ot_machine.specs.Step.{Command, numeral, named, order}
use Rattle.ot_machine.specs.declared.object.Entry as code_entry
use Rattle.ot_machine.specs.declared.machine.Export as code
use Rattle.ot_machine.specs.declared.machine.Version as code_version
use Rattle.ot_machine.specs.declared.machine.Version.TheVariants as versions
use Rattle.ot_machine.specs.declared.session.Session.{Session}
use Rattle.ot_machine.specs.declared.machine.Machine.{Machine}

-- ---- objects, over the lists that the cells stand for

abbrev pub list_at : List Objects → items.List → Objects
list_at cs lists.Nil = no_objects
list_at cs (lists.Cell i) = slice_index_or cs i no_objects

abbrev pub object_of : kernel.State → List Objects → object.Object → Object
object_of k cs (objects.Number n) = number n
object_of k cs (objects.Name n) = name (kernel.name_at k n)
object_of k cs (objects.List l) = list (list_at cs l)
object_of k cs (objects.TypeOp n) = type_op (kernel.name_at k n)
object_of k cs (objects.Type t) = a_type (kernel.type_at k t)
object_of k cs (objects.Const n) = constant (kernel.name_at k n)
object_of k cs (objects.Var v) = variable (kernel.variable_at k v)
object_of k cs (objects.Term t) = term (kernel.term_at k t)
object_of k cs (objects.Theorem th) = theorem (kernel.theorem_at k th)

abbrev pub cell_of : kernel.State → List Objects → cell.Cell → Objects
cell_of k cs c = more_objects (object_of k cs c.head) (list_at cs c.tail)

-- the list of each cell, over those of the cells before it
abbrev pub cells_onto : kernel.State → List Objects → List cell.Cell → List Objects
cells_onto k cs [] = cs
cells_onto k cs (c ∷ more) = cells_onto k (cs ++ cell_of k cs c ∷ []) more

abbrev pub cells_of : kernel.State → List cell.Cell → List Objects
cells_of k = cells_onto k []

-- ---- numbers that are of the kernel, and of the first n cells

abbrev pub IsListIn : ℕ → items.List → Type 0
IsListIn n lists.Nil = Unit {0}
IsListIn n (lists.Cell i) = i < n

abbrev pub IsIn : kernel.State → ℕ → object.Object → Type 0
IsIn k n (objects.Number m) = Unit {0}
IsIn k n (objects.Name m) = m < length k.names
IsIn k n (objects.List l) = IsListIn n l
IsIn k n (objects.TypeOp m) = m < length k.names
IsIn k n (objects.Type t) = t < length k.types
IsIn k n (objects.Const m) = m < length k.names
IsIn k n (objects.Var v) = (v.name < length k.names) × (v.ty < length k.types)
IsIn k n (objects.Term t) = t < length k.terms
IsIn k n (objects.Theorem th) = th < length k.theorems

-- a cell stands for the list at its place, refers to cells before it, and has its nesting beside it
pub record IsCell (k : kernel.State) (cs : List Objects) (i : ℕ) (c : cell.Cell) : Type 0 where
  pub list_is : slice_get cs i ≡ Some (cell_of k cs c)
  pub head : IsIn k i c.head
  pub tail : IsListIn i c.tail
  pub nesting_is : c.nesting ≡ nesting (list (cell_of k cs c))
  pub shallow : c.nesting ≤ depth_limit

abbrev pub AreCells : kernel.State → List cell.Cell → Type 0
AreCells k cells = (i : ℕ) (c : cell.Cell) → slice_get cells i ≡ Some c → IsCell k (cells_of k cells) i c

-- how far a walk over a list has to go at the most
abbrev pub length_bound : items.List → ℕ
length_bound lists.Nil = 0
length_bound (lists.Cell i) = suc i

-- ---- commands

abbrev pub command_at : kernel.State → code_command.Command → Command
command_at k (commands.Numeral n) = numeral n
command_at k (commands.Named n) = named (kernel.name_at k n)
command_at k (commands.Order c) = order c

abbrev pub IsCommandIn : kernel.State → code_command.Command → Type 0
IsCommandIn k (commands.Numeral n) = Unit {0}
IsCommandIn k (commands.Named n) = n < length k.names
IsCommandIn k (commands.Order c) = Unit {0}

-- ---- origins

-- the origin of a number of the trace, over names
abbrev pub origin_of : Session → ℕ → Origin Name
origin_of s i = map_origin (kernel.name_at s.kernel) (trace.origin_at s.trace i)

-- the names of an origin are of the first n
abbrev mutual
  pub AreNamesBelow : ℕ → Origin ℕ → Type 0
  AreNamesBelow n (Number k) = Unit {0}
  AreNamesBelow n (Named m) = m < n
  AreNamesBelow n (Make w os) = AreAllNamesBelow n os
  AreNamesBelow n (Define w os) = AreAllNamesBelow n os
  AreNamesBelow n (Outcome j d) = AreNamesBelow n d

  pub AreAllNamesBelow : ℕ → Origins ℕ → Type 0
  AreAllNamesBelow n NoOrigins = Unit {0}
  AreAllNamesBelow n (MoreOrigins o os) = AreNamesBelow n o × AreAllNamesBelow n os

-- ---- a run

-- the givens of sequents and their steps, as far as there are both
abbrev pub givens_of : Session → List (Sequent Name) → List ℕ → List Given
givens_of s (q ∷ qs) (i ∷ is) = record { sequent = q; origin = origin_of s i } ∷ givens_of s qs is
givens_of s _ _ = []

abbrev pub made_of : Session → List (Definition Name) → List ℕ → List Made
made_of s (d ∷ ds) (i ∷ is) = record { definition = d; origin = origin_of s i } ∷ made_of s ds is
made_of s _ _ = []

abbrev pub run_of : Session → RunState
run_of s =
    record {
      assumptions = givens_of s s.kernel.assumptions s.assumption_steps.items;
      definitions = made_of s s.kernel.definitions s.definition_steps.items;
    }

-- the trace has names of the kernel alone, and each assumption and each definition has its step
pub record IsRun (s : Session) : Type 0 where
  pub named : All (AreNamesBelow (length s.kernel.names)) s.trace
  pub assumptions : All (λ i. i < length s.trace) s.assumption_steps.items
  pub each_assumption : length s.assumption_steps.items ≡ length s.kernel.assumptions
  pub definitions : All (λ i. i < length s.trace) s.definition_steps.items
  pub each_definition : length s.definition_steps.items ≡ length s.kernel.definitions

-- ---- a machine

-- a number without a step has its own origin
abbrev pub own_origin : object.Object → Origin Name
own_origin (objects.Number k) = Number k
own_origin o = Number (pos 0)

abbrev pub origin_or : Session → object.Object → Option ℕ → Origin Name
origin_or s o (Some i) = origin_of s i
origin_or s o None = own_origin o

abbrev pub entry_of : Session → List Objects → code_entry.Entry → Entry
entry_of s cs e = record { object = object_of s.kernel cs e.object; origin = origin_or s e.object e.step }

abbrev pub dictionary_of : Session → List Objects → List (ℤ × code_entry.Entry) → FinMap int_cmp Entry
dictionary_of s cs es = from_entries (map (λ e. (e.0, entry_of s cs e.1)) es)

abbrev pub export_of : Session → code.Export → Export
export_of s e = record {
  sequent = kernel.theorem_at s.kernel e.th;
  roots = record { theorem = origin_of s e.theorem; list = origin_of s e.list; term = origin_of s e.term };
}

abbrev pub version_of : code_version.Version → Version
version_of versions.Open = open_version
version_of versions.Five = version_5
version_of versions.Six = version_6

-- what the machine's lists stand for
abbrev pub lists_of : Session → Machine → List Objects
lists_of s m = cells_of s.kernel m.cells.items

abbrev pub article_of : Session → Machine → ArticleState
article_of s m = record {
  stack = map (entry_of s (lists_of s m)) m.stack.items;
  dictionary = dictionary_of s (lists_of s m) m.dictionary.entries;
  exports = map (export_of s) m.exports.items;
  count = m.count;
  version = version_of m.version;
}

-- the state that a machine and its session stand for
abbrev pub machine_state : Session → Machine → State
machine_state s m = record { article = article_of s m; run = run_of s }

-- a step is of the trace, and every object but a number has one
abbrev pub IsNumber : object.Object → Type 0
IsNumber (objects.Number k) = Unit {0}
IsNumber o = ⊥

abbrev pub HasStep : List (Origin ℕ) → object.Object → Option ℕ → Type 0
HasStep ts o (Some i) = i < length ts
HasStep ts o None = IsNumber o

-- an entry's numbers are of the kernel and of the first n cells, and its step of the trace
pub record IsEntryIn (s : Session) (n : ℕ) (e : code_entry.Entry) : Type 0 where
  pub object : IsIn s.kernel n e.object
  pub step : HasStep s.trace e.object e.step

pub record IsExportIn (s : Session) (e : code.Export) : Type 0 where
  pub th : e.th < length s.kernel.theorems
  pub theorem : e.theorem < length s.trace
  pub list : e.list < length s.trace
  pub term : e.term < length s.trace

-- the sequents of exports
abbrev pub exported_by : kernel.State → List code.Export → List (Sequent Name)
exported_by k = map (λ e. kernel.theorem_at k e.th)

-- the machine's numbers are of the session, and its exports are found by their sequents
pub record IsOf (s : Session) (m : Machine) : Type 0 where
  pub run : IsRun s
  pub stack : All (IsEntryIn s (length m.cells.items)) m.stack.items
  pub dictionary : (q : ℤ) (e : code_entry.Entry) → lookup (int_eq q) m.dictionary.entries ≡ Some e
      → IsEntryIn s (length m.cells.items) e
  pub exports : All (IsExportIn s) m.exports.items
  pub placed : AreFirstPlaces s.kernel (exported_by s.kernel m.exports.items) m.places
  pub cells : AreCells s.kernel m.cells.items

-- ---- a session that grew

-- its kernel and its trace grew
pub record Grows (old new : Session) : Type 0 where
  pub kernel : kernel.Keeps old.kernel new.kernel
  pub trace : Extends old.trace new.trace

-- the kernel alone grew, and what the machine stands for stays
pub record Carries (old new : Session) (m : Machine) : Type 0 where
  pub grown : kernel.Keeps old.kernel new.kernel
  pub trace : new.trace ≡ old.trace
  pub article : article_of new m ≡ article_of old m
  pub lists : lists_of new m ≡ lists_of old m
  pub of : IsOf new m

-- and what the run stands for
pub record Leaves (old new : Session) (m : Machine) : Type 0 where
  pub machine : Carries old new m
  pub run : run_of new ≡ run_of old

-- the trace alone grew, and what the run stands for stays
pub record Traces (old new : Session) : Type 0 where
  pub kernel : new.kernel ≡ old.kernel
  pub grown : Extends old.trace new.trace
  pub run : run_of new ≡ run_of old
  pub is_run : IsRun new
