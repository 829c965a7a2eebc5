-- What the machine's calls answer, against the stated machine.
use Rattle.std.specs.Prelude.{◌≡◌, ◌<◌, List, length, Result, Ok, Err, Option, Some, None}
use Rattle.ot_logic.specs.Names.{Name}
use Rattle.ot_logic.specs.Faults as faults
use Rattle.ot_scan.specs.Lines.{Lines}
use Rattle.ot_machine.specs.declared.fault.Fault.{Fault}
use Rattle.ot_machine.specs.declared.fault.Fault.TheVariants as code
use Rattle.ot_machine.specs.declared.fault.ArticleFault.{ArticleFault}
use Rattle.ot_machine.specs.declared.fault.ArticleFault.TheVariants as article
use Rattle.ot_machine.specs.Faults.{fault_of}
use Rattle.ot_kernel.specs.State as kernel
use Rattle.ot_machine.specs.declared.machine.Machine.{Machine}
use Rattle.ot_machine.specs.declared.session.Session.{Session}
use Rattle.ot_machine.specs.Objects.{no_objects, more_objects}
use Rattle.ot_machine.specs.declared.object.Object as object
use Rattle.ot_machine.specs.declared.object.List as items
use Rattle.ot_machine.specs.declared.object.Cell as cell
use Rattle.ot_machine.specs.Meaning.{machine_state, object_of, list_at, cells_of}
use Rattle.ot_machine.specs.Meaning.{length_bound, IsOf, IsIn, IsListIn, Grows}
use Rattle.ot_machine.specs.States.{State, Context}
use Rattle.ot_machine.specs.Run.{Ended, Stopped, run, IsReached}

-- the symbol that a fault names, where it names one, is of the kernel
abbrev pub IsSymbolIn : kernel.State → Fault → Type 0
IsSymbolIn k (code.Primitive s) = s.name < length k.names
IsSymbolIn k (code.AlreadyDefined s) = s.name < length k.names
IsSymbolIn k (code.SymbolInUse s) = s.name < length k.names
IsSymbolIn k e = Unit {0}

-- a refusal is the stated one, by the kernel's names; running out of memory may be answered at any point
abbrev pub Refuses : {X : Type 0} → kernel.State → Fault → Result X (faults.Fault Name) → Type 0
Refuses k e stated =
    IsSymbolIn k e × ((f : faults.Fault Name) → fault_of (kernel.name_at k) e ≡ Some f → stated ≡ Err f)

-- what was made is what is stated
abbrev pub Makes : {X Y : Type 0} → kernel.State → (X → Y) → Result X Fault → Result Y (faults.Fault Name) → Type 0
Makes k view (Ok x) stated = stated ≡ Ok (view x)
Makes k view (Err e) stated = Refuses k e stated

-- a change of old into new is the stated one; a refusal changes nothing
abbrev pub StepsTo : {X S : Type 0} → kernel.State → Result X Fault → Result S (faults.Fault Name) → S → S → Type 0
StepsTo k (Ok x) stated old new = stated ≡ Ok new
StepsTo k (Err e) stated old new = (new ≡ old) × Refuses k e stated

-- the first object of a list and the rest, where there is one
pub record IsFirstOf (k : kernel.State) (cells : List cell.Cell) (l : items.List) (o : object.Object)
    (rest : items.List) : Type 0 where
  pub list_is : list_at (cells_of k cells) l ≡ more_objects (object_of k (cells_of k cells) o)
      (list_at (cells_of k cells) rest)
  pub head : IsIn k (length cells) o
  pub tail : IsListIn (length cells) rest
  pub shorter : length_bound rest < length_bound l

abbrev pub IsHead : kernel.State → List cell.Cell → items.List → Option (object.Object × items.List) → Type 0
IsHead k cells l None = list_at (cells_of k cells) l ≡ no_objects
IsHead k cells l (Some p) = IsFirstOf k cells l p.0 p.1

-- what running the lines answered, by the kernel's names, and the state that it left
abbrev pub Runs : kernel.State → Result (Unit {0}) ArticleFault → Context → Lines → State → State → Type 0
Runs k (Ok u) c lines start now = run c lines start ≡ Ended now
Runs k (Err (article.At line fault)) c lines start now =
    (f : faults.Fault Name) × (fault_of (kernel.name_at k) fault ≡ Some f) × (run c lines start ≡ Stopped line f now)
Runs k (Err article.ReadFault) c lines start now = IsReached c lines start now
Runs k (Err (article.Memory memory)) c lines start now = IsReached c lines start now

-- the symbol that the fault at which an article stops names, where it names one, is of the kernel
abbrev pub NamesSymbolIn : kernel.State → ArticleFault → Type 0
NamesSymbolIn k (article.At line fault) = IsSymbolIn k fault
NamesSymbolIn k e = Unit {0}

-- a row was taken: the state moved by it, the session grew, and the machine is still of it
pub record TakesRow (result : Result (Unit {0}) Fault) (row : State → Result State (faults.Fault Name)) (s : Session)
    (m : Machine) (t : Session) (n : Machine) : Type 0 where
  pub moves : StepsTo t.kernel result (row (machine_state s m)) (machine_state s m) (machine_state t n)
  pub grown : Grows s t
  pub of : IsOf t n
