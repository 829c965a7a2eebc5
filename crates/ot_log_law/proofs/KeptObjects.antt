-- Objects that are kept.
use Rattle.std.proofs.Common.{◌≡◌, ◌≤◌, List, Ok, subst}
use Rattle.ot_logic.specs.Names.{Name}
use Rattle.ot_logic.specs.Naming.{names}
use Rattle.ot_logic.specs.Trees.{Tm}
use Rattle.ot_logic.specs.Hol.{depth_limit, depth_ty}
use Rattle.ot_machine.specs.Objects.{Object, Objects, number, name, list, type_op, a_type}
use Rattle.ot_machine.specs.Objects.{constant, variable, term, theorem, no_objects, more_objects}
use Rattle.ot_machine.specs.Places.{as_term, as_each}
use Rattle.ot_machine.specs.Writable.{IsWritable}
use Rattle.ot_machine.specs.NamesIn.{ObjectNamed, ObjectsNamed}
use Rattle.ot_machine.proofs.ObjectKinds.{term-is}
use Rattle.ot_log_law.proofs.Kept.{IsKeptTerm, IsKept, AllFit}
use Rattle.ot_log_law.proofs.Read.{each-holds}
use Rattle.ot_log_records.proofs.Fitting.{Fits}

-- its types, terms and sequents are
abbrev mutual
  pub IsKeptObject : Object → Type 0
  IsKeptObject (number k) = Unit {0}
  IsKeptObject (name n) = Unit {0}
  IsKeptObject (list os) = AreKept os
  IsKeptObject (type_op n) = Unit {0}
  IsKeptObject (a_type t) = depth_ty names t ≤ depth_limit
  IsKeptObject (constant n) = Unit {0}
  IsKeptObject (variable v) = depth_ty names v.ty ≤ depth_limit
  IsKeptObject (term t) = IsKeptTerm t
  IsKeptObject (theorem q) = IsKept q

  pub AreKept : Objects → Type 0
  AreKept no_objects = Unit {0}
  AreKept (more_objects o os) = IsKeptObject o × AreKept os

-- the terms of a list
pub each-term : (os : Objects) (ts : List (Tm Name)) → AreKept os → as_each as_term os ≡ Ok ts → AllFit ts
each-term =
    each-holds IsKeptObject AreKept (λ os h. h) (λ o os h. h) as_term
    (Fits names depth_limit) (λ o t h e. (subst IsKeptObject (term-is o t e) h).fits)

-- ---- kept, and with names that a line can say

abbrev pub IsSound : Object → Type 0
IsSound v = IsKeptObject v × ObjectNamed IsWritable v

abbrev pub AreSound : Objects → Type 0
AreSound os = AreKept os × ObjectsNamed IsWritable os

pub opened : (os : Objects) → IsSound (list os) → AreSound os
opened os h = h

pub first : (o : Object) (os : Objects) → AreSound (more_objects o os) → IsSound o × AreSound os
first o os h = ((h.0.0, h.1.0), (h.0.1, h.1.1))
