-- How the code's answers stand to the stated ones, unless memory ran out.
use Rattle.std.specs.Prelude.{◌≡◌, ℕ, List, [], map, Option, Some, None, Result, Ok, Err, Vec}
use Rattle.std.specs.Borrow.{Bor}
use Rattle.std.specs.Global.{Global}
use Rattle.std.specs.HashMap.{HashMap, get_by}
use Rattle.std.specs.Str.{bytes_eq}
use Rattle.ot_walk.specs.Walk.{Walk, Walked, Stops}
use Rattle.ot_blocks.specs.Structure.{Places, PlanText, first_fault}
use Rattle.ot_blocks.specs.declared.walk.Import.{Import}
use Rattle.ot_blocks.specs.declared.structure.Plan.{Plan}
use Rattle.ot_blocks.specs.declared.fault.PlanFault.{PlanFault}
use Rattle.ot_blocks.specs.declared.fault.PlanFault.TheVariants.{At, Memory}
use Rattle.ot_blocks.specs.declared.fault.StructureFault.{StructureFault}
use Rattle.ot_blocks.specs.declared.fault.StructureFault.TheVariants.{ImportCycle}

-- lists, without where they lie in memory
abbrev pub lists_of : {X : Type 0} → List (Vec X Global) → List (List X)
lists_of vs = map (λ v. v.items) vs

-- ---- the plan

-- a plan, likewise
abbrev pub plan_of : Plan → PlanText
plan_of p = record { imports = lists_of p.imports.items; order = p.order.items }

-- the stated plan, or the stated fault
abbrev pub Plans : Result Plan PlanFault → Result PlanText (ℕ × StructureFault) → Type 0
Plans (Ok p) stated = stated ≡ Ok (plan_of p)
Plans (Err (At line fault)) stated = stated ≡ Err (line, fault)
Plans (Err (Memory memory)) stated = Unit {0}

-- ---- its parts

-- the stated order, or the line that leads back
abbrev pub Walks : Result (Vec ℕ Global) PlanFault → Walk ℕ ℕ → Type 0
Walks (Ok order) stated = stated ≡ Walked order.items
Walks (Err (At line fault)) stated = (stated ≡ Stops line) × (fault ≡ ImportCycle)
Walks (Err (Memory memory)) stated = Unit {0}

-- where a map of names leads
abbrev pub places_in : {S : Type 0} → HashMap (Bor (List ℕ)) ℕ S → Places
places_in map name = get_by (λ key. bytes_eq name key.now) map

-- of a statement: what is stated, or its fault; no memory is taken
abbrev pub ReadsImport : Result (Option Import) PlanFault → Option (ℕ × StructureFault) → Option Import → Type 0
ReadsImport (Ok import) found stated = (found ≡ None) × (stated ≡ import)
ReadsImport (Err (At line fault)) found stated = found ≡ Some (line, fault)
ReadsImport (Err (Memory memory)) found stated = ⊥

-- the first of these faults
abbrev pub IsFirstFault : PlanFault → List (ℕ × StructureFault) → Type 0
IsFirstFault (At line fault) faults = first_fault faults ≡ Err (line, fault)
IsFirstFault (Memory memory) faults = Unit {0}

-- of statements: what is stated, where there is no fault, or the first fault
abbrev pub Collects : {A B : Type 0} → (A → B) → Result A PlanFault → List (ℕ × StructureFault) → B → Type 0
Collects value (Ok x) faults stated = (faults ≡ []) × (stated ≡ value x)
Collects value (Err e) faults stated = IsFirstFault e faults
