-- The structure of the blocks of a theory file: its faults, each block's imports and source, and the plan of their
-- run.
use Rattle.std.specs.Prelude.{◌≡◌, ◌≢◌, ◌<◌, ℕ, List, [], ◌∷◌, true, Option, Some, None, Result, Ok, Err, map, length}
use Rattle.std.specs.Prelude.{codes, find, filter_map, flat_map, position, is_some, slice_index_or, if◌then◌else◌}
use Rattle.std.specs.Option.{option_map}
use Rattle.std.specs.Str.{bytes_eq}
use Rattle.ot_logic.specs.Answers.{◌>>=◌}
use Rattle.ot_logic.specs.Lists.{IsMember}
use Rattle.ot_theory.specs.Theory.{TagText, BlockText, has_block}
use Rattle.ot_theory.specs.Values.{key_of, is_source}
use Rattle.ot_theory.specs.declared.keys.Key.{Key}
use Rattle.ot_theory.specs.declared.keys.Key.TheVariants as keys
use Rattle.ot_walk.specs.Walk.{Walk, Walked, Stops, TooDeep}
use Rattle.ot_blocks.specs.Order.{order_of}
use Rattle.ot_blocks.specs.Ordering.{IsOrder}
use Rattle.ot_blocks.specs.Paths.{is_package}
use Rattle.ot_blocks.specs.declared.walk.Import.{Import}
use Rattle.ot_blocks.specs.declared.fault.StructureFault.{StructureFault}
use Rattle.ot_blocks.specs.declared.fault.StructureFault.TheVariants.{UnknownImport, BadPackageName, ImportCycle}

-- ---- names of blocks

-- where a name leads
abbrev pub Places : Type 0
Places = List ℕ → Option ℕ

-- to the first block that has it
abbrev pub block_places : List BlockText → Places
block_places blocks name = position (λ b. bytes_eq b.name name) blocks

-- ---- statements

-- what is wrong with a statement
abbrev pub statement_fault : Places → Key → List ℕ → Option StructureFault
statement_fault places keys.Import value = if is_some (places value) then None else Some UnknownImport
statement_fault places keys.Package value = if is_package value then None else Some BadPackageName
statement_fault places keys.Article value = None
statement_fault places keys.Interpret value = None
statement_fault places keys.Other value = None

-- the block that a statement imports
abbrev pub imported : Places → Key → List ℕ → Option ℕ
imported places keys.Import value = places value
imported places keys.Package value = None
imported places keys.Article value = None
imported places keys.Interpret value = None
imported places keys.Other value = None

-- its fault, with its line
abbrev pub fault_of : Places → TagText → Option (ℕ × StructureFault)
fault_of places t = option_map (λ fault. (t.line, fault)) (statement_fault places (key_of t.key) t.value)

-- the import that it is
abbrev pub import_of : Places → TagText → Option Import
import_of places t =
    option_map (λ block. record { line = t.line; block = block }) (imported places (key_of t.key) t.value)

-- ---- blocks

-- the imports of a block, in the order of their lines
abbrev pub imports_of : Places → BlockText → List Import
imports_of places b = filter_map (import_of places) b.statements

-- the article or the package of a block
abbrev pub source_of : BlockText → Option TagText
source_of b = find (λ t. is_source (key_of t.key)) b.statements

-- the imports of each block, reached or not
abbrev pub graph_of : Places → List BlockText → List (List Import)
graph_of places blocks = map (imports_of places) blocks

-- the faults of the statements of all blocks, reached or not, in the order of their lines
abbrev pub faults_of : Places → List BlockText → List (ℕ × StructureFault)
faults_of places blocks = filter_map (fault_of places) (flat_map (λ b. b.statements) blocks)

-- the same where names lead to the file's own blocks
abbrev pub structure_faults : List BlockText → List (ℕ × StructureFault)
structure_faults blocks = faults_of (block_places blocks) blocks

-- ---- the plan

-- the blocks that each block imports, and the order in which those run that `main` reaches
pub record PlanText : Type 0 where
  pub imports : List (List ℕ)
  pub order : List ℕ

-- the blocks that each block imports
abbrev pub imported_blocks : List (List Import) → List (List ℕ)
imported_blocks g = map (λ is. map (λ i. i.block) is) g

-- the order from this block, if there is one
abbrev pub order_at : List (List Import) → Option ℕ → Walk ℕ ℕ
order_at g None = Walked []
order_at g (Some main) = order_of g main

-- the order from `main`
abbrev pub main_order : List BlockText → Walk ℕ ℕ
main_order blocks = order_at (graph_of (block_places blocks) blocks) (block_places blocks (codes "main"))

-- the first of these faults, or none
abbrev pub first_fault : List (ℕ × StructureFault) → Result (Unit {0}) (ℕ × StructureFault)
first_fault [] = Ok tt
first_fault (fault ∷ faults) = Err fault

-- the order, or the line that leads back; that the bound ran out never comes
abbrev pub ordered : Walk ℕ ℕ → Result (List ℕ) (ℕ × StructureFault)
ordered (Walked order) = Ok order
ordered (Stops line) = Err (line, ImportCycle)
ordered TooDeep = Ok []

-- the plan of a theory file, or its first fault: those of its statements come before a cycle
abbrev pub plan : List BlockText → Result PlanText (ℕ × StructureFault)
plan blocks =
    first_fault (structure_faults blocks) >>= λ sound.
    ordered (main_order blocks) >>= λ order.
    Ok (record { imports = imported_blocks (graph_of (block_places blocks) blocks); order = order })

-- ---- laws

-- a law: in a theory file the walk never runs out of its bound
abbrev pub PlanEnds : Type 0
PlanEnds = (blocks : List BlockText) → main_order blocks ≢ TooDeep

-- each of the plan's numbers is the place of one of so many blocks
pub record IsWithin (count : ℕ) (p : PlanText) : Type 0 where
  pub lists : length p.imports ≡ count
  pub imports : (b block : ℕ) → IsMember block (slice_index_or p.imports b []) → block < count
  pub order : (block : ℕ) → IsMember block p.order → block < count

-- no statement has a fault, and the order is that of the blocks that `main` reaches
pub record IsPlan (blocks : List BlockText) (p : PlanText) : Type 0 where
  pub sound : structure_faults blocks ≡ []
  pub within : IsWithin (length blocks) p
  pub imports : p.imports ≡ imported_blocks (graph_of (block_places blocks) blocks)
  pub main : ℕ
  pub main_is : block_places blocks (codes "main") ≡ Some main
  pub order : IsOrder (graph_of (block_places blocks) blocks) main p.order

-- a law: what the plan is
abbrev pub GivesPlan : Type 0
GivesPlan = (blocks : List BlockText) (p : PlanText) → has_block blocks (codes "main") ≡ true → plan blocks ≡ Ok p
    → IsPlan blocks p
