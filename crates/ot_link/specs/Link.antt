-- The run of theory files.
use Rattle.std.specs.Prelude.{ℕ, zero, suc, List, [], ◌∷◌, ◌++◌, ◌==◌, codes, flat_map, slice_get}
use Rattle.std.specs.Prelude.{slice_index_or, Option, Some, None, Ok, Err, if◌then◌else◌}
use Rattle.std.specs.List.{list_any}
use Rattle.std.specs.Str.{bytes_eq}
use Rattle.ot_theory.specs.Theory.{BlockText, TheoryText, theory}
use Rattle.ot_blocks.specs.Structure.{block_places, plan}
use Rattle.ot_blocks.specs.Paths.{package_path}
use Rattle.ot_blocks.specs.declared.fault.StructureFault.TheVariants.{PackageCycle, PackageDepth}
use Rattle.ot_machine.specs.States.{Export, RunState, Context, fresh_run, no_context}
use Rattle.ot_link.specs.Stops.{InStructure, Linked, answered, ◌>>=◌, Setting, file_at}
use Rattle.ot_link.specs.Planned.{Planned, within, in_theory, in_structure}
use Rattle.ot_link.specs.Blocks.{Ran, Opener, run_block}

-- ---- the blocks of a file

-- the exports of the blocks that have run, by their places
abbrev pub Done : Type 0
Done = ℕ → List Export

abbrev pub none_done : Done
none_done b = []

abbrev pub with_done : Done → ℕ → List Export → Done
with_done done b exports c = if b == c then exports else done c

-- the exports of a block's imports, in the order of the lines
abbrev pub imported : List (List ℕ) → Done → ℕ → List Export
imported imports done b = flat_map done (slice_index_or imports b [])

-- the block at a place, if there is one
abbrev pub run_at : Setting → Opener → List ℕ → Context → List Export → Option BlockText → RunState → Linked Ran
run_at e opener path outer imports None r = answered (Ok (record { exports = []; run = r }))
run_at e opener path outer imports (Some b) r = run_block e opener path outer b imports r

-- blocks in their order
abbrev pub run_blocks : Setting → Opener → List ℕ → Context → Planned → List ℕ → Done → RunState
    → Linked (Done × RunState)
run_blocks e opener path outer f [] done r = answered (Ok (done, r))
run_blocks e opener path outer f (b ∷ bs) done r =
    run_at e opener path outer (imported f.plan.imports done b) (slice_get f.blocks b) r >>= λ ran.
    run_blocks e opener path outer f bs (with_done done b ran.exports) ran.run

-- the exports of a place, if there is one
abbrev pub exports_at : Done → Option ℕ → List Export
exports_at done None = []
exports_at done (Some b) = done b

-- the blocks that `main` reaches; the exports are those of `main`
abbrev pub run_planned : Setting → Opener → List ℕ → Context → RunState → Planned → Linked Ran
run_planned e opener path outer r f =
    run_blocks e opener path outer f f.plan.order none_done r >>= λ ended.
    answered (Ok (record { exports = exports_at ended.0 (block_places f.blocks (codes "main")); run = ended.1 }))

-- the text of a theory file
abbrev pub text_at : Setting → List ℕ → Linked (List ℕ)
text_at e path = file_at e path >>= λ bytes. answered (within e.limits.theory_bytes path bytes)

-- the theory file of a path
abbrev pub theory_at : Setting → List ℕ → Linked TheoryText
theory_at e path = text_at e path >>= λ text. answered (in_theory path (theory text))

-- a theory file that was read, in an outer context; a fault of its structure comes before those of the run
abbrev pub run_theory : Setting → Opener → List ℕ → Context → RunState → TheoryText → Linked Ran
run_theory e opener path outer r t =
    answered (in_structure path (plan t.blocks)) >>= λ p.
    run_planned e opener path outer r (record { blocks = t.blocks; plan = p })

-- the theory file of a path, in an outer context
abbrev pub run_file : Setting → Opener → List ℕ → Context → RunState → Linked Ran
run_file e opener path outer r = theory_at e path >>= run_theory e opener path outer r

-- ---- packages

-- a package isn't opened inside itself; the chain has the full names of the packages that are being run
abbrev pub unless_open : List (List ℕ) → List ℕ → ℕ → List ℕ → Linked Ran → Linked Ran
unless_open chain path line full inside =
    if list_any (bytes_eq full) chain then answered (Err (InStructure path line PackageCycle)) else inside

-- how a theory file opens packages, where so many more may be opened inside each other
abbrev pub opener : ℕ → Setting → List (List ℕ) → List ℕ → Opener
opener zero e chain path line full c r =
    unless_open chain path line full (answered (Err (InStructure path line PackageDepth)))
opener (suc left) e chain path line full c r =
    unless_open chain path line full
    (run_file e (opener left e (chain ++ full ∷ []) (package_path e.packages full)) (package_path e.packages full) c
    r)

-- a theory file that was read, and all that it asks for, from no assumption and no definition
abbrev pub link_theory : Setting → List ℕ → TheoryText → Linked Ran
link_theory e path = run_theory e (opener e.limits.package_depth e [] path) path no_context fresh_run

-- the theory file of a path and all that it asks for
abbrev pub link : Setting → List ℕ → Linked Ran
link e path = theory_at e path >>= link_theory e path
