-- What the check of the log of a run ends with.
use Rattle.std.specs.Prelude.{◌≡◌, ◌≤◌, ◌<◌, ◌^◌, ℕ, List, [], ◌∷◌, map, length}
use Rattle.std.specs.List.{All}
use Rattle.ot_logic.specs.Lists.{IsMember}
use Rattle.ot_logic.specs.Names.{Name}
use Rattle.ot_logic.specs.Naming.{names}
use Rattle.ot_logic.specs.Trees.{Sequent}
use Rattle.ot_trace.specs.Origins.{Origin}
use Rattle.ot_trace.specs.Reach.{IsReached}
use Rattle.ot_written.specs.Same.{same_origin}
use Rattle.ot_written.specs.Needed.{firsts_by, is_among, needed_definitions}
use Rattle.std.specs.List.{filter}
use Rattle.ot_written.specs.Written.{roots_of}
use Rattle.ot_log_format.specs.State.{LogState}
use Rattle.ot_log_format.specs.Check.{Ends}
use Rattle.ot_print.specs.Laws.{IsSequentOf, IsDefinitionOf}
use Rattle.ot_verify.specs.Reading.{log_check}
use Rattle.ot_machine.specs.States.{Export, Given, Made, RunState}
use Rattle.ot_machine.specs.Lawful.{IsLawfulRun, IsLawfulExport, AreApart, run_basis}
use Rattle.ot_machine.specs.Writable.{IsWritable}
use Rattle.ot_log_law.specs.Writing.{log_bytes}

-- ---- the bytes

abbrev pub origins_made : RunState → List (Origin Name)
origins_made r = map (λ m. m.origin) r.definitions

abbrev pub export_roots : List Export → List (Origin Name)
export_roots es = roots_of (map (λ e. e.roots) es)

-- the log of exports of a run
abbrev pub run_log : RunState → List Export → List ℕ
run_log r es = log_bytes (origins_made r) (map (λ e. e.roots) es)

-- ---- what is needed

-- the definitions whose origins the exports need, of several with one origin the first
abbrev pub needed_made : RunState → List Export → List Made
needed_made r es =
    filter (λ m. is_among (same_origin names.same) m.origin
    (needed_definitions (same_origin names.same) (export_roots es) (origins_made r)))
    (firsts_by (same_origin names.same) (λ m. m.origin) r.definitions)

-- an assumption whose origin the exports lead to
abbrev pub IsNeeded : RunState → List Export → Given → Type 0
IsNeeded r es g = IsMember g r.assumptions × IsReached (export_roots es) (origins_made r) g.origin

-- two lists of one length, each element of which is the same as the one at its place in the other
abbrev pub AreSame : {A B : Type 0} → (A → B → Type 0) → List A → List B → Type 0
AreSame Same [] [] = Unit {0}
AreSame Same (x ∷ xs) (y ∷ ys) = Same x y × AreSame Same xs ys
AreSame Same _ _ = ⊥

-- ---- the check

-- the check of a log of at most max bytes ends: with the exports as results, in their order; with the needed
-- definitions, in their old order; and with the needed assumptions, each once
pub record IsLogOf (max : ℕ) (r : RunState) (es : List Export) (bytes : List ℕ) : Type 0 where
  pub now : LogState Name
  pub ends : log_check max bytes ≡ Ends now
  pub results : AreSame (λ q (e : Export). IsSequentOf q e.sequent) now.results es
  pub definitions : AreSame (λ d (m : Made). IsDefinitionOf d m.definition) now.definitions (needed_made r es)
  pub only : (q : Sequent Name) → IsMember q now.assumptions → (g : Given) × IsNeeded r es g × IsSequentOf q g.sequent
  pub all : (g : Given) → IsNeeded r es g → (q : Sequent Name) × IsMember q now.assumptions × IsSequentOf q g.sequent
  pub apart : AreApart (λ q. q) now.assumptions

-- so it is with the log of lawful exports of a lawful run, whose names a line can say
abbrev pub RunLogLaw : Type 0
RunLogLaw =
    (r : RunState) (es : List Export) (max : ℕ) → IsLawfulRun IsWritable r
    → All (IsLawfulExport (run_basis IsWritable r)) es
    → AreApart (λ (e : Export). e.sequent) es
    → length (run_log r es) ≤ max → max < 2 ^ 63 → IsLogOf max r es (run_log r es)
