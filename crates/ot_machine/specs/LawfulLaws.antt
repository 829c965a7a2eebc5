-- The laws of lawful states, over the names that may be used.
use Rattle.std.specs.Prelude.{◌≡◌, ℕ, suc, true, List, Some, Ok, Err, slice_get}
use Rattle.std.specs.List.{All}
use Rattle.ot_logic.specs.Names.{Name}
use Rattle.ot_logic.specs.Naming.{names}
use Rattle.ot_logic.specs.Trees.{Tm, Sequent}
use Rattle.ot_logic.specs.Hol.{theorems, same_sequent}
use Rattle.ot_logic.specs.Faults.{Fault, Nesting}
use Rattle.ot_kernel.specs.Axioms.{axiom_rule}
use Rattle.ot_logic.specs.Answers.{◌>>=◌}
use Rattle.ot_scan.specs.Lines.{Lines, Finished, Broken, Next, IsLineText}
use Rattle.ot_scan.specs.Words.{WordValue, Quoted, word}
use Rattle.ot_trace.specs.Origins.{Origin, Outcome}
use Rattle.ot_machine.specs.Objects.{Objects, theorem}
use Rattle.ot_machine.specs.Places.{as_each, as_term}
use Rattle.ot_machine.specs.Discharge.{element_entries, discharged}
use Rattle.ot_machine.specs.States.{Entry, Export, Given, Made, RunState, State, Context, fresh_article, fresh_run}
use Rattle.ot_machine.specs.Step.{named, command_of, step}
use Rattle.ot_machine.specs.Run as articles
use Rattle.ot_machine.specs.Commanded.{LeadsTo}
use Rattle.ot_machine.specs.Values.{value}
use Rattle.ot_machine.specs.Lawful.{run_basis, IsLarger, IsLawfulExport, IsLawfulRun}
use Rattle.ot_machine.specs.Lawful.{IsLawful, Keeps, AreLawfulGivens, IsNaming}

-- the state that a run leaves
abbrev pub left : articles.Outcome → State
left (articles.Ended s) = s
left (articles.Stopped number fault s) = s

module _ (P : Name → Type 0) where
  -- the names that a line can say may be used
  abbrev pub CanBeNamed : Type 0
  CanBeNamed = (text : List ℕ) (n : Name) → IsLineText text → command_of (Quoted text) ≡ Ok (named n) → P n

  -- each name of the lines may be used
  abbrev pub AreNamed : Lines → Type 0
  AreNamed Finished = Unit {0}
  AreNamed (Broken number fault) = Unit {0}
  AreNamed (Next number text lines) = ((n : Name) → (word text >>= command_of) ≡ Ok (named n) → P n) × AreNamed lines

  -- a run before its first article is lawful, and so is an article before its first command
  abbrev pub FreshIsLawful : Type 0
  FreshIsLawful = IsLawfulRun P fresh_run
      × ((run : RunState) → IsLawfulRun P run → IsLawful P (record { article = fresh_article; run = run }))

  -- a step keeps a state lawful, in a context whose theorems are lawful
  abbrev pub StepIsLawful : Type 0
  StepIsLawful = (c : Context) (s t : State) (w : WordValue) → IsNaming P c
      → ((n : Name) → command_of w ≡ Ok (named n) → P n) → AreLawfulGivens P s.run c.theorems → IsLawful P s
      → step c s w ≡ Ok t → Keeps P s t

  -- so do the words of lines, whatever these are
  abbrev pub LinesAreLawful : Type 0
  LinesAreLawful = (c : Context) (s t : State) → IsNaming P c → CanBeNamed → AreLawfulGivens P s.run c.theorems
      → IsLawful P s → LeadsTo c s t → Keeps P s t

  -- and the run of an article, up to its end or to its first fault
  abbrev pub RunIsLawful : Type 0
  RunIsLawful = (c : Context) (lines : Lines) (s : State) → IsNaming P c → AreNamed lines
      → AreLawfulGivens P s.run c.theorems → IsLawful P s → Keeps P s (left (articles.run c lines s))

  -- theorems and exports that are lawful over a run are so over a larger one
  abbrev pub LawfulStays : Type 0
  LawfulStays = (r q : RunState) → IsLarger (run_basis P r) (run_basis P q)
      → ((gs : List Given) → AreLawfulGivens P r gs → AreLawfulGivens P q gs)
      × ((es : List Export) → All (IsLawfulExport (run_basis P r)) es → All (IsLawfulExport (run_basis P q)) es)

  -- the theorems of a definition are the values of its `result` origins
  abbrev pub ResultsAreTheorems : Type 0
  ResultsAreTheorems = (run : RunState) → IsLawfulRun P run → (i : ℕ) (m : Made) → slice_get run.definitions i
      ≡ Some m → (j : ℕ) (q : Sequent Name) → slice_get (theorems names m.definition) j ≡ Some q
      → value (Outcome (suc j) m.origin) ≡ Ok (theorem q)

-- ---- what `axiom` pushes

-- the theorem that is pushed is the stated one, up to the order of hypotheses; the limit alone refuses a theorem of
-- the context
abbrev pub AxiomGivesItsSequent : Type 0
AxiomGivesItsSequent = (c : Context) (os : Objects) (o : Origin Name) (hyps : List (Tm Name)) (p : Tm Name)
    (g : Given) (run : RunState) → as_each as_term os ≡ Ok hyps → axiom_rule hyps p ≡ Ok g.sequent
    → ((t : Entry × RunState) → discharged c (element_entries os o) g run ≡ Ok t
    → (r : Sequent Name) × (t.0.object ≡ theorem r) × (same_sequent names r g.sequent ≡ true))
    × ((f : Fault Name) → discharged c (element_entries os o) g run ≡ Err f → f ≡ Nesting)
