-- The run of an input, and of an input with its notation.
use Rattle.std.specs.Prelude.{ℕ, List, [], ◌∷◌, ◌++◌, map, Result, Ok, Err, if◌then◌else◌, ◌≡◌, MatchBool}
use Rattle.ot_args.specs.Grammar.{is_theory}
use Rattle.ot_io.specs.Folder.{Folder, bytes_at}
use Rattle.ot_link.specs.Blocks.{Ran, article_end}
use Rattle.ot_link.specs.Link.{link}
use Rattle.ot_link.specs.Shown.{shown}
use Rattle.ot_link.specs.Stops.{Stop, InArticle, InTheory, InStructure, TooLarge, Missing, Linked, answered}
use Rattle.ot_logic.specs.Answers.{◌>>=◌, some_or}
use Rattle.ot_logic.specs.Names.{Name}
use Rattle.ot_logic.specs.Naming.{names}
use Rattle.ot_logic.specs.Trees.{Sequent, Definition, Symbol}
use Rattle.ot_logic.specs.Limits.{article_limit, standard_limits}
use Rattle.ot_logic.specs.declared.limits.Limits.{Limits}
use Rattle.ot_machine.specs.Run.{Outcome, run}
use Rattle.ot_machine.specs.States.{State, no_context, fresh_article, fresh_run}
use Rattle.ot_pretty.specs.Summary.{hidden_in_run}
use Rattle.ot_scan.specs.Lines.{lines_of}
use Rattle.ot_program.specs.World.{World, is_standard}
use Rattle.ot_program.specs.declared.status.Status.{Status}
use Rattle.ot_program.specs.declared.status.Status.TheVariants.{Refused, NoFile}

-- ---- limits

-- the limits of the program
unfoldable pub limits : Limits
limits = standard_limits

-- ---- the run of an input

-- before the first line of an article, with no assumption and no definition
abbrev pub start : State
start = record { article = fresh_article; run = fresh_run }

-- how an article of these bytes ends on its own
abbrev pub outcome : List ℕ → Outcome
outcome bytes = run no_context (lines_of article_limit bytes) start

-- the run of an article on standard input, for which no file is needed
abbrev pub standard_run : List ℕ → List ℕ → Linked Ran
standard_run path bytes = answered (article_end path (outcome bytes))

-- the run of an article file
abbrev pub article_run : List ℕ → Folder → Linked Ran
article_run path folder = record {
  paths = path ∷ [];
  answer = some_or (Missing path) (bytes_at folder path) >>= λ bytes. article_end path (outcome bytes);
}

-- the run of a theory file, with packages from the folder of this name
unfoldable pub theory_run : List ℕ → List ℕ → Folder → Linked Ran
theory_run packages path folder = link (record { folder = folder; packages = packages; limits = limits }) path

-- the run of an input
abbrev pub run_at : List ℕ → List ℕ → World → Linked Ran
run_at packages path world =
    if is_standard path then standard_run path world.input
    else if is_theory path then theory_run packages path world.folder
    else article_run path world.folder

-- the paths of the files that the run of an input needs, in order
abbrev pub opened_at : List ℕ → List ℕ → Folder → List (List ℕ)
opened_at packages path folder =
    if is_standard path then []
    else if is_theory path then (theory_run packages path folder).paths
    else path ∷ []

-- its result
abbrev pub assumptions_of : Ran → List (Sequent Name)
assumptions_of r = map (λ a. a.sequent) r.run.assumptions

abbrev pub definitions_of : Ran → List (Definition Name)
definitions_of r = map (λ d. d.definition) r.run.definitions

abbrev pub exports_of : Ran → List (Sequent Name)
exports_of r = map (λ e. e.sequent) r.exports

-- ---- a run with its notation

-- a run, with the namespaces that its input shows
pub record Noted : Type 0 where
  pub shown : List Name
  pub ran : Ran

-- the namespaces that the tags of a theory file show
unfoldable pub theory_shown : List ℕ → Folder → Linked (List Name)
theory_shown path folder = shown (record { folder = folder; packages = []; limits = limits }) path

-- those that an input shows; an article shows none
abbrev pub shown_at : List ℕ → Folder → Linked (List Name)
shown_at path folder = if is_theory path then theory_shown path folder else answered (Ok [])

-- what is shown comes before the run, and stops it first
abbrev pub noted : Result (List Name) Stop → Result Ran Stop → Result Noted Stop
noted names ran = names >>= λ ns. ran >>= λ r. Ok (record { shown = ns; ran = r })

-- the run of an input with its notation
abbrev pub noted_at : List ℕ → List ℕ → World → Result Noted Stop
noted_at packages path world = noted (shown_at path world.folder).answer (run_at packages path world).answer

-- the paths of the files that both need
abbrev pub opened_noted : List ℕ → List ℕ → Folder → List (List ℕ)
opened_noted packages path folder = (shown_at path folder).paths ++ opened_at packages path folder

-- the symbols that a run writes by their base names: symbols of its assumptions, its exports and its definitions'
-- premises and theorems, in a namespace that is shown
abbrev pub notation : Noted → List (Symbol Name)
notation n = hidden_in_run n.shown (assumptions_of n.ran) (exports_of n.ran) (definitions_of n.ran)

-- ---- why a run stops

-- a file that isn't there has a status of its own; every other stop is refused
abbrev pub stop_status : Stop → Status
stop_status (InArticle path number fault) = Refused
stop_status (InTheory path number fault) = Refused
stop_status (InStructure path number fault) = Refused
stop_status (TooLarge path) = Refused
stop_status (Missing path) = NoFile

-- an answer whose stop is one of more kinds
abbrev pub stops_as : {A E F : Type 0} → (E → F) → Result A E → Result A F
stops_as f (Ok x) = Ok x
stops_as f (Err e) = Err (f e)

-- a stop in the article of this path, or that it isn't there
abbrev pub IsOwnStop : List ℕ → Stop → Type 0
IsOwnStop path (InArticle p line fault) = p ≡ path
IsOwnStop path (Missing p) = p ≡ path
IsOwnStop path (InTheory p line fault) = ⊥
IsOwnStop path (InStructure p line fault) = ⊥
IsOwnStop path (TooLarge p) = ⊥

-- of an article the stop is one in that article, of a theory file any
abbrev pub IsInputStop : List ℕ → Stop → Type 0
IsInputStop path stop = MatchBool (is_theory path) (Unit {0}) (IsOwnStop path stop)
