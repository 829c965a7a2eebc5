-- A definition that may be next, as the next of a kernel's definitions.
use Rattle.std.specs.Prelude.{◌≡◌, ℕ, ◌+◌, ◌<◌, List, [], ◌∷◌, ◌++◌, map, length}
use Rattle.std.specs.List.{All}
use Rattle.ot_logic.specs.Names.{Name}
use Rattle.ot_logic.specs.Lists.{IsSameSet}
use Rattle.ot_logic.specs.Trees.{Symbol, Sequent, Definition}
use Rattle.ot_logic.specs.Hol.{IsNext, theorems, defined, used}
use Rattle.ot_logic.specs.Naming.{names}
use Rattle.ot_logic.specs.Renamed.{map_symbol}
use Rattle.ot_laws.specs.Theorem.{IsTheorem}
use Rattle.ot_kernel.specs.declared.theorem.Theorem.{Theorem}
use Rattle.ot_kernel.specs.declared.definition.Definition as code
use Rattle.ot_kernel.specs.State.{State, name_at}
use Rattle.ot_kernel.specs.Definitions.{definition_at, theorems_at, IsDefinitionIn, number_of}
use Rattle.ot_kernel.specs.Spelled.{sequent_of, IsInside}

-- the state with theorems at the end
abbrev pub adding : State → List Theorem → State
adding s ths = record s { theorems = s.theorems ++ map (sequent_of s.terms) ths }

-- the definition, which reads its theorems at the end
abbrev pub added_definition : State → List Theorem → code.Definition → Definition Name
added_definition s ths c = definition_at (adding s ths) c

-- the state with theorems and their definition at the ends
abbrev pub accepting : State → List Theorem → code.Definition → State
accepting s ths c = record (adding s ths) { definitions = s.definitions ++ added_definition s ths c ∷ [] }

-- the state with a definition and its theorems at the ends
abbrev pub defining : State → Definition Name → State
defining s d = record s { theorems = s.theorems ++ theorems names d; definitions = s.definitions ++ d ∷ [] }

-- the state with a definition, its theorems and further ones at the ends
abbrev pub defining_more : State → Definition Name → List (Sequent Name) → State
defining_more s d more =
    record s { theorems = s.theorems ++ (theorems names d ++ more); definitions = s.definitions ++ d ∷ [] }

-- the definition may be next; these are its theorems, with further ones that follow from them, the symbols that it
-- defines, and those that occur in it
pub record IsAcceptable (s : State) (ths : List Theorem) (c : code.Definition) (defs uses : List (Symbol ℕ)) : Type
    0 where
  pub inside : All (IsInside (length s.terms)) ths
  pub within : IsDefinitionIn (length s.names) (length s.types) (length s.theorems + length ths) c
  pub further : List (Sequent Name)
  pub numbered : theorems_at (adding s ths) c ≡ theorems names (added_definition s ths c)
  pub made : map (sequent_of s.terms) ths ≡ theorems names (added_definition s ths c) ++ further
  pub follow : All (IsTheorem names s.assumptions (s.definitions ++ added_definition s ths c ∷ []))
      (theorems names (added_definition s ths c))
      → All (IsTheorem names s.assumptions (s.definitions ++ added_definition s ths c ∷ [])) further
  pub next : IsNext names s.assumptions s.definitions (added_definition s ths c)
  pub symbols_defined : IsSameSet (map (map_symbol (name_at s)) defs) (defined names (added_definition s ths c))
  pub symbols_used : IsSameSet (map (map_symbol (name_at s)) uses) (used names (added_definition s ths c))
  pub defined_below : All (λ x. number_of x < length s.names) defs
  pub used_below : All (λ x. number_of x < length s.names) uses
