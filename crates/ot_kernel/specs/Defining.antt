-- The rules by which definitions are accepted, and their theorems.
use Rattle.std.specs.Prelude.{List, [], ◌∷◌, Result, Ok}
use Rattle.std.specs.List.{flat_map}
use Rattle.ot_logic.specs.Trees.{Alphabet, Variable, Tm, Sequent, Symbol, Definition, ConDef, ListDef, TyDef}
use Rattle.ot_logic.specs.Hol.{is_shallow_sequent, theorems, defined, used}
use Rattle.ot_logic.specs.Faults.{Fault, Nesting}
use Rattle.ot_logic.specs.Answers.{◌>>=◌, unless}
use Rattle.std.specs.List.{list_all}
use Rattle.ot_laws.specs.Conditions.{checked_const, checked_list, checked_type}

module _ {N : Type 0} (alphabet : Alphabet N) where
  -- ---- the symbols of a run

  abbrev pub all_defined : List (Definition N) → List (Symbol N)
  all_defined dl = flat_map (defined alphabet) dl

  abbrev pub all_used : List (Definition N) → List (Symbol N)
  all_used dl = flat_map (used alphabet) dl

  -- ---- each definition after those before it, or its one refusal; the nesting limit of its theorems comes last

  abbrev pub Defining : Type 0
  Defining = Result (Definition N) (Fault N)

  -- a definition whose theorems are within the limit
  abbrev pub limited_definition : Definition N → Defining
  limited_definition d = do
    _ ← unless Nesting (list_all (is_shallow_sequent alphabet) (theorems alphabet d))
    Ok d

  abbrev pub const_definition : List (Definition N) → N → Tm N → Defining
  const_definition dl n t = do
    _ ← checked_const alphabet (all_defined dl) (all_used dl) n t
    limited_definition (ConDef n t)

  -- pairs of names and variables, as long as there are both
  abbrev pub zipped : List N → List (Variable N) → List (N × Variable N)
  zipped (n ∷ ns) (v ∷ vs) = (n, v) ∷ zipped ns vs
  zipped _ _ = []

  -- its theorem is within the limit where the premise is
  abbrev pub list_definition : List (Definition N) → List N → List (Variable N) → Sequent N → Defining
  list_definition dl ns vs q = do
    _ ← checked_list alphabet (all_defined dl) (all_used dl) ns vs q
    Ok (ListDef (zipped ns vs) q)

  abbrev pub type_definition : List (Definition N) → (n abs rep : N) → List N → Sequent N → Defining
  type_definition dl n abs rep vars q = do
    _ ← checked_type alphabet (all_defined dl) (all_used dl) n abs rep vars q
    limited_definition (TyDef n abs rep vars q)
