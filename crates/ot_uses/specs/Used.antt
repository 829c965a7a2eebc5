-- What the origin of a theorem leads to in a run: the assumptions and the definitions that the theorem rests on.
use Rattle.std.specs.Prelude.{ℕ, suc, Bool, List, [], ◌∷◌, map}
use Rattle.std.specs.List.{filter}
use Rattle.ot_logic.specs.Names.{Name}
use Rattle.ot_logic.specs.Naming.{names}
use Rattle.ot_logic.specs.Trees.{Sequent, Definition}
use Rattle.ot_trace.specs.Origins.{Origin}
use Rattle.ot_written.specs.Same.{same_origin}
use Rattle.ot_written.specs.Needed.{firsts_by, is_among, needed_definitions, needed_origins}
use Rattle.ot_machine.specs.States.{Export, Given, Made, RunState}
use Rattle.ot_machine.specs.Rows.{definitions_of}

-- whether two origins are one
abbrev pub same : Origin Name → Origin Name → Bool
same = same_origin names.same

module _ (r : RunState) (o : Origin Name) where
  abbrev pub origins_made : List (Origin Name)
  origins_made = map (λ m. m.origin) r.definitions

  -- the needed definitions of the origin have this one; the needed origins have this axiom
  abbrev pub is_used : Made → Bool
  is_used m = is_among same m.origin (needed_definitions same (o ∷ []) origins_made)

  abbrev pub is_assumed : Given → Bool
  is_assumed g = is_among same g.origin (needed_origins same (o ∷ []) origins_made)

  -- ---- in their old order, of several definitions with one origin the first alone

  abbrev pub used_assumptions : List Given
  used_assumptions = filter is_assumed r.assumptions

  abbrev pub used_definitions : List Made
  used_definitions = filter is_used (firsts_by same (λ m. m.origin) r.definitions)

-- ---- their places in the lists of the run

-- each with its place, the first at k
abbrev pub beside_places : {X : Type 0} → ℕ → List X → List (ℕ × X)
beside_places k [] = []
beside_places k (x ∷ xs) = (k, x) ∷ beside_places (suc k) xs

abbrev pub places_in : {X : Type 0} → List (ℕ × X) → List ℕ
places_in = map (λ p. p.0)

abbrev pub assumption_places : RunState → Origin Name → List ℕ
assumption_places r o = places_in (filter (λ p. is_assumed r o p.1) (beside_places 0 r.assumptions))

abbrev pub definition_places : RunState → Origin Name → List ℕ
definition_places r o =
    places_in (filter (λ p. is_used r o p.1) (firsts_by same (λ p. p.1.origin) (beside_places 0 r.definitions)))

-- ---- a theorem with what it rests on

pub record Support : Type 0 where
  pub theorem : Sequent Name
  pub assumptions : List (Sequent Name)
  pub definitions : List (Definition Name)

-- of an export
abbrev pub support_of : RunState → Export → Support
support_of r e = record {
  theorem = e.sequent;
  assumptions = map (λ g. g.sequent) (used_assumptions r e.roots.theorem);
  definitions = definitions_of (used_definitions r e.roots.theorem);
}
