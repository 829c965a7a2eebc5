-- What is needed by roots, among definitions: what the roots lead to.
use Rattle.std.specs.Prelude.{◌≡◌, ◌↔◌, ◌⊎◌, ℕ, zero, suc, Bool, ◌||◌, not, List, [], ◌∷◌, ◌++◌, length}
use Rattle.std.specs.List.{flat_map, filter, list_any}
use Rattle.ot_logic.specs.Lists.{IsMember, AreDistinct, IsPart}
use Rattle.ot_trace.specs.Origins.{Origin, parts, symbols}
use Rattle.ot_trace.specs.Reach.{IsReached}

-- d is a part of r, as it is where a theorem of d is one; or one of the symbols of d is
abbrev pub Touches : {N : Type 0} → Origin N → Origin N → Type 0
Touches {N} d r = IsMember d (parts r) ⊎ ((p : Origin N) × IsMember p (parts r) × IsMember p (symbols d))

-- a set of definitions with each that a root or one of the set touches
abbrev pub IsClosed : {N : Type 0} → List (Origin N) → List (Origin N) → (Origin N → Type 0) → Type 0
IsClosed {N} roots ds S = (d r : Origin N) → IsMember d ds → IsMember r roots ⊎ S r → Touches d r → S d

module _ {N : Type 0} (same : Origin N → Origin N → Bool) where
  -- of several with one origin the first alone
  abbrev pub firsts_by : {X : Type 0} → (X → Origin N) → List X → List X
  firsts_by of [] = []
  firsts_by of (x ∷ xs) = x ∷ filter (λ y. not (same (of x) (of y))) (firsts_by of xs)

  abbrev pub firsts : List (Origin N) → List (Origin N)
  firsts = firsts_by (λ o. o)

  abbrev pub is_among : Origin N → List (Origin N) → Bool
  is_among o = list_any (same o)

  -- these are the definitions that the roots need
  pub record IsNeededSet (roots ds found : List (Origin N)) : Type 0 where
    -- those that the roots lead to
    pub reached : (d : Origin N) → IsMember d found ↔ (IsMember d ds × IsReached roots ds d)
    -- in their old order, each once
    pub in_order : found ≡ filter (λ d. is_among d found) (firsts ds)
    pub distinct : AreDistinct found
    -- the least closed set
    pub closed : IsClosed roots ds (λ d. IsMember d found)
    pub least : (S : List (Origin N)) → IsClosed roots ds (λ d. IsMember d S) → IsPart found S

  -- ---- the list of them

  abbrev pub touches : Origin N → Origin N → Bool
  touches d r = list_any (λ p. same p d || list_any (same p) (symbols d)) (parts r)

  -- the definitions that the roots, or the definitions found so far, touch
  abbrev pub round : List (Origin N) → List (Origin N) → List (Origin N) → List (Origin N)
  round roots ds found = filter (λ d. list_any (touches d) (roots ++ found)) ds

  abbrev pub rounds : ℕ → List (Origin N) → List (Origin N) → List (Origin N)
  rounds zero roots ds = []
  rounds (suc k) roots ds = round roots ds (rounds k roots ds)

  -- after as many rounds as there are definitions nothing is added
  abbrev pub needed_definitions : List (Origin N) → List (Origin N) → List (Origin N)
  needed_definitions roots ds = rounds (length ds) roots (firsts ds)

  -- the parts of the roots and of the needed definitions, each once
  abbrev pub needed_origins : List (Origin N) → List (Origin N) → List (Origin N)
  needed_origins roots ds = firsts (flat_map parts (needed_definitions roots ds ++ roots))
