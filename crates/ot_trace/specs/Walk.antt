-- The walk over a table of steps, by number.
use Rattle.std.specs.Prelude.{◌≡◌, ◌+◌, ◌<◌, ◌⊎◌, ℕ, suc, cond, Bool, List, [], ◌∷◌, length, map, Some, nat_eq}
use Rattle.std.specs.Map.{lookup}
use Rattle.ot_logic.specs.Lists.{IsMember}
use Rattle.ot_trace.specs.Origins.{Origin, symbols}
use Rattle.ot_trace.specs.Trace.{origin_at, IsPartOf}
use Rattle.ot_trace.specs.Reach.{IsMarked}
use Rattle.ot_trace.specs.declared.step.Step.{Step}
use Rattle.ot_trace.specs.declared.step.Step.TheVariants as steps

-- how many places aren't marked
abbrev pub unmarked : List Bool → ℕ
unmarked [] = 0
unmarked (b ∷ bs) = cond b (unmarked bs) (suc (unmarked bs))

-- from marks ms and waiting numbers ps to ns and qs: those that are asked for are marked now, and the new ones of
-- them wait
pub record Visits (IsAsked : ℕ → Type 0) (ms : List Bool) (ps : List ℕ) (ns : List Bool) (qs : List ℕ) : Type 0 where
  pub same_length : length ns ≡ length ms
  pub visited : (i : ℕ) → IsAsked i → IsMarked ns i
  pub kept : (i : ℕ) → IsMarked ms i → IsMarked ns i
  pub only : (i : ℕ) → IsMarked ns i → IsMarked ms i ⊎ (IsAsked i × IsMember i qs)
  pub waits : (i : ℕ) → IsMember i ps → IsMember i qs
  pub each : (i : ℕ) → IsMember i qs → IsMember i ps ⊎ IsAsked i
  pub left : unmarked ns + length qs ≡ unmarked ms + length ps

-- d is noted as a definition of the symbol s: as the first one, or as a further one
abbrev pub IsNoted : List (ℕ × ℕ) → List (ℕ × ℕ) → ℕ → ℕ → Type 0
IsNoted first further s d = (lookup (nat_eq s) first ≡ Some d) ⊎ IsMember (s, d) further

-- some symbols of a definition are noted
pub record Notes (ss : List ℕ) (d : ℕ) (first further newer more : List (ℕ × ℕ)) : Type 0 where
  pub kept : (s e : ℕ) → IsNoted first further s e → IsNoted newer more s e
  pub noted : (s : ℕ) → IsMember s ss → IsNoted newer more s d
  pub only : (s e : ℕ) → IsNoted newer more s e → IsNoted first further s e ⊎ (IsMember s ss × (e ≡ d))

-- noted are the definitions of each symbol of the table
pub record AreDefiners (ts : List (Origin ℕ)) (ds : List ℕ) (first further : List (ℕ × ℕ)) : Type 0 where
  pub inside : (d : ℕ) → IsMember d ds → d < length ts
  pub sound : (s d : ℕ) → IsNoted first further s d
      → IsMember d ds × IsMember (origin_at ts s) (symbols (origin_at ts d))
  pub all : (s d : ℕ) → s < length ts → IsMember d ds → IsMember (origin_at ts s) (symbols (origin_at ts d))
      → IsNoted first further s d

-- o leads to p: a part, or a definition of a symbol
abbrev pub LeadsTo : List (Origin ℕ) → Origin ℕ → Origin ℕ → Type 0
LeadsTo ds o p = IsPartOf p o ⊎ (IsMember p ds × IsMember o (symbols p))

-- the step of one number leads to that of another
abbrev pub StepLeadsTo : List (Origin ℕ) → List ℕ → ℕ → ℕ → Type 0
StepLeadsTo ts ds i j = (j < length ts) × LeadsTo (map (origin_at ts) ds) (origin_at ts i) (origin_at ts j)

-- the numbers of the parts of a step
abbrev pub IsPartNumber : Step → ℕ → Type 0
IsPartNumber (steps.Number k) j = ⊥
IsPartNumber (steps.Name n) j = ⊥
IsPartNumber (steps.Make w ops) j = IsMember j ops
IsPartNumber (steps.Define w ops syms) j = IsMember j ops.value.items
IsPartNumber (steps.Outcome i d) j = j ≡ d

-- the numbers of the symbols of a step
abbrev pub symbol_numbers : Step → List ℕ
symbol_numbers (steps.Number k) = []
symbol_numbers (steps.Name n) = []
symbol_numbers (steps.Make w ops) = []
symbol_numbers (steps.Define w ops syms) = syms.value.items
symbol_numbers (steps.Outcome i d) = []
