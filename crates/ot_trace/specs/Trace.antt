-- The table of steps: each number stands for an origin.
use Rattle.std.specs.Prelude.{◌≡◌, ℕ, ◌<◌, ◌⊎◌, length, List, [], ◌∷◌, slice_index_or, map, pos}
use Rattle.std.specs.List.{All}
use Rattle.ot_trace.specs.Origins.{Origin, Origins, Number, Named, Make, Define}
use Rattle.ot_trace.specs.Origins.{Outcome, NoOrigins, MoreOrigins, operands, symbols}
use Rattle.ot_logic.specs.Table.{IsInjective}
use Rattle.ot_logic.specs.Lists.{IsMember}
use Rattle.ot_logic.specs.Interned.{trees_of, IsSound}
use Rattle.ot_trace.specs.declared.step.Step.{Step}
use Rattle.ot_trace.specs.declared.step.Step.TheVariants as steps

-- the origin of a number of the table
abbrev pub origin_at : List (Origin ℕ) → ℕ → Origin ℕ
origin_at ts i = slice_index_or ts i (Number (pos 0))

-- the origins of the numbers, one after another
abbrev pub origins_at : List (Origin ℕ) → List ℕ → Origins ℕ
origins_at ts [] = NoOrigins
origins_at ts (i ∷ is) = MoreOrigins (origin_at ts i) (origins_at ts is)

-- the origin of a step whose numbers are of the table
abbrev pub origin_of : List (Origin ℕ) → Step → Origin ℕ
origin_of ts (steps.Number k) = Number k
origin_of ts (steps.Name n) = Named n
origin_of ts (steps.Make w ops) = Make w (origins_at ts ops)
origin_of ts (steps.Define w ops syms) = Define w (origins_at ts ops.value.items)
origin_of ts (steps.Outcome j d) = Outcome j (origin_at ts d)

-- the numbers of a step's operands
abbrev pub operand_numbers : Step → List ℕ
operand_numbers (steps.Number k) = []
operand_numbers (steps.Name n) = []
operand_numbers (steps.Make w ops) = ops
operand_numbers (steps.Define w ops syms) = ops.value.items
operand_numbers (steps.Outcome j d) = []

-- the step's numbers are below
abbrev pub IsBelow : ℕ → Step → Type 0
IsBelow k (steps.Number n) = Unit {0}
IsBelow k (steps.Name n) = Unit {0}
IsBelow k (steps.Make w ops) = All (λ i. i < k) ops
IsBelow k (steps.Define w ops syms) = All (λ i. i < k) ops.value.items × All (λ i. i < k) syms.value.items
IsBelow k (steps.Outcome j d) = d < k

-- a definition has the steps of its symbols, in their order
abbrev pub HasSymbols : List (Origin ℕ) → Step → Type 0
HasSymbols ts (steps.Define w ops syms) = map (origin_at ts) syms.value.items ≡ symbols (Define w (origins_at ts ops.value.items))
HasSymbols ts (steps.Number k) = Unit {0}
HasSymbols ts (steps.Name n) = Unit {0}
HasSymbols ts (steps.Make w ops) = Unit {0}
HasSymbols ts (steps.Outcome j d) = Unit {0}

-- p is an operand of o, or the definition of a theorem o
abbrev pub IsPartOf : Origin ℕ → Origin ℕ → Type 0
IsPartOf p o = IsMember p (operands o) ⊎ ((j : ℕ) × (o ≡ Outcome j p))

-- what holds of the origins of each table: each stands once, above its parts
pub record IsStepTable (ts : List (Origin ℕ)) : Type 0 where
  pub injective : IsInjective ts
  pub closed : (i : ℕ) (p : Origin ℕ) → i < length ts → IsPartOf p (origin_at ts i)
      → (k : ℕ) × (k < i) × (origin_at ts k ≡ p)

-- the origins of the entries
abbrev pub origins : List (Step × Unit {0}) → List (Origin ℕ)
origins es = trees_of origin_of es

-- what the fields keep
abbrev pub IsTrace : List (Step × Unit {0}) → List (Origin ℕ) → Type 0
IsTrace es ts = IsSound origin_of IsBelow (λ ts s u. HasSymbols ts s) es ts
