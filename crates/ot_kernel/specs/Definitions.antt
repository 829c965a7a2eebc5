-- Definitions by number, as the definitions that they stand for.
use Rattle.std.specs.Prelude.{◌≡◌, ℕ, ◌<◌, List as Items, [], ◌∷◌, map, length}
use Rattle.std.specs.List.{All}
use Rattle.ot_logic.specs.Names.{Name}
use Rattle.ot_logic.specs.Trees.{Variable, Tm, App, Sequent, Symbol, ConSymbol}
use Rattle.ot_logic.specs.Trees.{OpSymbol, Definition, ConDef, ListDef, TyDef}
use Rattle.ot_logic.specs.Hol.{theorems}
use Rattle.ot_logic.specs.Naming.{names, name_of}
use Rattle.ot_logic.specs.Renamed.{map_symbol}
use Rattle.ot_laws.specs.Next.{AreSymbolsOf}
use Rattle.ot_define.specs.Signature.{Symbols}
use Rattle.ot_term.specs.declared.term.VarKey.{VarKey}
use Rattle.ot_kernel.specs.declared.definition.Definition as code
use Rattle.ot_kernel.specs.declared.definition.Definition.TheVariants.{Con, List, TyOp}
use Rattle.ot_kernel.specs.State.{State, name_at, variable_at, theorem_at}

-- the right side of an equation
abbrev pub right_side : Tm Name → Tm Name
right_side (App f x) = x
right_side t = t

-- names with variables, as long as there are both
abbrev pub pairs_at : State → Items ℕ → Items VarKey → Items (Name × Variable Name)
pairs_at s (n ∷ ns) (v ∷ vs) = (name_at s n, variable_at s v) ∷ pairs_at s ns vs
pairs_at s _ _ = []

abbrev pub definition_at : State → code.Definition → Definition Name
definition_at s (Con name th) = ConDef (name_at s name) (right_side (theorem_at s th).concl)
definition_at s (List names vars premise th) = ListDef (pairs_at s names.items vars.items) (theorem_at s premise)
definition_at s (TyOp name abs rep vars premise abs_th rep_th) =
    TyDef (name_at s name) (name_at s abs) (name_at s rep) (map (name_at s) vars.items) (theorem_at s premise)

-- ---- what is kept of them

-- the numbers of pairs are of a kernel with n names and t types, and there are as many names as variables
pub record ArePairsIn (n t : ℕ) (ns : Items ℕ) (vs : Items VarKey) : Type 0 where
  pub names : All (λ i. i < n) ns
  pub variables : All (λ v. (v.name < n) × (v.ty < t)) vs
  pub many : length ns ≡ length vs

-- the numbers of a definition are of a kernel with n names, t types and h theorems
abbrev pub IsDefinitionIn : (n t h : ℕ) → code.Definition → Type 0
IsDefinitionIn n t h (Con name th) = (name < n) × (th < h)
IsDefinitionIn n t h (List names vars premise th) = ArePairsIn n t names.items vars.items × (premise < h) × (th < h)
IsDefinitionIn n t h (TyOp name abs rep vars premise abs_th rep_th) =
    (name < n) × (abs < n) × (rep < n) × All (λ i. i < n) vars.items × (premise < h) × (abs_th < h) × (rep_th < h)

-- the sequents of a definition's theorems
abbrev pub theorems_at : State → code.Definition → Items (Sequent Name)
theorems_at s (Con _ th) = theorem_at s th ∷ []
theorems_at s (List _ _ _ th) = theorem_at s th ∷ []
theorems_at s (TyOp _ _ _ _ _ abs_th rep_th) = theorem_at s abs_th ∷ theorem_at s rep_th ∷ []

-- the numbers of a definition are of the kernel, and its theorems are those that the definition gives
pub record IsHeld (s : State) (d : code.Definition) : Type 0 where
  pub within : IsDefinitionIn (length s.names) (length s.types) (length s.theorems) d
  pub theorems : theorems_at s d ≡ theorems names (definition_at s d)

-- the number of a symbol's name
abbrev pub number_of : Symbol ℕ → ℕ
number_of (ConSymbol n) = n
number_of (OpSymbol n) = n

-- the symbols of the definitions, by number
pub record IsSignature (ns : Items Name) (dl : Items (Definition Name)) (s : Symbols) : Type 0 where
  pub symbols : AreSymbolsOf names dl (map (map_symbol (name_of ns)) s.defined) (map (map_symbol (name_of ns)) s.used)
  pub defined : All (λ x. number_of x < length ns) s.defined
  pub used : All (λ x. number_of x < length ns) s.used
