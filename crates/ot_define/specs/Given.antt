-- What hypotheses give variables, in the code's numbers.
use Rattle.std.specs.Prelude.{◌≡◌, ℕ, ◌<◌, List, [], ◌∷◌, map, length, Option, Some, None}
use Rattle.std.specs.Map.{lookup}
use Rattle.std.specs.Option.{option_map, option_and_then}
use Rattle.ot_logic.specs.Trees.{Ty, Variable, Tm, Free, Named}
use Rattle.ot_logic.specs.Naming.{numbers}
use Rattle.ot_laws.specs.Conditions.{given}
use Rattle.ot_term.specs.TermTable.{variable_of}
use Rattle.ot_term.specs.declared.term.VarKey.{VarKey}
use Rattle.ot_term.specs.contracts.term.VarKeyPartialEq.TheImpl as keys
use Rattle.ot_define.specs.Answers.{tm_at}

-- the variable that the term is
abbrev pub as_variable : Tm ℕ → Option (Variable ℕ)
as_variable (Free v) = Some v
as_variable _ = None

-- the variable that an equation gives a term, with the term
abbrev pub gives : Option (Ty ℕ × Tm ℕ × Tm ℕ) → Option (Variable ℕ × Tm ℕ)
gives equation = option_and_then (λ sides. option_map (λ v. (v, sides.2)) (as_variable sides.1)) equation

-- what is kept of the terms that a variable is given: the term where it is one alone
abbrev pub kept_of : {X : Type 0} → List X → Option (Option X)
kept_of [] = None
kept_of (t ∷ []) = Some (Some t)
kept_of _ = Some None

-- what the entries keep for a variable
abbrev pub kept : List (VarKey × Option ℕ) → VarKey → Option (Option ℕ)
kept entries v = lookup (keys.ghosts.eq v) entries

-- the term that the entries keep for a variable
abbrev pub only_kept : List (VarKey × Option ℕ) → VarKey → Option ℕ
only_kept entries v = option_and_then (λ only. only) (kept entries v)

-- the entries keep what these hypotheses give each variable
pub record Keeps (tys : List (Ty ℕ)) (ts : List (Named ℕ)) (hyps : List ℕ) (entries : List (VarKey × Option ℕ)) : Type
    0 where
  pub terms : (v : VarKey) → v.ty < length tys → option_map (option_map (tm_at ts)) (kept entries v)
      ≡ kept_of (given numbers (map (tm_at ts) hyps) (variable_of tys v))
  pub inside : (v : VarKey) (i : ℕ) → kept entries v ≡ Some (Some i) → i < length ts
