-- Beta: the body of an abstraction with the argument put in.
use Rattle.std.specs.Prelude.{ℕ, [], ◌∷◌, Option, Some, None}
use Rattle.ot_logic.specs.Trees.{Tm, App, Abs, Named, NApp, NAbs}
use Rattle.ot_logic.specs.Hol.{opened}
use Rattle.ot_logic.specs.NamedTerms.{nameless, HasNoClash}
use Rattle.ot_logic.specs.Naming.{numbers}

-- what beta gives; None where the term is no abstraction applied to a term
abbrev pub contracted : Tm ℕ → Option (Tm ℕ)
contracted (App (Abs a b) u) = Some (opened numbers b u)
contracted _ = None

-- no binder of the body clashes with the argument put in for the variable
abbrev pub HasNoBetaClash : Named ℕ → Type 0
HasNoBetaClash (NApp (NAbs v b) u) = HasNoClash numbers [] ((v, nameless numbers u) ∷ []) b
HasNoBetaClash _ = Unit {0}
