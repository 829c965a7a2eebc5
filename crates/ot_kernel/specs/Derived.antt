-- A theorem that a rule derives, as the next of a kernel's theorems.
use Rattle.std.specs.Prelude.{◌≡◌, ℕ, [], ◌∷◌, ◌++◌, length, Result, Ok, Err}
use Rattle.ot_logic.specs.Naming.{names}
use Rattle.ot_logic.specs.RanOut.{ran_out}
use Rattle.ot_laws.specs.Theorem.{IsTheorem}
use Rattle.ot_kernel.specs.declared.theorem.Theorem.{Theorem}
use Rattle.ot_kernel.specs.declared.fault.RuleFault.{RuleFault}
use Rattle.ot_kernel.specs.declared.fault.RuleFault.TheVariants.{Memory}
use Rattle.ot_kernel.specs.State.{State}
use Rattle.ot_kernel.specs.Spelled.{sequent_of, IsInside}

-- the theorem is over the state's terms, and follows from its assumptions
pub record Follows (s : State) (th : Theorem) : Type 0 where
  pub inside : IsInside (length s.terms) th
  pub follows : IsTheorem names s.assumptions s.definitions (sequent_of s.terms th)

-- a theorem that was derived takes the next number, where memory allows; a refusal stays
abbrev pub AddsTheorem : Result ℕ RuleFault → Result Theorem RuleFault → State → State → Type 0
AddsTheorem (Ok id) (Ok th) old new = (new ≡ record old { theorems = old.theorems ++ sequent_of old.terms th ∷ [] })
    × (id ≡ length old.theorems)
AddsTheorem (Ok id) (Err f) old new = ⊥
AddsTheorem (Err e) (Ok th) old new = (new ≡ old) × (e ≡ Memory ran_out)
AddsTheorem (Err e) (Err f) old new = (new ≡ old) × (e ≡ f)
