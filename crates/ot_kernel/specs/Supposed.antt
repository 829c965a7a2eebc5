-- A sequent that becomes an assumption.
use Rattle.std.specs.Prelude.{◌≡◌, ℕ, ◌<◌, [], ◌∷◌, ◌++◌, length}
use Rattle.ot_logic.specs.Lists.{AreDistinct}
use Rattle.ot_logic.specs.Names.{Name}
use Rattle.ot_logic.specs.Trees.{Sequent}
use Rattle.ot_logic.specs.Hol.{IsSequent}
use Rattle.ot_logic.specs.Naming.{names}
use Rattle.ot_kernel.specs.declared.theorem.Theorem.{Theorem}
use Rattle.ot_kernel.specs.State.{State, theorem_at, Keeps}
use Rattle.ot_kernel.specs.Spelled.{sequent_of, IsInside}
use Rattle.ot_kernel.specs.Axioms.{known, with_sequent, with_theorem}

-- over the state's terms, of propositions alone, and no hypothesis twice
pub record IsProposed (s : State) (th : Theorem) : Type 0 where
  pub inside : IsInside (length s.terms) th
  pub sequent : IsSequent names (sequent_of s.terms th)
  pub distinct : AreDistinct (sequent_of s.terms th).hyps

-- the number of the assumption of q, which is the last one where it is new
pub record IsSupposed (id : ℕ) (q : Sequent Name) (old new : State) : Type 0 where
  pub within : id < length new.theorems
  pub theorem : theorem_at new id ≡ known old.assumptions q
  pub assumptions : new.assumptions ≡ with_sequent old.assumptions q
  pub definitions : new.definitions ≡ old.definitions
  pub theorems : new.theorems ≡ with_theorem old.theorems old.assumptions q
  pub keeps : Keeps old new

-- the state with q as the last assumption and the last theorem
abbrev pub supposing : State → Sequent Name → State
supposing s q = record s { theorems = s.theorems ++ q ∷ []; assumptions = s.assumptions ++ q ∷ [] }
