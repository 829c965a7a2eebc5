-- Theorems of a list found by their conclusion and one of their hypotheses.
use Rattle.std.specs.Prelude.{◌≡◌, ℕ, ◌<◌, ◌&&◌, Bool, List, [], length, slice_get, Some}
use Rattle.std.specs.List.{All}
use Rattle.ot_logic.specs.Lists.{IsMember}
use Rattle.ot_logic.specs.Names.{Name}
use Rattle.ot_logic.specs.Trees.{Tm, Sequent}
use Rattle.ot_logic.specs.Hol.{same_tm, all_in}
use Rattle.ot_logic.specs.Naming.{names}
use Rattle.ot_kernel.specs.declared.candidates.Part.{Part}
use Rattle.ot_kernel.specs.declared.candidates.Part.TheVariants.{Bare, With}
use Rattle.ot_kernel.specs.declared.candidates.Candidates.{Candidates}
use Rattle.ot_kernel.specs.Chains.{AreChained}
use Rattle.ot_kernel.specs.State.{State, term_at, theorem_at}

-- the numbers of the theorems
abbrev pub theorems_in : Candidates → List ℕ
theorems_in c = c.theorems.items

-- whether q has the conclusion of r, and hypotheses among those of r
abbrev pub is_stronger : Sequent Name → Sequent Name → Bool
is_stronger q r = all_in names q.hyps r.hyps && same_tm names q.concl r.concl

-- the number is that of the class of p
pub record HasClass (s : State) (p : Tm Name) (class : ℕ) : Type 0 where
  pub term : ℕ
  pub within : term < length s.terms
  pub classed : slice_get s.classes term ≡ Some class
  pub is : term_at s term ≡ p

-- the number is that of the class of one of these
abbrev pub HasOneOf : State → List (Tm Name) → ℕ → Type 0
HasOneOf s ps class = (p : Tm Name) × IsMember p ps × HasClass s p class

-- the class of the conclusion where there are no hypotheses, or the classes of the conclusion and of one of them
abbrev pub HasPart : State → Sequent Name → Part → Type 0
HasPart s q (Bare concl) = HasClass s q.concl concl × (q.hyps ≡ [])
HasPart s q (With concl hyp) = HasClass s q.concl concl × HasOneOf s q.hyps hyp

-- the parts of theorems, each at its place
pub record HaveParts (s : State) (ths : List ℕ) (parts : List Part) : Type 0 where
  pub many : length parts ≡ length ths
  pub each : (j i : ℕ) (p : Part) → slice_get ths j ≡ Some i → slice_get parts j ≡ Some p
      → HasPart s (theorem_at s i) p

-- the theorems are of the state, and those of one part are chained
pub record AreCandidates (s : State) (c : Candidates) : Type 0 where
  pub numbered : All (λ i. i < length s.theorems) (theorems_in c)
  pub parts : List Part
  pub have : HaveParts s (theorems_in c) parts
  pub chained : AreChained parts c.chains
