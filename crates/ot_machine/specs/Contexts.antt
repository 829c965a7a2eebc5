-- What a context stands for, over a session.
use Rattle.std.specs.Prelude.{◌≡◌, ◌<◌, List, length, map}
use Rattle.std.specs.List.{All}
use Rattle.ot_interp.specs.Interpretation.{map_interpretation, IsWithin}
use Rattle.ot_kernel.specs.State as kernel
use Rattle.ot_kernel.specs.Candidates.{theorems_in, AreCandidates}
use Rattle.ot_kernel.specs.declared.candidates.Candidates.{Candidates}
use Rattle.ot_machine.specs.declared.session.Session.{Session}
use Rattle.ot_machine.specs.declared.context.Context as code
use Rattle.ot_machine.specs.declared.context.Given as code_given
use Rattle.ot_machine.specs.States.{Given, Context}
use Rattle.ot_machine.specs.Meaning.{origin_of}

abbrev pub given_of : Session → code_given.Given → Given
given_of s g = record { sequent = kernel.theorem_at s.kernel g.th; origin = origin_of s g.step }

-- the names, the sequents and the origins that the numbers of a context stand for
abbrev pub context_of : Session → code.Context → Context
context_of s c = record {
  interpretation = map_interpretation (kernel.name_at s.kernel) c.interp.now;
  theorems = map (given_of s) c.theorems.now;
}

-- the candidates are these theorems
pub record AreCandidatesOf (s : Session) (gs : List code_given.Given) (c : Candidates) : Type 0 where
  pub theorems : theorems_in c ≡ map (λ g. g.th) gs
  pub found : AreCandidates s.kernel c

-- the numbers of a context are of the session, and its theorems are the candidates
pub record IsContextOf (s : Session) (c : code.Context) : Type 0 where
  pub interpretation : IsWithin (length s.kernel.names) c.interp.now
  pub theorems : All (λ g. g.th < length s.kernel.theorems) c.theorems.now
  pub steps : All (λ g. g.step < length s.trace) c.theorems.now
  pub candidates : AreCandidatesOf s c.theorems.now c.candidates.now
