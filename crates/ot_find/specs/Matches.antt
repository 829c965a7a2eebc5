-- The exports of several sources whose conclusion a pattern matches, with the maps.
use Rattle.std.specs.Prelude.{◌≡◌, ◌↔◌, ℕ, List, [], ◌∷◌, ◌++◌, Option, Some, None, ◌⊎◌}
use Rattle.ot_logic.specs.Names.{Name}
use Rattle.ot_logic.specs.Naming.{names}
use Rattle.ot_logic.specs.Trees.{Tm, Sequent}
use Rattle.ot_logic.specs.Hol.{TypeMap, TermMap}
use Rattle.ot_match.specs.Matching.{matched, IsMatch}

-- where theorems come from: what it is called, and its exports in order
pub record Source : Type 0 where
  pub name : List ℕ
  pub exports : List (Sequent Name)

-- an export that the pattern matches: what its source is called, its sequent, and what stands for the pattern's
-- variables
pub record Found : Type 0 where
  pub source : List ℕ
  pub sequent : Sequent Name
  pub types : TypeMap names
  pub vars : TermMap names

-- ---- the matches, computed

-- an export with the maps, if there are any
abbrev pub found : List ℕ → Sequent Name → Option (TypeMap names × TermMap names) → List Found
found source q None = []
found source q (Some w) = (record { source = source; sequent = q; types = w.0; vars = w.1 }) ∷ []

-- the matches among the exports of one source, in order
abbrev pub matches_in : Tm Name → List ℕ → List (Sequent Name) → List Found
matches_in p source [] = []
matches_in p source (q ∷ qs) = found source q (matched names p q.concl) ++ matches_in p source qs

-- those among the exports of several, one source after another
abbrev pub matches : Tm Name → List Source → List Found
matches p [] = []
matches p (s ∷ ss) = matches_in p s.name s.exports ++ matches p ss

-- ---- what the matches are

-- an export of a source
pub record Export : Type 0 where
  pub source : List ℕ
  pub sequent : Sequent Name

abbrev pub exports_in : List ℕ → List (Sequent Name) → List Export
exports_in source [] = []
exports_in source (q ∷ qs) = (record { source = source; sequent = q }) ∷ exports_in source qs

-- all exports, one source after another
abbrev pub exports_of : List Source → List Export
exports_of [] = []
exports_of (s ∷ ss) = exports_in s.name s.exports ++ exports_of ss

-- it is this export, with maps that match the pattern with its conclusion
pub record IsFound (p : Tm Name) (e : Export) (f : Found) : Type 0 where
  pub source : f.source ≡ e.source
  pub sequent : f.sequent ≡ e.sequent
  pub match_ : IsMatch names p e.sequent.concl f.types f.vars

-- no maps match the pattern with its conclusion
abbrev pub HasNoMatch : Tm Name → Export → Type 0
HasNoMatch p e = (s : TypeMap names) (m : TermMap names) → ¬ (IsMatch names p e.sequent.concl s m)

-- those of the exports that the pattern matches, in order: each export stands there once, with its maps, or has none
abbrev pub AreMatches : Tm Name → List Export → List Found → Type 0
AreMatches p [] [] = Unit {0}
AreMatches p [] (f ∷ fs) = ⊥
AreMatches p (e ∷ es) [] = HasNoMatch p e × AreMatches p es []
AreMatches p (e ∷ es) (f ∷ fs) = (IsFound p e f × AreMatches p es fs) ⊎ (HasNoMatch p e × AreMatches p es (f ∷ fs))

-- a law: the computed matches are those, and no other list is
abbrev pub MatchesAreThose : Type 0
MatchesAreThose = (p : Tm Name) (ss : List Source) (fs : List Found) → AreMatches p (exports_of ss) fs
    ↔ (fs ≡ matches p ss)

-- a law: the matches of one source more stand behind those of the others
abbrev pub MatchesOfOneMore : Type 0
MatchesOfOneMore =
    (p : Tm Name) (ss : List Source) (s : Source) → matches p (ss ++ s ∷ []) ≡ matches p ss
    ++ matches_in p s.name s.exports
