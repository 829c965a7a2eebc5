-- The theorem that a term follows from itself.
use Rattle.std.specs.Prelude.{Ok}
use Rattle.std.proofs.Common.{◌≡◌, ℕ, ◌<◌, true, [], ◌∷◌, List, map, length, refl, ◌∙◌}
use Rattle.ot_logic.specs.Names.{Name}
use Rattle.ot_logic.specs.Trees.{Tm, Sequent, Definition}
use Rattle.ot_logic.specs.Hol.{bool_ty}
use Rattle.ot_logic.specs.NamedTerms.{nameless}
use Rattle.ot_logic.specs.Rules.{has_type, assume_rule}
use Rattle.ot_logic.specs.Naming.{names}
use Rattle.ot_laws.specs.Theorem.{IsTheorem}
use Rattle.ot_laws.proofs.Sound.{assume_rule-sound}
use Rattle.ot_laws.proofs.Tests.{tells_names}
use Rattle.ot_kernel.specs.declared.theorem.Theorem.{Theorem}
use Rattle.ot_kernel.specs.State.{State, named_at, term_at, Keeps}
use Rattle.ot_kernel.specs.Spelled.{sequent_of}
use Rattle.ot_kernel.proofs.Growth.{named_at-Extends}

-- ---- p |- p
-- the only hypothesis and the conclusion
abbrev pub by_itself : Tm Name → Sequent Name
by_itself p = record { hyps = p ∷ []; concl = p }

pub assumed : (p : Tm Name) → has_type names p (bool_ty names) ≡ true → assume_rule names p ≡ Ok (by_itself p)
assumed p h = rw h refl

pub assumed_follows : (al : List (Sequent Name)) (dl : List (Definition Name)) (p : Tm Name)
    → has_type names p (bool_ty names) ≡ true → IsTheorem names al dl (by_itself p)
assumed_follows al dl p h = assume_rule-sound names tells_names al dl p (by_itself p) (assumed p h)

pub assumed_sequent : (now mid : State) → Keeps now mid → (t : ℕ) → t < length now.terms → (th : Theorem)
    → th.hyps ≡ t ∷ [] → th.concl ≡ t → sequent_of mid.terms th ≡ by_itself (term_at now t)
assumed_sequent now mid keeps t within th e f =
    let same = named_at-Extends now.terms mid.terms keeps.terms t within in
    (λ j. record {
      hyps = map (λ i. nameless names (named_at mid.terms i)) (e j);
      concl = nameless names (named_at mid.terms (f j));
    }) ∙ (λ j. by_itself (nameless names (same j)))
